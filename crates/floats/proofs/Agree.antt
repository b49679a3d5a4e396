-- Two replies that a promise allows agree: each promise here says that the reply is the value of one definition. Assumes nothing.
use Rattle.std.proofs.Common.{◌≡◌, sym, ◌∙◌}

pub agree : {A : Type 0} {reply other said : A} → reply ≡ said → other ≡ said → reply ≡ other
agree p q = p ∙ sym q
