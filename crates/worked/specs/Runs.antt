-- A run: a state, and what each thing that is handed in makes of it. Definitions only.
use Rattle.std.specs.Prelude.{ℕ, ◌+◌, List, [], ◌∷◌, ◌++◌, map, cond, eqb}
use Rattle.worked.specs.Rows.{Fact, refused, Seen, at}

-- a state and what came out, or a refusal by its number
pub data Reply (S : Type 0) : Type 0 where
  goes : S → List Fact → Reply S
  stops : ℕ → Reply S

-- reply 0 goes on, any other number is a refusal
abbrev pub numbered : {S : Type 0} → ℕ → S → List Fact → Reply S
numbered n s facts = cond (eqb n 0) (goes s facts) (stops n)

abbrev pub on : {S X : Type 0} → Reply S → (S → List Fact → X) → (ℕ → X) → X
on (goes s facts) more refuse = more s facts
on (stops why) more refuse = refuse why

-- what comes out from the n-th on; a refusal ends the run
unfoldable pub run_from : {S W : Type 0} → (S → W → Reply S) → ℕ → S → List W → List Seen
run_from step n s [] = []
run_from step n s (w ∷ ws) =
    on (step s w) (λ t facts. map (at n) facts ++ run_from step (n + 1) t ws) (λ why. at n (refused why) ∷ [])

-- the state after what came before the row
unfoldable pub after : {S W : Type 0} → (S → W → Reply S) → S → List W → Reply S
after step s [] = goes s []
after step s (w ∷ ws) = on (step s w) (λ t facts. after step t ws) stops

-- from new; a refusal before the row is seen at 0
abbrev pub run : {S W : Type 0} → (S → W → Reply S) → Reply S → List W → List W → List Seen
run step new before ws =
    on (on new (λ s facts. after step s before) stops) (λ s facts. run_from step 1 s ws) (λ why. at 0 (refused why) ∷ [])
