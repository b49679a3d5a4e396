-- A reply on paper: "Reply numbers" of 01, over any type of what is returned. Definitions only.
use Rattle.std.specs.Prelude.{Bool, true, false, ℕ}

-- what a reply returns: nothing, or something
pub data Returned (A : Type 0) : Type 0 where
  nothing : Returned A
  given : A → Returned A

-- a reply: its number, and what it returns
pub record Answer (A : Type 0) : Type 0 where
  pub number : ℕ
  pub returns : Returned A

abbrev pub answer : {A : Type 0} → ℕ → Returned A → Answer A
answer n r = record { number = n; returns = r }

-- "taken": 0 with its result
abbrev pub taken : {A : Type 0} → A → Answer A
taken a = answer 0 (given a)

-- a refusal that returns nothing, and one that tells something
abbrev pub refusal : {A : Type 0} → ℕ → Answer A
refusal n = answer n nothing

abbrev pub telling : {A : Type 0} → ℕ → A → Answer A
telling n a = answer n (given a)

-- a ruling: nothing against it, or the reply that refuses
pub data Ruling (A : Type 0) : Type 0 where
  fine : Ruling A
  refused : Answer A → Ruling A

-- what the rest says, where the test holds; else what stands here. Tests in 01's order are nested in it
abbrev pub unless : {X : Type 0} → Bool → X → X → X
unless true here rest = rest
unless false here rest = here

-- what is made of a ruling: the first where nothing is against it, else the second of the refusal
abbrev pub ruled : {A X : Type 0} → Ruling A → X → (Answer A → X) → X
ruled fine done other = done
ruled (refused why) done other = other why

-- a reply, and what stands after it
pub record Replied (A S : Type 0) : Type 0 where
  pub reply : Answer A
  pub left : S

abbrev pub replied : {A S : Type 0} → Answer A → S → Replied A S
replied r s = record { reply = r; left = s }
