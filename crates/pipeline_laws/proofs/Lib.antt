-- Laws of the pipeline over any calls, for a reader: Totals, Owed, Defaults, FewCalls, Hearing, Tilted, Together, Beginning, Keen (demand 3) and Example.
-- Following, Cases, Lengths, NotEight and Scoring serve their proofs.
pub mod Following
pub mod Cases
pub mod Totals
pub mod Lengths
pub mod Owed
pub mod Defaults
pub mod FewCalls
pub mod Hearing
pub mod NotEight
pub mod Tilted
pub mod Scoring
pub mod Together
pub mod Beginning
pub mod Keen
pub mod Example
