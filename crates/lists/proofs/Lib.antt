-- Laws of sums, rows, result lists and tests, and what a loop over each keeps.
pub mod Fold
pub mod Tab
pub mod All
pub mod Paste
pub mod Row
pub mod Small
pub mod Sound
pub mod Lengths
