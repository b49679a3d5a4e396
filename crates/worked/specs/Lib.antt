-- The table of proved examples, and how its rows are answered.
pub mod Rows
pub mod Runs
pub mod Alone
pub mod InSet
pub mod Buffer
pub mod Recording
pub mod Answers
pub mod Table
