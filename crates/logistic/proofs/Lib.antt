-- The laws of the logistic table and of its score.
pub mod Rules
pub mod Line
pub mod Floor
pub mod Range
pub mod Rising
pub mod Exact
pub mod Examples
pub mod Agree
pub mod Presence
pub mod Twenty
