-- What the lines of a listing and the counts of a run promise by.
pub mod Text
pub mod Lines
pub mod Counting
