-- Recent windows, the whole state, making, frames and flushes, in 01's words.
pub mod Recents
pub mod Whole
pub mod Making
pub mod Process
