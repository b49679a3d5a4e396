-- What counters, frames, windows, events and thresholds promise by.
pub mod Score
pub mod Settings
pub mod Counters
pub mod Frame
pub mod Window
pub mod Event
