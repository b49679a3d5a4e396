-- Laws of the drift detector. Other crates cite Ranges, Confidence, History and Agree.
pub mod Steps
pub mod Thresholds
pub mod Ranges
pub mod Confidence
pub mod History
pub mod Promised
pub mod Agree
pub mod Examples
