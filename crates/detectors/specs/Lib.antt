-- The definitions that the promises of the detectors cite, and those that the laws of their histories speak in.
pub mod Common
pub mod Answers
pub mod Replies
pub mod Hysteresis
pub mod Latch
pub mod Presence
pub mod Motion
pub mod Quality
pub mod History
pub mod Pairs
