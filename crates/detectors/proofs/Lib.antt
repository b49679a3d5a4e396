-- Laws of the detectors. Other crates cite Accepted, Ranges, PresenceHistory, MotionHistory, QualityHistory, Monotone, Confidence, Promised and Agree.
pub mod Accepted
pub mod Ranges
pub mod PresenceHistory
pub mod MotionHistory
pub mod QualityHistory
pub mod Monotone
pub mod Confidence
pub mod Promised
pub mod Agree
pub mod Switch
pub mod Turned
