pub mod Settings
pub mod Distance
pub mod Drift
pub mod History
