-- Runs of calls, and two pipelines side by side.
pub mod Calls
pub mod Pairs
