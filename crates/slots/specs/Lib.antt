-- Detectors in slots, adding, batches and judging, in 01's words.
pub mod Limits
pub mod Slots
pub mod Adding
pub mod Batches
pub mod Judging
pub mod Runs
