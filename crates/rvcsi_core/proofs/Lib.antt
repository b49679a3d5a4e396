-- Laws of counters, windows and events. Other crates cite Valid, Numbered and Tested.
pub mod Tested
pub mod Valid
pub mod Numbered
