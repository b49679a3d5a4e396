-- Laws of tests, which every crate asks.
pub mod Tests
