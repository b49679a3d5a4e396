-- What comes out of a call whose counters are lent.
pub mod Lent
