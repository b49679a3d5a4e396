-- A number of each kind.
pub mod Each
