-- The numbers of a caller that lends its counters.
pub mod Made
