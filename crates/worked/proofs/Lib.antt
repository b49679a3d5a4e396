-- The one statement over the table.
pub mod Holds
