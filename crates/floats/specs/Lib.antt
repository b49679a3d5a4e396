-- Definitions that the float helpers promise by; rounding itself is `round` of the language's own account of IEEE 754.
pub mod Clamp
pub mod Convert
pub mod Sqrt
pub mod Parts
