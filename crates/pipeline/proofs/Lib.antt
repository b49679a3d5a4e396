-- Laws of the pipeline, for a reader: Windows and Agree. Carrying serves the proofs of the functions.
pub mod Windows
pub mod Agree
pub mod Carrying
