-- Laws of the set, the batch and the judging, for a reader: Places, Six, Four, Owed, Added, Sound, Keen and Agree. Arms, Pushes and Rounds serve the proofs of the functions.
pub mod Places
pub mod Six
pub mod Four
pub mod Owed
pub mod Added
pub mod Sound
pub mod Agree
pub mod Keen
pub mod Arms
pub mod Pushes
pub mod Rounds
pub mod Taken
