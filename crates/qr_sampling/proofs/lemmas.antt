-- Lemmas, in files with the name of the file of src that they serve.
pub mod sums
pub mod map
pub mod means
pub mod tables
pub mod levels
pub mod drawn
pub mod colours
pub mod laws
