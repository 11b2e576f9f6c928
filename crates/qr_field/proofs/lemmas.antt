-- Lemmas, in files and folders with the name of the file of src that they serve, in the order in which to read them.
pub mod galois
pub mod polynomial
pub mod register
pub mod divisor
pub mod laws
