-- Lemmas, in files and folders with the name of the file of src that they serve, in the order in which to read them.
pub mod interleaving
pub mod words
pub mod placement
pub mod patterns
pub mod mask
pub mod canvas
pub mod version_choice
pub mod encoding
pub mod collecting
pub mod reading
pub mod series
pub mod joining
pub mod fault
