-- Lemmas, in files and folders with the name of the file of src that they serve, in the order in which to read them.
pub mod alignment
pub mod region
pub mod format
pub mod role
pub mod blocks
pub mod order
pub mod strips
pub mod laws
