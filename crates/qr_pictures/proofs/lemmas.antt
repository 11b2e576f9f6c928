-- Lemmas, in files with the name of the file of src that they serve, in the order in which to read them.
pub mod picture
pub mod lines
pub mod drawn
pub mod turn
pub mod frame
pub mod clean
pub mod laws
