-- Lemmas, in files and folders with the name of the file of src that they serve, in the order in which to read them.
pub mod text
pub mod svg
