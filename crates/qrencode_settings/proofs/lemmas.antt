-- Lemmas, in files with the name of the file of src that they serve, in the order in which to read them.
pub mod arguments
pub mod settings
