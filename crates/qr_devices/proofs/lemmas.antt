-- Lemmas, in files with the name of the file of src that they serve.
pub mod pen
pub mod buffer
