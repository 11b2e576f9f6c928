-- Lemmas, in files with the name of the file of src that they serve, in the order in which to read them.
pub mod measures
pub mod boxes
pub mod documents
pub mod pdf
pub mod sheets
