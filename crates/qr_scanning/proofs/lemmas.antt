-- Lemmas, in files with the name of the file of src that they serve.
pub mod clean
pub mod laws
pub mod reading
pub mod scanning
pub mod search
