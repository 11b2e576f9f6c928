-- Lemmas, in files and folders with the name of the file of src that they serve, in the order in which to read them.
pub mod modules
pub mod bits
pub mod encoding
pub mod logo
pub mod interpretation
pub mod reading
pub mod mending
pub mod drawing
pub mod row
pub mod sheets
pub mod finding
