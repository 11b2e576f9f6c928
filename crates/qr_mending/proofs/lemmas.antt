-- Lemmas, in files and folders with the name of the file of src that they serve, in the order in which to read them.
pub mod sums
pub mod locator
pub mod roots
pub mod errors
pub mod block
pub mod erasures
pub mod format
pub mod message
pub mod mending
pub mod series
pub mod laws
