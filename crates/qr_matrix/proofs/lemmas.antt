-- Lemmas, in files and folders with the name of the file of src that they serve, in the order in which to read them.
pub mod bit_row
pub mod matrix
pub mod bytes
pub mod matrix_pair
pub mod dark_runs
pub mod difference
pub mod rows
pub mod runs
pub mod windows
pub mod penalties
