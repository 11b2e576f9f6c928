-- Lemmas, in files and folders with the name of the file of src that they serve, in the order in which to read them.
pub mod bits
pub mod modes
pub mod stream
pub mod padding
pub mod interpretation
pub mod parsing
pub mod run_state
pub mod best_modes
pub mod segmentation
pub mod longest_prefix
pub mod room
pub mod lower_bound
pub mod folding
pub mod laws
