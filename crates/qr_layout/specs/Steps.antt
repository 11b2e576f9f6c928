-- What the code does step by step. Only proofs, private contracts and the model of the iterator `Steps` use these
-- definitions.
pub mod Order
pub mod Rectangles
