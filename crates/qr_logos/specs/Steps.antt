-- What the code does step by step. Only proofs and private contracts use these definitions.
pub mod Logo
pub mod Encoding
