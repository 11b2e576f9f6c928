-- What the code does step by step. Only private contracts use these definitions.
pub mod Document
