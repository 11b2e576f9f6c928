pub mod ListLemmas
pub mod PolynomialLemmas
