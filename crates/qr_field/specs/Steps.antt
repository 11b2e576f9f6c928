-- How the code computes its results, for private contracts and the invariant of `Divisor`.
pub mod Register
pub mod Polynomial
