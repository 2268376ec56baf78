pub mod Passing
pub mod RowBits
pub mod Unions
