pub mod Casing
pub mod Gathering
pub mod Solving
pub mod Testing
pub mod Filling
pub mod Lining
