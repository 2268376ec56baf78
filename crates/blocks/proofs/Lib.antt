pub mod Bitwise
pub mod Words
pub mod Maps
