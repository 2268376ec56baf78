pub mod Caps
pub mod Views
