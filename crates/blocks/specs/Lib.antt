pub mod Members
pub mod Footprints
pub mod Views
