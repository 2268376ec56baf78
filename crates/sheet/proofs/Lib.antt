pub mod Fresh
pub mod Soundness
