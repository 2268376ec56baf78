pub mod Ticks
pub mod Verdicts
pub mod Demands
pub mod Solving
pub mod Cases
pub mod Gathering
pub mod Testing
pub mod Own
