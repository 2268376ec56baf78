pub mod Blockers
pub mod RowSets
pub mod Reckonings
pub mod Keeping
