pub mod ArrayLaws
pub mod Columns
pub mod KeepsLaws
pub mod LentSized
pub mod LookupLaws
pub mod Settings
