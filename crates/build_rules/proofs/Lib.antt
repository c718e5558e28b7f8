pub mod BuildLaws
pub mod Building
pub mod Inverse
