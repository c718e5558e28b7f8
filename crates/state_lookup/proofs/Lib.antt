pub mod Hopping
pub mod RowsRead
pub mod SearchLaws
