pub mod Search
pub mod SearchLaws
pub mod Hopping
pub mod RowsRead
