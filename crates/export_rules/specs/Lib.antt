pub mod Boundary
pub mod Chain
pub mod PieceChain
