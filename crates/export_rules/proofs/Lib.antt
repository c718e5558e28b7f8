pub mod BoundaryLaws
pub mod Chain
pub mod PieceChain
