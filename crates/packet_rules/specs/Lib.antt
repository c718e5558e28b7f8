pub mod HeaderBytes
pub mod Judge
pub mod Layout
pub mod JudgeOutcome
pub mod PacketParts
pub mod Rejection
