pub mod HeaderBytes
pub mod JudgeLaws
pub mod PacketParts
pub mod RejectionLaws
