pub mod Recording
pub mod RecordingLaws
pub mod OutputLaws
pub mod Replay
pub mod ReplayTheorems
pub mod RecordPieces
pub mod Pieces
