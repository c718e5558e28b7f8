pub mod Each
pub mod Walks
pub mod Apart
pub mod TableParts
pub mod StateJudgeLaws
