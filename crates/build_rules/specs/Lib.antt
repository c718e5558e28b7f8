pub mod Build
pub mod BuildLaws
pub mod BuildOutcome
pub mod Building
pub mod Form
