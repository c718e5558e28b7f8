pub mod AnswerLaws
pub mod OwnLaws
