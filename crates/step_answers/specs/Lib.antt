pub mod Own
pub mod Answers
pub mod OwnLaws
pub mod AnswerLaws
