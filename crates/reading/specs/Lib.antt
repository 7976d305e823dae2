pub mod AnswerBytes
pub mod RowBytes
