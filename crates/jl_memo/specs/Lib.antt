pub mod Memos
pub mod Answers
