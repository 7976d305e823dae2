pub mod Answers
pub mod Row
pub mod Standings
pub mod Turns
