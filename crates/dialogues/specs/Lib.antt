pub mod Dialogue
pub mod Promise
pub mod Worked
