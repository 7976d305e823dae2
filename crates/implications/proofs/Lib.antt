mod Lines
mod Passes
pub mod Repairs
pub mod Respects
pub mod Turns
