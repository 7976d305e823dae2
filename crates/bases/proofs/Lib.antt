pub mod Asked
pub mod Equivalents
mod Filled
mod Turns
