pub mod First
pub mod Open
pub mod Closures
mod Stepping
mod Branching
mod Onward
pub mod From
