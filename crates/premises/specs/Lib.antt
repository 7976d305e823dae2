pub mod Branches
pub mod Forced
pub mod Laws
pub mod Open
pub mod Respecting
