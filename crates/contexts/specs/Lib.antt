pub mod Contexts
pub mod Laws
pub mod Objects
pub mod Places
pub mod Values
