pub mod Bases
pub mod Laws
pub mod Refusals
pub mod Rows
