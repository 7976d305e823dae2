pub mod Implications
pub mod Laws
pub mod Lists
pub mod Places
pub mod Text
pub mod Values
