pub mod Lectic
pub mod Members
pub mod Numbers
pub mod Sets
pub mod Text
