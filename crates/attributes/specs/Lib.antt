pub mod Sets
pub mod Lectic
pub mod LecticOrder
pub mod Numbers
pub mod Text
pub mod Laws
