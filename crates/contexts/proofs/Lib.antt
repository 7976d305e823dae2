pub mod Holding
pub mod CommonAttributes
pub mod Walks
