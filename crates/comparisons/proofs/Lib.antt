mod Apart
mod Closed
