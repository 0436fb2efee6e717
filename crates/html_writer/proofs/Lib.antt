pub mod Appending
pub mod Further
mod KnownPages
