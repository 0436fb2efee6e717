pub mod CommandText
pub mod Shown
