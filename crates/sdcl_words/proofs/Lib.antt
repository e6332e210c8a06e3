pub mod Building
pub mod Meaning
pub mod Refusing
pub mod Rows
pub mod Simple
