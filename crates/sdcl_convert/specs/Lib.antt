pub mod Conversion
pub mod Laws
pub mod Lines
pub mod Errors
pub mod Begun
pub mod Checked
pub mod Loading
pub mod Converting
