pub mod Plans
pub mod Values
pub mod Taking
pub mod Planning
