pub mod Front
pub mod InStep
pub mod Links
pub mod Looking
pub mod Opening
pub mod Passing
pub mod Ranks
pub mod Scores
