pub mod Levelled
pub mod Fronts
