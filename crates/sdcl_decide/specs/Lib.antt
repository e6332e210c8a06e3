pub mod Heap
pub mod Queue
pub mod Deciding
pub mod Front
pub mod InStep
