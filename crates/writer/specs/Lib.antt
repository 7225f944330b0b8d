pub mod Pages
pub mod Writing
