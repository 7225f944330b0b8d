pub mod Steps
pub mod Fields
pub mod Blocks
pub mod Record
pub mod Sheets
pub mod Stands
pub mod Reader
pub mod HandsOut
