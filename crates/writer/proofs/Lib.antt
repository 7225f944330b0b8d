pub mod Left
pub mod Lengths
pub mod Numbers
pub mod Written
