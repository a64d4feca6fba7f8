pub mod Difference
pub mod Ring
pub mod Order
pub mod Magnitude
pub mod Square
pub mod Division
