pub mod Written
pub mod TwinPass
pub mod FirstEdition
