-- what is to be believed
pub mod Bounds
pub mod Place
pub mod Cut
pub mod Ordinary
pub mod Claims
pub mod Joined
pub mod Extents
pub mod WorkedRound
