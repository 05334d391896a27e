-- what is to be believed
pub mod Said
-- worked on them
pub mod WorkedBounds
-- laws
pub mod Alike
