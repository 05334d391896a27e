-- what is to be believed
pub mod Told
-- laws
pub mod ToldLaws
