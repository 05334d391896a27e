-- what is to be believed
pub mod Calls
-- worked on them
pub mod Worked
