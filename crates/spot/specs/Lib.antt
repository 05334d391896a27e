-- what is to be believed
pub mod Numbers
-- worked on them
pub mod Worked
