-- what is to be believed
pub mod Calls
pub mod SideIs
-- worked on them
pub mod Worked
-- laws
pub mod CallsLaws
