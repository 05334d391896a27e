-- what is to be believed
pub mod Asked
-- laws
pub mod ReadingLaws
