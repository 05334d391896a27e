-- what is to be believed
pub mod Stream
pub mod Status
-- laws
pub mod StreamLaws
