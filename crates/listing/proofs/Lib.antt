pub mod Answers
pub mod Near
pub mod NearLaws
pub mod Taken
pub mod Turns
