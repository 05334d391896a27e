-- what is to be believed
pub mod Forms
pub mod Stored
pub mod Answers
pub mod Reader
pub mod Refusals
-- worked on them
pub mod Rows
pub mod WorkedStored
pub mod WorkedForms
pub mod WorkedReader
-- what the code's inner functions say
pub mod Bounded
pub mod Told
-- laws: what is read, and what is written
pub mod ListLaws
pub mod FormsLaws
pub mod BoundedLaws
pub mod AnswersLaws
-- laws: there and back
pub mod PointsLaws
pub mod Trip
-- laws: the reader
pub mod ToldLaws
pub mod StepLaws
