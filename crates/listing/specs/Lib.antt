-- what is to be believed
pub mod Rows
pub mod Listing
pub mod Near
-- worked on them
pub mod Worked
pub mod WorkedNear
-- what the code's inner functions say
pub mod Pairs
pub mod Marks
pub mod Order
pub mod Spans
pub mod Runs
-- laws
pub mod RowsLaws
pub mod ListingLaws
pub mod MarksLaws
pub mod ExtentsLaws
pub mod OrderLaws
pub mod SpansLaws
pub mod BlocksLaws
pub mod RunsLaws
