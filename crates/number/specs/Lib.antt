-- what is to be believed
pub mod Number
pub mod ReadsNumber
-- worked on them
pub mod WorkedNumber
-- what the code's inner functions say
pub mod ReadAs
pub mod Reads
pub mod Storable
-- laws
pub mod ReadAsLaws
pub mod ReadsLaws
pub mod SaysLaws
pub mod ZigzagLaws
