-- what is to be believed
pub mod Decimal
-- worked on them
pub mod Worked
-- laws
pub mod DecimalLaws
