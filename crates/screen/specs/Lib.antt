-- what is to be believed
pub mod Quotient
pub mod Values
pub mod Places
pub mod Boxes
pub mod Shown
-- what the code's inner functions say
pub mod Parts
pub mod ByNumber
pub mod Extremes
-- laws: floats
pub mod Rounding
pub mod ValuesLaws
-- laws: places
pub mod EndsApart
-- laws: boxes
pub mod BoxesLaws
