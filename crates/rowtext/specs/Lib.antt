-- what is to be believed
pub mod Text
pub mod Put
-- worked on them
pub mod Example
-- what the code's inner functions say
pub mod PutEnd
-- laws
pub mod TextLaws
pub mod PutLaws
