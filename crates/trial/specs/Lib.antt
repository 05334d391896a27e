-- what is to be believed
pub mod Numbers
