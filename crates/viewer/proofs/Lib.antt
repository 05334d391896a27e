pub mod Answers
pub mod SideIsLaws
