pub mod BuilderLaws
pub mod CountLaws
pub mod FarmLaws
pub mod HelpLaws
pub mod Rows
pub mod WordsLaws
