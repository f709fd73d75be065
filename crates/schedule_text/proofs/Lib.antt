pub mod Letters
pub mod EntryLines
pub mod InnerWords
