pub mod Printing
pub mod Decoding
pub mod Reading
pub mod Joins
pub mod HexWords
pub mod TextLines
pub mod Spelled
pub mod SplitTexts
