pub mod LineFacts
pub mod LineForms
pub mod LineNumbers
pub mod LinePoints
pub mod LineReaders
pub mod LineShown
pub mod LineWords
