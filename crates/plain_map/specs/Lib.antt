pub mod Views
pub mod Beliefs
pub mod Plain
