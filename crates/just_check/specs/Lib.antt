pub mod Kinds
pub mod Origins
pub mod Checking
pub mod Audited
