pub mod Conditions
pub mod Derived
pub mod Given
pub mod Printed
