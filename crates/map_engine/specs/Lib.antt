pub mod Still
pub mod Reads
pub mod Nexts
pub mod Ruled
pub mod Touching
pub mod Gone
pub mod NetMaps
pub mod RivalClasses
