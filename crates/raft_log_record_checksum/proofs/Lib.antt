pub mod Crc
pub mod CrcTables
pub mod Folding
pub mod HashInverse
