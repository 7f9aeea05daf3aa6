pub mod NamesOfRows
pub mod SoundRows
pub mod WordNumbers
