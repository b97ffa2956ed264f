pub mod WaveMeaning
pub mod Centrings
pub mod WrittenWave
pub mod WaveFront
pub mod WaveFault
pub mod WaveParts
pub mod Readable
