pub mod Instruction
pub mod Path
pub mod Header
pub mod Reading
pub mod Reply
pub mod Time
pub mod Ccsds
