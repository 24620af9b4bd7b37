pub mod Tabulate
pub mod Xor
pub mod Linear
pub mod CrcLaws
pub mod NumberLaws
pub mod PlaceLaws
pub mod WordLaws
pub mod BlockLaws
