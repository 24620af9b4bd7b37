pub mod FieldLaws
pub mod DigitLaws
