pub mod Input
pub mod Text
