pub mod Record
pub mod Text
pub mod Log
pub mod Run
pub mod Between
pub mod Printed
