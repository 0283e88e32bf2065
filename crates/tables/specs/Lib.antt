pub mod Refusals
pub mod Memory
pub mod Rows
pub mod Calls
pub mod Tables
pub mod Pasts
