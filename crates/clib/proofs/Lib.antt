pub mod Tables
pub mod Filled
pub mod Rewritten
pub mod Audited
