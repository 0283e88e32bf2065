pub mod States
pub mod Systems
pub mod Lines
pub mod Examples
pub mod Drawings
pub mod Marking
pub mod PathRows
pub mod Duals
