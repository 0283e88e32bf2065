pub mod ReportCalls
pub mod SheetCalls
pub mod Fills
pub mod AuditCalls
