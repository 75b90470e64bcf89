pub mod ReportLemmas
pub mod Content
pub mod Script
pub mod Promise
