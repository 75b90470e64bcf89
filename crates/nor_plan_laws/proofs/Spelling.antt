-- That each planned instruction has its clocks, so that there is planned work, in the order of reading.
pub mod Rows
pub mod Driven
pub mod Sent
pub mod Spelled
