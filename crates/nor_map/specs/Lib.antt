pub mod Cells
pub mod Marks
pub mod Rows
pub mod Folded
pub mod Totals
pub mod Worked
