pub mod Cells
pub mod Marks
pub mod Touched
pub mod Edges
pub mod Beside
pub mod Wrap
pub mod Compared
pub mod Laws
