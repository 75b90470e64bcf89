-- The text of a script, whole and cut short, in the order of reading.
pub mod Fronts
pub mod Written
