mod CellLemmas
mod CountLemmas
mod MarkLemmas
mod RowLemmas
mod TotalLemmas
