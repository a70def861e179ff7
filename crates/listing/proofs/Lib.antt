-- The laws of the listing. Putting has those of a text in a buffer, Fields those of a list of amounts, Judged those of the rows that were made,
-- Decimal those of numbers in base ten, Short what the last line counts, File the ways out of `list`, Examples the case L; Demand3 has demand 3 whole, Demands what `list` carries.
pub mod Putting
pub mod Fields
pub mod Judged
pub mod Decimal
pub mod Short
pub mod File
pub mod Examples
pub mod Demand3
pub mod Demands
