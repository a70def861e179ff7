-- The plan file. Kinds says what each kind of record is, Groups which records stand where, Rows what stands in one record, Records how
-- what is held and the records say each other; Answers what is answered, Checks, Read and Write what is read and written, with the refusals in their order; Demand2
-- what reading and writing say of each other; Plain that a file without kinds 7, 8 and 9 is one of document 01. Reading is for the functions
-- that take a shape or a file that has passed checks.
pub mod Kinds
pub mod Groups
pub mod Rows
pub mod Checks
pub mod Records
pub mod Answers
pub mod Read
pub mod Write
pub mod Demand2
pub mod Plain
pub mod Reading
