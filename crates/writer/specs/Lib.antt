-- The writer of plan files: Rows says what is written of an array, Put what it is to write it. What a plan is written as is said in the
-- crate planfile.
pub mod Rows
pub mod Put
