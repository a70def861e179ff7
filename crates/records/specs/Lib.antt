-- A file of records (document 01, "Plan file"): Record says what one is and how a list of them is written, Cursor how they are
-- taken off a file from its front.
pub mod Record
pub mod Cursor
