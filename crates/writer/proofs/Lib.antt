-- The laws of the writer: Put of bytes that are put down, Rows of what is written of an array, File of the records of a plan, Role, Row and
-- Kind of each record by its role, and Length of how long they are.
pub mod Put
pub mod Rows
pub mod File
pub mod Role
pub mod Row
pub mod Kind
pub mod Length
pub mod Left
