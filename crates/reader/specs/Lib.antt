-- The reader of plan files. What `read` answers is said by planfile's definitions; Reading is for the reader's own functions.
pub mod Reading
