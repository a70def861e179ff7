-- The laws of what specs/ defines.
pub mod Records
pub mod Cursor
