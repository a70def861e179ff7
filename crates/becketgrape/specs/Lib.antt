-- The library for programs in C: what each call answers for the bytes of a plan file, what the funds of two files have to do with each
-- other where only their rollovers differ, and that the file of arrays is not made of what they carry where nothing is held. Case has
-- numbers that are not held.
pub mod Calls
pub mod Level
pub mod Alike
pub mod Case
