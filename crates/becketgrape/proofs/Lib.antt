-- The laws behind the library for C: OnFile has the ways out of a call on a file, and what its answer means; Join has that the arrays
-- of a plan that was read hold that plan; Alike that a file is made of what arrays hold.
pub mod OnFile
pub mod Join
pub mod Alike
pub mod Case
