-- The laws of what specs/ defines.
pub mod LittleEndian
pub mod TwosComplement
pub mod Machine
pub mod Runs
pub mod Wrote
