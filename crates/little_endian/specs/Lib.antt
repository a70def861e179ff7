-- Numbers in bytes, the lowest byte first, and bytes in a buffer. The laws of each file here are in proofs/, under the same name.
pub mod LittleEndian
pub mod TwosComplement
pub mod Numbers
pub mod Runs
pub mod Wrote
