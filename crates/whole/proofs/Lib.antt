-- The laws of ℤ that lib.IntN and lib.Signed lack, and the laws of what specs/ defines.
pub mod Bridge
pub mod Laws
pub mod Solver
pub mod Test
pub mod Range
pub mod Floor
pub mod Sum
pub mod Course
pub mod Table
pub mod Filling
pub mod Entry
pub mod Made
pub mod Answer
pub mod Case
