-- Whole numbers: the vocabulary of every definition in this project. The laws of each file here are in proofs/, under the same name.
pub mod Range
pub mod Floor
pub mod Sum
pub mod Course
pub mod Test
pub mod Table
pub mod Entry
pub mod Case
