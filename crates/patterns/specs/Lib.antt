-- A plan in one pattern. Pattern has what it comes to; Answers and Shown the answers of the code. Arrays has what the code makes of a plan on the
-- way, the arrays that the core takes, and Prepared what is true of them.
pub mod Answers
pub mod Pattern
pub mod Shown
pub mod Prepared
pub mod Arrays
