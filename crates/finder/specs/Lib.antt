-- Document 02, item 5: find me an allocation. Grid has the allocations that are looked at, in their order; Answers the answer's record; Find
-- the refusal and the answer; Shown what the code answers; Claims what an answer says of every allocation on the grid; Alike that slopes are
-- answered as lists; Case worked cases. Lines, Placing and Search have what the code makes on the way: the lines that rule an allocation out,
-- the parts still to be placed, and what is asked of an allocation.
pub mod Grid
pub mod Answers
pub mod Find
pub mod Shown
pub mod Claims
pub mod Alike
pub mod Lines
pub mod Placing
pub mod Search
pub mod Case
