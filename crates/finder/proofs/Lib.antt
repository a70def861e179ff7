-- The laws of the search. Parts has those of the numbers of parts, Grid that the list of allocations is the grid, Order that the recursion goes
-- through it, First the laws of the first that passes, Placing the recursion's own. Replaced has what a plan is with other shares, AtLine that a
-- line rules out nothing solvent, ListLaws what a test of each element of a list is, Deciding that line and look decide as the verdict, LineLaws how the code makes and asks them. Alike has that T
-- decides nothing but check 13, Answer the ways out of the call and what is claimed of it; Case has the worked cases.
pub mod Parts
pub mod ListLaws
pub mod Grid
pub mod Order
pub mod First
pub mod Placing
pub mod Replaced
pub mod AtLine
pub mod Deciding
pub mod LineLaws
pub mod Alike
pub mod Answer
pub mod Case
