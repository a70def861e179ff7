-- Document 01's calls on a plan held as values. Calls and Verdict have the answer of each, Demand3 what an accepted answer means,
-- Level what it means where all rates of a pattern are equal, Plain that a plan which holds none of document 02's kinds is one of document
-- 01, Alike that a slope is answered as a list of the same rates. Rows has what the code makes on the way: the rows of which a verdict is
-- made. Case has the starred cases. Answers has the papers' records, Shown what the code's answers are as these.
pub mod Answers
pub mod Shown
pub mod Calls
pub mod Verdict
pub mod Demand3
pub mod Level
pub mod Plain
pub mod Alike
pub mod Rows
pub mod Case
