-- The laws behind the calls. Answers has the ways out of a call, Demand3 what its answer means, Level what it means at level rates, Plain
-- what a plan of document 01 has, Alike that T decides nothing but check 13, RowLaws how a pattern's row is made, VerdictLaws how the
-- verdict; Bits has the laws of the word of bits, Words those of the words as the code has them; Case has the starred cases.
pub mod Answers
pub mod Bits
pub mod VerdictLaws
pub mod Plain
pub mod Alike
pub mod Demand3
pub mod Level
pub mod RowLaws
pub mod Words
pub mod Case
