-- One flow in one pattern. Reckoning, Exact, Bound and Gamma are document 01's sections, in its order and letters, with the
-- starred cases in Case. Level has what the exact fund is at level rates, Theorem the claims that join the reckoned and the exact. Arrays
-- says what the code's arrays mean, Answers what the code's answers are.
pub mod Reckoning
pub mod Exact
pub mod Bound
pub mod Gamma
pub mod Case
pub mod Level
pub mod Theorem
pub mod Answers
pub mod Arrays
