-- The plan held as values: Held says what it holds, Numbers what that means, Refusal which checks turn it down, Case has the worked
-- plans.
pub mod Held
pub mod Numbers
pub mod Refusal
pub mod Case
