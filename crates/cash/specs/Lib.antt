-- Document 02, item 4: the cash account with two rates. Account has the account, the exact one and the bound; Answers the answer's record;
-- Call the refusal and the answer; Shown what the code answers; Theorem what is claimed of them; Alike that slopes are answered as lists; Uncosted that a cost at the horizon is not counted; Case
-- worked cases. Arrays has what the code makes on the way.
pub mod Account
pub mod Answers
pub mod Call
pub mod Shown
pub mod Theorem
pub mod Alike
pub mod Uncosted
pub mod Arrays
pub mod Case
