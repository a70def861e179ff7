-- The laws of the cash account. Theorem has the theorem, Bound the bound's laws and its loop, Years the account's, ListLaws those of the
-- lists of rates, Call what the refusal says and that the answer is true of the exact account, Alike that T decides nothing else, Uncosted
-- that a cost does not either; Case has the worked cases.
pub mod Theorem
pub mod Bound
pub mod Years
pub mod ListLaws
pub mod Alike
pub mod Uncosted
pub mod Call
pub mod Case
