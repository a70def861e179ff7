-- The refusals' numbers.
pub mod Number
