-- What a plan's numbers are, that nothing else of the plan plays a part, and what a plan has that is not refused.
pub mod All
pub mod Inside
pub mod Made
pub mod Number
pub mod Held
pub mod Checks
