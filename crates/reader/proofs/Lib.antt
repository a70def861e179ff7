-- The laws of the reader. Walks says which records a walk over a file gives, First, Order and Roles what checks 3, 4 and 5 say of them, Filling
-- what the plan is after some of them, Answer what is answered.
pub mod Walks
pub mod Roles
pub mod First
pub mod Order
pub mod Filling
pub mod Answer
