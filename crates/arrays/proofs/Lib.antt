-- Both ways: what the arrays of a plan hold, and the loops that copy. Lent has that the places that play no part are not held.
pub mod Copying
pub mod Arrays
pub mod Lent
