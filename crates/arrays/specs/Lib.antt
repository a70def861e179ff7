-- A plan in plain arrays, one for each width of number: Arrays has both ways, Lent which places of such arrays play a part.
pub mod Arrays
pub mod Lent
