-- The listing: Text has what is printed for a file, Shown what the file is read as, Putting what it is to put a text into a lent buffer. Demand3 has what all
-- answers say of the exact fund, for plans and for files, Demands what is true of every file that is listed.
pub mod Text
pub mod Shown
pub mod Demand3
pub mod Demands
pub mod Putting
