-- The laws of the plan file. Bodies is of the kinds, Groups and Checks are of what specs/ has under these names; Seen says how many records of each role
-- stand before a place; Filed goes between a file and its records by role, Rows between numbers and a body, Roles between what is held and
-- its records, role by role, and Length says how long a file is. Trips has both round trips, Answers what a file has that is read,
-- Demand2 that it is the one file of its plan, Plain that without kinds 7, 8 and 9 it is one of document 01, Examples the worked cases.
pub mod Bodies
pub mod Groups
pub mod Checks
pub mod Seen
pub mod Filed
pub mod Length
pub mod Size
pub mod Rows
pub mod Roles
pub mod Trips
pub mod Answers
pub mod Demand2
pub mod Plain
pub mod Examples
