-- The laws behind the contracts, and the theorem between the reckoned and the exact fund: Theorem states it; Outstanding, Errors
-- and AtHorizon prove it for the fund, Linear and Form for the form. Level has the exact fund at level rates. Pattern and the files of loops
-- are the code's.
pub mod Recursion
pub mod Case
pub mod Powers
pub mod Units
pub mod BoundLaws
pub mod Outstanding
pub mod Errors
pub mod AtHorizon
pub mod Linear
pub mod Form
pub mod Theorem
pub mod Level
pub mod Pattern
pub mod CellLoops
pub mod BoundLoops
pub mod GammaLoops
