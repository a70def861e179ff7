-- The laws of a plan in one pattern. Held says that what the code prepares holds the plan's numbers, and that the core takes it; Flows what
-- the allocation's flow is; Reckoned what the core's answer tells, FormLaws how the bound and the form are made. Weighing and FormLoops are
-- the code's.
pub mod Weighing
pub mod Held
pub mod Flows
pub mod Reckoned
pub mod FormLoops
pub mod FormLaws
