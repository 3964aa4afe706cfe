-- Request F-1, "Weights with a start day": what a store answers for a day (LookUp, Answers). Columns: the walk
-- over keys. Places: the six in lent places. In proofs/, Leads: what a slot takes is found in one walk; ColumnLaws: that walk over keys; Found: the
-- look-up by its slots.
pub mod LookUp
pub mod Answers
pub mod Columns
pub mod Places
