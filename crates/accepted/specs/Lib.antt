-- What an accepted sheet says: Sound has the statement, Accepted its proof, Optional what holds of optional ids. SameSheet: what the limit leaves as
-- it is. First: how many bytes count.
pub mod Sound
pub mod Accepted
pub mod Optional
pub mod SameSheet
pub mod First
