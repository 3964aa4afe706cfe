-- Theorems of requests F-2 and F-6, closed landings. Closing: what closing one landing more does. SevenKinds: a bench of seven
-- kinds reads a byte string as this one does, or refuses it with 4 at a record of kind 8. Under: a pass with another rule for the pending stops.
-- AsBefore: so a sheet without kind 8 has the answer and the buffers of a bench of seven kinds. ClosedFirst: F-2's rule beside F-6's, where they
-- differ, and that no car is sent to a closed landing.
pub mod Closing
pub mod SevenKinds
pub mod Under
pub mod AsBefore
pub mod ClosedFirst
