-- The theorems of requests F-2 and F-6, each module over the definitions of its name in specs/.
pub mod Closing
pub mod SevenKinds
pub mod AsBefore
pub mod ClosedFirst
