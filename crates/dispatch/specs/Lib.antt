pub mod Useful
pub mod Waits
pub mod FiniteRank
pub mod Pairs
pub mod WaitersLaws
pub mod RidersLaws
pub mod Admitted
