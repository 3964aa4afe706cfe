-- What is held of a stop's waiters and of a car's riders is the sheet's; how large the waiters' sums can be.
pub mod WaitersLaws
pub mod RidersLaws
pub mod Admitted
