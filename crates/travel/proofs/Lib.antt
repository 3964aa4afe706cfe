-- That the time of a run is finite (Finite), a theorem of the definitions of `specs`.
pub mod Finite
