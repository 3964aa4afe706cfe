-- The alternating tree over lists: what each function leaves in them (Lists), and the states of an insertion (State).
pub mod Lists
pub mod State
