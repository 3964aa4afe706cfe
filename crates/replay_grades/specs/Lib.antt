-- What a stored choice asks, and what the grader's contract says of it.
pub mod Cases
