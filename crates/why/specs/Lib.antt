pub mod Why
pub mod Pairs
pub mod PairLaws
pub mod Answers
pub mod Places
