-- What a writer finishes (Run), and how it is read (Decoded); theorems of both stand in proofs/.
pub mod Run
pub mod Decoded
pub mod Worked
