-- What a writer answers, and what it leaves in its buffer.
pub mod Puts
