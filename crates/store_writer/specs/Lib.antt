-- What the store's writer answers and leaves. How it is read: proofs/StoredLaws.
pub mod Stored
