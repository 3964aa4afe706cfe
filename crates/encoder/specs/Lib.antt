-- A record's fields put at a bit.
pub mod Encoded
pub mod EncodedLaws
