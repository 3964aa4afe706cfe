-- Fields of bits that are put into a list of bytes.
pub mod Put
pub mod PutLaws
