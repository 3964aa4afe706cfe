pub mod Mask
pub mod MaskLaws
pub mod Ones
pub mod UpTo
