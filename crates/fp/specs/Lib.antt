-- Doubles: definitions that contracts cite (Num, Ranges), and laws of them.
pub mod Num
pub mod Ranges
pub mod Decimals
pub mod Fields
pub mod Order
pub mod Nonneg
pub mod Inside
pub mod Naturals
pub mod Apart
pub mod Sizes
pub mod Least
