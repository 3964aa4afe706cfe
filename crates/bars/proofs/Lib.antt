-- What bars change: the bits that are no bars (Clear), the counts (SameCounts), the cells and the total (Barred), and the claim of two passes
-- (NeverCheaper).
pub mod Clear
pub mod SameCounts
pub mod Barred
pub mod NeverCheaper
