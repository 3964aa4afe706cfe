-- What a slot takes is found in one walk (Leads), over keys (ColumnLaws); the look-up by its slots (Found).
pub mod Leads
pub mod ColumnLaws
pub mod Found
