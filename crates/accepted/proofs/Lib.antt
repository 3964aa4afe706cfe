-- What two accepted sheets that agree but for the limit have in common.
pub mod SameSheet
