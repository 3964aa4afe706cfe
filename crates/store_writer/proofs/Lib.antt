-- How what the store's writer leaves is read (StoredLaws).
pub mod StoredLaws
