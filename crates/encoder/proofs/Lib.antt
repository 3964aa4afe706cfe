-- Laws of fields that were put (FieldLaws).
pub mod FieldLaws
