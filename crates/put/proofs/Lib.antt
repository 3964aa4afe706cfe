-- Laws of a field that was put (PutLaws).
pub mod PutLaws
