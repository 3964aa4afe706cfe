pub mod Price
pub mod PriceLaws
pub mod Signs
