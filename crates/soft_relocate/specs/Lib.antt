pub mod SoftRelocate
pub mod PriceSearch
