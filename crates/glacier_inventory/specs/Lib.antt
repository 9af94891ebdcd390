pub mod CsvInventories
pub mod JsonInventories
