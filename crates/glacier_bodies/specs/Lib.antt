pub mod Layouts
pub mod Blobs
pub mod Bodies
pub mod Calls
pub mod Stands
pub mod BlobAreas
