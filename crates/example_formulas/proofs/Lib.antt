pub mod Results
pub mod SameTrees
