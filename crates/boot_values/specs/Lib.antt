pub mod BootFault
pub mod Agrees
pub mod Paths
pub mod Values
pub mod Patterns
pub mod StatsMatcher
pub mod BucketSettings
