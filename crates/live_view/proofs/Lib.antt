pub mod Shown
mod Copied
mod Showing
