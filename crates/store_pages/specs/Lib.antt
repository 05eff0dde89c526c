pub mod Telling
pub mod Pages
pub mod PagesKept
pub mod Totals
