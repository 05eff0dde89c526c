mod Numbered
pub mod Shown
mod FlushTexts
mod Told
mod WholeText
