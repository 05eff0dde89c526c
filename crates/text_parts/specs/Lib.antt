pub mod Decimals
pub mod Gathered
pub mod TextFault
pub mod Answer
pub mod Histograms
