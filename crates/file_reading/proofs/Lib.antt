mod UnopenedFiles
pub mod ReadSoFar
pub mod ReadToEnd
pub mod FileOpened
pub mod HeldAlike
