pub mod HeldAlike
mod FilesOpened
mod ToldEnds
mod FilesRun
