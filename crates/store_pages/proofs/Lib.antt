mod Bounded
mod CanShow
mod InStep
mod Counting
