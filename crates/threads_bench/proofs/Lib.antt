mod Fours
mod Weightless
mod Pushes
