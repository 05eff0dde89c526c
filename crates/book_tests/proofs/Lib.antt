mod Freedom
mod Ranks
mod TriedConfig
