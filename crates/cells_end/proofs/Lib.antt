pub mod EndLemmas
pub mod RoundLemmas
