mod MovesLemmas
mod OffsetsLemmas
mod WithinLemmas
