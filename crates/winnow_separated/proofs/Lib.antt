mod FoldLaw
mod FoldLemmas
mod FoldTurns
mod LinkLemmas
mod SeparatedLaw
mod SeparatedLemmas
mod TurnsInversion
