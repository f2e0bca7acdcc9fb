pub mod EndLemmas
pub mod LeadsLemmas
pub mod Loop
pub mod RankLemmas
pub mod StandsLemmas
pub mod StepLemmas
pub mod TurnLemmas
pub mod WholeLemmas
