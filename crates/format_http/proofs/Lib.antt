pub mod BodiesLemmas
pub mod HeadsLemmas
pub mod OneLemmas
