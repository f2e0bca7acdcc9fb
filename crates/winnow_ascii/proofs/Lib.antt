mod ClassLemmas
mod LineEndLemmas
