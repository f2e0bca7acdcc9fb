mod AlikeLemmas
mod FirstLemmas
mod FirstOfScalarLemmas
mod RunsLemmas
