mod FillLemmas
mod FoldLemmas
mod IntoSliceExactLemmas
mod RepeatLemmas
mod RepeatTillLemmas
mod RepetitionLaw
mod SliceLemmas
