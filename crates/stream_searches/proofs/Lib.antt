pub mod CaselessLemmas
pub mod CompareLemmas
pub mod FindLemmas
pub mod PlaceLemmas
pub mod SeveralLemmas
pub mod TextCompareLemmas
pub mod TextFindLemmas
