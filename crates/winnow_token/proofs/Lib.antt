pub mod BoundsLemmas
pub mod MemberLemmas
pub mod UnstableLemmas
pub mod UntilLemmas
