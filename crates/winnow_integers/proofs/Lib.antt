pub mod BytesLemmas
pub mod IntegerLemmas
pub mod IntegerStdLemmas
