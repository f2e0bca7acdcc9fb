-- Lemmas and rulesets that callers name in `using(..)`.
pub use Rattle.streams.specs.Ends.{ends_follow}
pub use Rattle.stream_errors.specs.Given.{contexts_kept}
