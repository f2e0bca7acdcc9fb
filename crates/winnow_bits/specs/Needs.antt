-- Errors whose need is changed.
use Rattle.std.specs.Prelude.{ℕ, Option}
use Rattle.streams.specs.Kind.{Kind, backtrack, cut, incomplete, memory}
pub use Rattle.parser_definitions.specs.BitsOfBytes.{need_in_bytes}

-- a kind with its need changed
abbrev pub with_need : (Option ℕ → Option ℕ) → Kind → Kind
with_need change backtrack = backtrack
with_need change cut = cut
with_need change (incomplete need) = incomplete (change need)
with_need change memory = memory
