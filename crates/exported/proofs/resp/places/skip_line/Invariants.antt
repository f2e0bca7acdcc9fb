-- The invariant: the rest is a suffix, and its first line feed is the first one of the input.
use Rattle.std.proofs.Common.{◌≡◌, ◌++◌, ◌∷◌, ℕ, List, length}
use Rattle.format_resp.specs.Parts.{NoFeed}
use Rattle.exported.specs.Span.{EndsWith}
use Rattle.exported.proofs.resp.places.skip_line.Given as goal

abbrev pub invariant-bytes : goal.invariant-bytes
invariant-bytes l = EndsWith l.bytes l.rest
    × ((line behind : List ℕ) → NoFeed line → l.bytes ≡ line ++ 10 ∷ behind
    → (left : List ℕ) × NoFeed left × (l.rest ≡ left ++ 10 ∷ behind))

abbrev pub decreases-bytes : goal.decreases-bytes
decreases-bytes l = length l.rest
