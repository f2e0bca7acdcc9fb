-- How a stream of bytes counts them, and what may come after them.
use Rattle.std.specs.Prelude.{◌≡◌, ◌<◌, ℕ, List, length}
use Rattle.std.specs.List.{All}
use Rattle.streams.specs.Following.{FitsAfter, Following, most_bytes}
use Rattle.streams.specs.Located.{located_reading}
use Rattle.streams.specs.Place.{Place}
use Rattle.streams.specs.Reading.{Reading}

-- Units are bytes, and they do not lead into a byte or out of one.
pub record CountsBytes {S : Type 0} (reading : Reading ℕ S) : Type 0 where
  pub units : (bytes : List ℕ) → reading.units bytes ≡ length bytes
  pub between : (p : Place) (n : ℕ) → (reading.advance p n).bits_read ≡ p.bits_read

-- those of a stream that keeps its place are counted as those of the stream inside
pub located_counts : {S : Type 0} {reading : Reading ℕ S} → CountsBytes reading
    → CountsBytes (located_reading reading)
located_counts counts = record { units = counts.units; between = counts.between }

-- After bytes come bytes: any numbers from 0 to 255, as long as a number of 64 bits counts the
-- bits of all, and nothing else.
pub record FollowedByBytes (following : Following ℕ) : Type 0 where
  pub may : (left more : List ℕ) → FitsAfter (All (λ b. b < 256)) length most_bytes left more
      → following.can_follow left more
  pub only : (left more : List ℕ) → following.can_follow left more
      → FitsAfter (All (λ b. b < 256)) length most_bytes left more
