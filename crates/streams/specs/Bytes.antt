-- Bytes as a stream.
use Rattle.std.specs.Prelude.{ℕ, ◌<◌, ◌-◌, List, ◌++◌, length, take, drop}
use Rattle.std.specs.Borrow.{Bor}
use Rattle.std.specs.List.{All}
use Rattle.std.proofs.Common.{refl, sym, ap, ◌∙◌}
use Rattle.std.proofs.lemmas.List.{take_rest, take-append-drop}
use Rattle.streams.specs.Counted.{counted_input, counted_reading}
use Rattle.streams.specs.Following.{Following, FitsAfter, fits_behind, most_bytes}
use Rattle.streams.specs.Input.{Input, IsEndOf}
use Rattle.streams.specs.Reading.{Reading}

-- The view of a slice of bytes: the bytes, without an offset, as complete input.
abbrev pub bytes_input : List ℕ → Input ℕ
bytes_input = counted_input

-- Bytes are counted one by one, and a slice shows its own.
abbrev pub bytes_reading : Reading ℕ (Bor (List ℕ))
bytes_reading = counted_reading

-- any bytes may come after bytes, as long as a number of 64 bits counts their bits
abbrev pub bytes_follow : Following ℕ
bytes_follow = record {
  can_follow = FitsAfter (All (λ b. b < 256)) length most_bytes;
  kept = λ dropped later more f. fits_behind bytes_reading (All (λ b. b < 256)) most_bytes
      dropped later more f;
}

pub slice_ends : (n : ℕ) (xs : List ℕ)
    → IsEndOf bytes_reading (bytes_input (take (length xs - n) (drop n xs))) (bytes_input xs)
slice_ends n xs = record {
  ends = record {
    dropped = take n xs;
    tokens = sym (ap (λ ys. take n xs ++ ys) (take_rest xs n) ∙ take-append-drop n xs);
    place = refl;
    possible = refl;
  };
  cut = refl;
}
