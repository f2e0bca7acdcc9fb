-- How a stream of bits moves, by how the stream of bytes inside does.
use Rattle.std.specs.Prelude.{◌≡◌, ℕ, ◌+◌, ◌/◌, ◌%◌, Bool}
use Rattle.std.specs.Prelude.{List, ◌++◌, length, take}
use Rattle.std.proofs.Common.{sym, ap, subst, ◌∙◌}
use Rattle.std.proofs.lemmas.List.{take_at}
use Rattle.streams.specs.Input.{Input, Takes}
use Rattle.streams.specs.Reading.{Reading}
use Rattle.stream_bits.specs.BitInput.{bits_from, bits_input}
use Rattle.stream_bits.specs.BitReading.{bits_reading}
use Rattle.stream_bits.specs.Moves.{Moves, passed_bits, moves_pass, moves_show}

-- ---- a stream of bits with some bits passed

pub cut_bits : {S : Type 0} (reading : Reading ℕ S) (i j : Input ℕ) (offset bits : ℕ)
    → Moves reading i j offset bits → (slice : S)
    → ((front : List ℕ) → length front ≡ (offset + bits) / 8 → (rest : List ℕ)
    → i.left.tokens ≡ front ++ rest → reading.shows slice front)
    → (front rest : List Bool) → bits_from i.left.tokens offset ≡ front ++ rest
    → bits ≡ length front
    → Takes (bits_reading reading) front (bits_input i offset)
    (slice, offset, (offset + bits) % 8) (bits_input j ((offset + bits) % 8))
cut_bits reading i j offset bits m slice shown front rest splits at =
    let first : passed_bits reading i j offset bits m ≡ front =
    ap (λ l. take bits l) splits ∙ take_at front rest bits (sym at) in
    let P : List Bool → Type 0 =
    λ l. Takes (bits_reading reading) l (bits_input i offset)
    (slice, offset, (offset + bits) % 8) (bits_input j ((offset + bits) % 8)) in
    subst P first (record {
      shown = moves_show reading i j offset bits m slice
          (shown m.front m.whole j.left.tokens m.passes.tokens);
      passed = moves_pass reading i j offset bits m;
    })
