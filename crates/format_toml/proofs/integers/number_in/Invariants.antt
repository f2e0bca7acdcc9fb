use Rattle.std.specs.Prelude.{◌≡◌}
use Rattle.format_toml.specs.Digits.{so_far}
use Rattle.format_toml.proofs.DigitsLemmas.{DigitsSo}
use Rattle.format_toml.proofs.integers.number_in.Given as goal

abbrev pub invariant-loop-byte : goal.invariant-loop-byte
invariant-loop-byte l =
    DigitsSo l.base l.text l.byte-index l.due × (l.number ≡ so_far l.base l.text l.byte-index)
