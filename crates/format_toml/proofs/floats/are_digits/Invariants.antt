use Rattle.format_toml.proofs.DigitsLemmas.{DigitsSo}
use Rattle.format_toml.proofs.floats.are_digits.Given as goal

abbrev pub invariant-loop-byte : goal.invariant-loop-byte
invariant-loop-byte l = DigitsSo 10 l.text l.byte-index l.due
