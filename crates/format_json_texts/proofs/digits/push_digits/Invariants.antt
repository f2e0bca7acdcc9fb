-- Loop invariant: the remaining bytes continue the digits that were read.
use Rattle.std.proofs.Common.{◌+◌, ◌≤◌, ℕ, List, length}
use Rattle.format_json_texts.specs.Digits.{ContinuesDigits, IsReduced}
use Rattle.format_json_texts.proofs.digits.push_digits.Given as goal

abbrev pub invariant-digits : goal.invariant-digits
invariant-digits l =
    (l.read.zeros + length l.left ≤ l.initial.read.zeros + length l.initial.bytes)
    × (length l.left ≤ length l.initial.bytes)
    × ((n total : ℕ) (rest : List ℕ) → IsReduced n l.initial.read.digits l.initial.read.zeros
    → ContinuesDigits n l.initial.bytes total rest
    → (now : ℕ) × IsReduced now l.read.digits l.read.zeros × ContinuesDigits now l.left total rest)

abbrev pub decreases-digits : goal.decreases-digits
decreases-digits l = length l.left
