-- The places of the value of an assignment.
use Rattle.std.specs.Prelude.{◌≡◌, ◌+◌, ℕ, List}
use Rattle.std.specs.declared.ops.Range.{Range}
use Rattle.winnow.specs.AsChar.{IsAlpha}
use Rattle.winnow.specs.Grammar.{Both, Class, Grammar}
use Rattle.winnow.specs.Input.{Remaining}
use Rattle.winnow.specs.Reading.{Reading}

-- a word, and the mark
abbrev pub KeyAndMark : {K T L : Type 0} → (K → ℕ) → (K → T) → Reading T L → Grammar T ℕ
    → Grammar T (L × ℕ)
KeyAndMark code seen reading mark =
    Both (λ key o. (key, o)) (Class IsAlpha 1 code seen reading) mark

-- `IsPlaced reading key value left both`: `left` starts with a key followed by a value. The range
-- of `both` begins where the key ends and ends where the value ends, in units from the start.
abbrev pub IsPlaced : {T L O : Type 0} → Reading T L → Grammar T O → Grammar T L → Remaining T
    → L × Range ℕ → Type 0
IsPlaced {T} {L} {O} reading key value left both =
    (o : O) × (mid : List T) × (rest : List T) × key left.tokens o mid × value mid both.0 rest
    × (both.1.start + reading.units mid ≡ left.place.passed + reading.units left.tokens)
    × (both.1.end + reading.units rest ≡ left.place.passed + reading.units left.tokens)
