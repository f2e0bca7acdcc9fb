-- TOML 1.0 (Offset Date-Time, Local Date-Time, Local Date, Local Time): the written form by its
-- ABNF, which is that of RFC 3339. Relations are between bytes, an output for a prefix of them, and
-- the rest.
use Rattle.std.specs.Prelude.{◌≡◌, ◌⊎◌, ◌≤◌, ◌<◌, ◌+◌, ◌*◌, ◌%◌, ◌==◌, ◌&&◌, ◌||◌}
use Rattle.std.specs.Prelude.{not, ℕ}
use Rattle.std.specs.Prelude.{if◌then◌else◌, Bool, pos, neg_ℤ, string_bytes, List, [], ◌∷◌, ◌++◌}
use Rattle.std.specs.Prelude.{length, take, Option, Some, None}
use Rattle.std.proofs.Common.{get_or}
use Rattle.std.specs.Borrow.{Bor}
use Rattle.std.specs.List.{All}
use Rattle.format_toml_tree.specs.declared.value.Date.{Date}
use Rattle.format_toml_tree.specs.declared.value.DateTime.{DateTime}
use Rattle.format_toml_tree.specs.declared.value.DateTime.TheVariants as dates
use Rattle.format_toml_tree.specs.declared.value.Offset.{Offset}
use Rattle.format_toml_tree.specs.declared.value.Offset.TheVariants.{Minutes, Zulu}
use Rattle.format_toml_tree.specs.declared.value.Time.{Time}

-- `Standing O`: a relation between bytes, the output for a prefix of them, and the rest.
abbrev pub Standing : Type 0 → Type 1
Standing O = List ℕ → O → List ℕ → Type 0

-- ---- digits

-- DIGIT = %x30-39 ; 0-9, for its number
abbrev pub IsDigitOf : ℕ → ℕ → Type 0
IsDigitOf n c = (n ≤ 9) × (c ≡ 48 + n)

abbrev pub IsDigit : ℕ → Type 0
IsDigit c = (48 ≤ c) × (c ≤ 57)

-- 2DIGIT, for their number
unfoldable pub TwoDigits : Standing ℕ
TwoDigits tokens n rest =
    (tens : ℕ) × (ones : ℕ) × (c : ℕ) × (d : ℕ) × IsDigitOf tens c × IsDigitOf ones d
    × (tokens ≡ c ∷ d ∷ rest) × (n ≡ tens * 10 + ones)

-- 4DIGIT, for their number
unfoldable pub FourDigits : Standing ℕ
FourDigits tokens n rest =
    (first : ℕ) × (last : ℕ) × (mid : List ℕ) × TwoDigits tokens first mid
    × TwoDigits mid last rest × (n ≡ first * 100 + last)

-- a mark, and 2DIGIT after it
unfoldable pub Marked : ℕ → Standing ℕ
Marked mark tokens n rest = (mid : List ℕ) × (tokens ≡ mark ∷ mid) × TwoDigits mid n rest

-- three numbers with a mark between each two of them, the first of them by its own digits
unfoldable pub InTurn : Standing ℕ → ℕ → Standing (ℕ × ℕ × ℕ)
InTurn digits mark tokens three rest =
    (a : List ℕ) × (b : List ℕ) × digits tokens three.0 a × Marked mark a three.1 b
    × Marked mark b three.2 rest

-- ---- dates

-- A year of four has a leap day, and one of a hundred where it is one of four hundred (RFC 3339,
-- Appendix C).
abbrev pub is_leap : ℕ → Bool
is_leap year = (year % 4 == 0) && (not (year % 100 == 0) || (year % 400 == 0))

-- How many days a month has (RFC 3339, section 5.7): there are twelve, from January.
abbrev pub days_in : ℕ → ℕ → ℕ
days_in year month =
    if month == 2 then (if is_leap year then 29 else 28)
    else (if (month == 4) || ((month == 6) || ((month == 9) || (month == 11))) then 30
    else (if (month == 1) || ((month == 3) || ((month == 5) || ((month == 7) || ((month == 8)
    || ((month == 10) || (month == 12)))))) then 31 else 0))

-- full-date = date-fullyear "-" date-month "-" date-mday, where date-mday is "based on month/year"
unfoldable pub FullDate : Standing Date
FullDate tokens date rest =
    InTurn FourDigits 45 tokens (date.year, date.month, date.day) rest
    × (1 ≤ date.day) × (date.day ≤ days_in date.year date.month)

-- ---- times

-- time-hour ":" time-minute ":" time-second, where time-second is 60 in a leap second
unfoldable pub Clock : Standing (ℕ × ℕ × ℕ)
Clock tokens clock rest =
    InTurn TwoDigits 58 tokens clock rest × (clock.0 ≤ 23) × (clock.1 ≤ 59) × (clock.2 ≤ 60)

-- [ time-secfrac ], with time-secfrac = "." 1*DIGIT, for its digits
unfoldable pub Fraction : Standing (List ℕ)
Fraction tokens digits rest =
    ((digits ≡ []) × (tokens ≡ rest))
    ⊎ ((1 ≤ length digits) × All IsDigit digits × (tokens ≡ 46 ∷ digits ++ rest))

-- time-hour ":" time-minute of an offset
unfoldable pub HourAndMinute : Standing (ℕ × ℕ)
HourAndMinute tokens both rest =
    (mid : List ℕ) × TwoDigits tokens both.0 mid × Marked 58 mid both.1 rest × (both.0 ≤ 23)
    × (both.1 ≤ 59)

-- time-offset = "Z" / time-numoffset, with time-numoffset = ( "+" / "-" ) time-hour ":"
-- time-minute, and nothing after it; the letter of either case as in each string of an ABNF
unfoldable pub IsOffset : Offset → List ℕ → Type 0
IsOffset Zulu tokens = (tokens ≡ 90 ∷ []) ⊎ (tokens ≡ 122 ∷ [])
IsOffset (Minutes z) tokens =
    (hour : ℕ) × (minute : ℕ) × (mid : List ℕ) × HourAndMinute mid (hour, minute) []
    × (((tokens ≡ 43 ∷ mid) × (z ≡ pos (hour * 60 + minute)))
    ⊎ ((tokens ≡ 45 ∷ mid) × (z ≡ neg_ℤ (pos (hour * 60 + minute)))))

-- an offset, or nothing
unfoldable pub MaybeOffset : Option Offset → List ℕ → Type 0
MaybeOffset None tokens = tokens ≡ []
MaybeOffset (Some offset) tokens = IsOffset offset tokens

-- partial-time, and [ time-offset ] after it; all of it by its parts
unfoldable pub IsTimed : ℕ × ℕ × ℕ → List ℕ → Option Offset → List ℕ → Type 0
IsTimed clock digits offset tokens =
    (a : List ℕ) × (b : List ℕ) × Clock tokens clock a × Fraction a digits b × MaybeOffset offset b

-- There is a full stop in the bytes, as before the digits of a fraction.
abbrev pub HasPoint : List ℕ → Type 0
HasPoint tokens = (front : List ℕ) × (rest : List ℕ) × (tokens ≡ front ++ (46 ∷ rest))

-- ---- both

-- time-delim = "T" / %x20 ; T, t, or space
abbrev pub IsDelimiter : ℕ → Type 0
IsDelimiter c = (c ≡ 84) ⊎ ((c ≡ 116) ⊎ (c ≡ 32))

module _ {A : Type 0} where
  -- a time by its parts
  abbrev pub IsTimeOf : Time A → ℕ × ℕ × ℕ → List ℕ → Type 0
  IsTimeOf time clock digits =
      (time.hour ≡ clock.0) × (time.minute ≡ clock.1) × (time.second ≡ clock.2)
      × (string_bytes time.fraction ≡ digits)

  -- partial-time = time-hour ":" time-minute ":" time-second [ time-secfrac ], and an offset or
  -- none
  unfoldable pub TimeText : Time A → Option Offset → List ℕ → Type 0
  TimeText time offset tokens =
      (clock : ℕ × ℕ × ℕ) × (digits : List ℕ) × IsTimeOf time clock digits
      × IsTimed clock digits offset tokens

  -- the bytes after a date: time-delim and a time, with an optional offset, or nothing
  unfoldable pub IsBehind : Date → DateTime A → List ℕ → Type 0
  IsBehind date (dates.Offset day time offset) tokens =
      (day ≡ date) × ((c : ℕ) × (rest : List ℕ) × IsDelimiter c × (tokens ≡ c ∷ rest)
      × TimeText time (Some offset) rest)
  IsBehind date (dates.Local day time) tokens =
      (day ≡ date) × ((c : ℕ) × (rest : List ℕ) × IsDelimiter c × (tokens ≡ c ∷ rest)
      × TimeText time None rest)
  IsBehind date (dates.Date day) tokens = (day ≡ date) × (tokens ≡ [])
  IsBehind date (dates.Time time) tokens = ⊥

  -- local-time: only partial-time
  unfoldable pub IsAlone : DateTime A → List ℕ → Type 0
  IsAlone d tokens = (time : Time A) × (d ≡ dates.Time time) × TimeText time None tokens

  -- date-time = offset-date-time / local-date-time / local-date / local-time, where all but
  -- local-time start with full-date
  unfoldable pub IsDateTime : DateTime A → List ℕ → Type 0
  IsDateTime d tokens =
      ((date : Date) × (rest : List ℕ) × FullDate tokens date rest × IsBehind date d rest)
      ⊎ IsAlone d tokens

-- ---- what functions answer of them

-- The output at the start of the bytes, and the rest; `None` if there is no output.
unfoldable pub Finds : {O : Type 0} → Standing O → List ℕ → Option (O × Bor (List ℕ)) → Type 0
Finds {O} stands tokens None = (o : O) (rest : List ℕ) → stands tokens o rest → ⊥
Finds stands tokens (Some found) = stands tokens found.0 found.1.now

-- `FoundResult is o`: `o` satisfies `is`; or it is `None`, and nothing does.
unfoldable pub FoundResult : {O : Type 0} → (O → Type 0) → Option O → Type 0
FoundResult {O} is None = (o : O) → is o → ⊥
FoundResult is (Some o) = is o

-- `CountsDigits tokens n`: `tokens` starts with `n` digits, and no more.
unfoldable pub CountsDigits : List ℕ → ℕ → Type 0
CountsDigits tokens n =
    (n ≤ length tokens) × All IsDigit (take n tokens)
    × (n < length tokens → IsDigit (get_or tokens n 0) → ⊥)

-- the bytes are empty, or do not start with a digit
abbrev pub NoDigit : List ℕ → Type 0
NoDigit tokens = (c : ℕ) (others : List ℕ) → tokens ≡ c ∷ others → IsDigit c → ⊥

-- The fraction with all of its digits, and the rest; no digits if the bytes do not start with a
-- fraction.
unfoldable pub SplitsFraction : List ℕ → List ℕ → List ℕ → Type 0
SplitsFraction tokens digits rest =
    ((digits ≡ []) × (tokens ≡ rest)
    × ((c : ℕ) (others : List ℕ) → tokens ≡ 46 ∷ c ∷ others → IsDigit c → ⊥))
    ⊎ ((1 ≤ length digits) × All IsDigit digits × (tokens ≡ 46 ∷ digits ++ rest) × NoDigit rest)

-- the parts of a time
abbrev pub Parts : Type 0
Parts = (ℕ × ℕ × ℕ) × Bor (List ℕ) × Option Offset

-- The parts of the time that all of it is; none, where it is none.
unfoldable pub FindsTime : List ℕ → Option Parts → Type 0
FindsTime tokens None =
    (clock : ℕ × ℕ × ℕ) (digits : List ℕ) (offset : Option Offset)
    → IsTimed clock digits offset tokens → ⊥
FindsTime tokens (Some (clock, digits, offset)) = IsTimed clock digits.now offset tokens
