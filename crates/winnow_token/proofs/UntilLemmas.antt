-- Offsets of prefixes of the same tokens, and the result for a first match.
use Rattle.std.proofs.Common.{◌≡◌, ◌≤◌, ◌<◌, ◌+◌, ◌-◌, ℕ, false, List, [], ◌∷◌, ◌++◌, length}
use Rattle.std.proofs.Common.{take, drop, refl, sym, ap, ◌∙◌, ◌⊎◌, arith, inl, inr, length-append}
use Rattle.std.proofs.Common.{None, Some, Ok, Err}
use Rattle.std.proofs.lemmas.Bool.{cases_lt, false≢true, leb-true, le-leb}
use Rattle.std.proofs.Math.Dec.{leb}
use Rattle.std.proofs.lemmas.List.{take-append-drop, take-append-le, length-take-le}
use Rattle.std.proofs.Math.Seq.{take-append-add}
use Rattle.streams.specs.Input.{Input, Takes, is_end_of_refl, takes_end}
use Rattle.streams.specs.Kind.{Kind, backtrack}
use Rattle.streams.specs.Reading.{Reading, units-nil, units-zero}
use Rattle.stream_errors.specs.Form.{Answer, ErrorForm}
use Rattle.stream_searches.specs.FindSlice.{IsFirstMatch}
use Rattle.stream_sets.specs.Range.{Bounds, IsWithin}
use Rattle.grammars.specs.Grammar.Searches.{IsBefore}
use Rattle.grammars.specs.Grammar.Searches.Unique.{match_before}
use Rattle.parser_definitions.specs.Does.{Ran}
use Rattle.parser_definitions.specs.Left.{left_of}
use Rattle.parser_definitions.specs.TakeUntil.{TakeUntilDoes}
use Rattle.winnow_core.specs.Results.{gave}
use Rattle.winnow_core.specs.Leaves.{passed_of, short}
use Rattle.winnow_core.specs.Short.{ShortKind}
use Rattle.winnow_token.specs.Before.{SaysAtLeast, SaysAtMost}

-- some more tokens take some more units
more_units : {T S : Type 0} (reading : Reading T S) (xs ys : List T) → 0 < length ys
    → reading.units xs < reading.units (xs ++ ys)
more_units reading xs [] h = absurd (omega arith)
more_units reading xs (y ∷ ys) h =
    omega (arith, reading.units_add xs (y ∷ ys), reading.units_positive y ys)

-- fewer tokens take no more units
pub fewer_take_less : {T S : Type 0} (reading : Reading T S) (front rest : List T) (n : ℕ)
    → n ≤ length front → reading.units (take n (front ++ rest)) ≤ reading.units front
fewer_take_less reading front rest n le =
    omega (
      arith,
      ap reading.units (take-append-le n front rest le),
      ap reading.units (take-append-drop n front),
      reading.units_add (take n front) (drop n front),
    )

-- and fewer than all take less
pub fewer_take_fewer : {T S : Type 0} (reading : Reading T S) (front rest : List T) (n : ℕ)
    → n < length front → reading.units (take n (front ++ rest)) < reading.units front
fewer_take_fewer reading front rest n lt =
    let some : 0 < length (drop n front) =
    omega (
      arith,
      ap (λ l. length l) (take-append-drop n front),
      length-append (take n front) (drop n front),
      length-take-le n front (omega (arith, lt)),
    ) in
    omega (
      arith,
      ap reading.units (take-append-le n front rest (omega (arith, lt))),
      ap reading.units (take-append-drop n front),
      more_units reading (take n front) (drop n front) some,
    )

-- tokens beyond a beginning take more than it
pub more_take_more : {T S : Type 0} (reading : Reading T S) (front rest : List T) (n : ℕ)
    → n ≤ length (front ++ rest) → length front < n
    → reading.units front < reading.units (take n (front ++ rest))
more_take_more reading front rest n le lt =
    let k = n - length front in
    let is : n ≡ length front + k = omega (arith, lt) in
    let taken : take n (front ++ rest) ≡ front ++ take k rest =
    ap (λ m. take m (front ++ rest)) is ∙ take-append-add front rest k in
    let some : 0 < length (take k rest) =
    omega (
      arith,
      lt,
      length-take-le k rest
          (omega (arith, le, length-append front rest, is)),
    ) in
    omega (arith, ap reading.units taken, more_units reading front (take k rest) some)

-- as many tokens take as many units
pub same_take_same : {T S : Type 0} (reading : Reading T S) (front rest : List T) (n : ℕ)
    → n ≤ length (front ++ rest) → length front ≤ n
    → reading.units front ≤ reading.units (take n (front ++ rest))
same_take_same reading front rest n le ge = elim (cases_lt (length front) n) [
  | inl lt ↦ (let more = more_take_more reading front rest n le lt in omega (arith, more))
  | inr same ↦ (let k : n ≡ length front + 0 = omega (arith, ge, same) in
      let taken : take n (front ++ rest) ≡ front ++ take 0 rest =
      ap (λ m. take m (front ++ rest)) k ∙ take-append-add front rest 0 in
      omega (arith, ap reading.units taken, reading.units_add front (take 0 rest)))
]

-- The offset after `n` tokens decides whether at least `n` tokens precede another offset.
pub says_at_least : {T S : Type 0} (reading : Reading T S) (tokens : List T) (n end offset : ℕ)
    → n ≤ length tokens → end ≡ reading.units (take n tokens)
    → SaysAtLeast reading.units tokens n offset (leb end offset)
says_at_least reading tokens n end offset le e front rest split at =
    let there : end ≡ reading.units (take n (front ++ rest)) =
    e ∙ ap (λ l. reading.units (take n l)) split in
    let within : n ≤ length (front ++ rest) = omega (arith, le, ap (λ l. length l) split) in (
      λ t. elim (cases_lt (length front) n) [
        | inl lt ↦ absurd
            (let more = more_take_more reading front rest n within lt
            in let before = leb-true end offset t in omega (arith, more, before, there, at))
        | inr ge ↦ ge
      ],
      λ few. le-leb end offset
          (let less = fewer_take_less reading front rest n few
          in omega (arith, less, there, at)),
    )

-- There are fewer tokens than n.
pub says_fewer : {T S : Type 0} (reading : Reading T S) (tokens : List T) (n offset : ℕ)
    → length tokens < n → SaysAtLeast reading.units tokens n offset false
says_fewer reading tokens n offset lt front rest split at = (
  (λ t. absurd (false≢true t)),
  (λ few. absurd (omega
      (arith, lt, few, ap (λ l. length l) split, length-append front rest))),
)

-- The offset after `n` tokens decides whether at most `n` tokens precede another offset.
pub says_at_most : {T S : Type 0} (reading : Reading T S) (tokens : List T) (n end offset : ℕ)
    → n ≤ length tokens → end ≡ reading.units (take n tokens)
    → SaysAtMost reading.units tokens n offset (leb offset end)
says_at_most reading tokens n end offset le e front rest split at =
    let there : end ≡ reading.units (take n (front ++ rest)) =
    e ∙ ap (λ l. reading.units (take n l)) split in
    let within : n ≤ length (front ++ rest) = omega (arith, le, ap (λ l. length l) split) in (
      λ t. elim (cases_lt n (length front)) [
        | inl lt ↦ absurd
            (let fewer = fewer_take_fewer reading front rest n lt
            in let before = leb-true offset end t in omega (arith, fewer, before, there, at))
        | inr ge ↦ ge
      ],
      λ few. le-leb offset end
          (let more = same_take_same reading front rest n within few
          in omega (arith, more, there, at)),
    )

pub none_before : {T S : Type 0} (reading : Reading T S) (front : List T) (start : ℕ)
    → start ≡ reading.units front → start ≡ 0 → length front ≡ 0
none_before reading front start at zero =
    ap (λ l. length l) (units-zero reading front (sym at ∙ zero))

pub some_before : {T S : Type 0} (reading : Reading T S) (front : List T) (start : ℕ)
    → start ≡ reading.units front → (start ≡ 0 → ⊥) → 0 < length front
some_before reading [] start at other = absurd (other (at ∙ units-nil reading))
some_before reading (x ∷ xs) start at other = omega arith

-- ---- the results after a first match

module _ {X T L : Type 0} (reading : Reading T L) (form : ErrorForm) (sought : List T → Type 0)
    (bounds : Bounds) (x : X) (i : Input T) (start end : ℕ)
    (within : IsWithin bounds.greatest bounds.least)
    (m : IsFirstMatch reading.units sought i.left.tokens start end) where
  abbrev Leads : Answer L → Input T → Type 0
  Leads answer j = Ran reading
      (TakeUntilDoes reading (λ _. sought) (λ _. bounds)) form x i answer x j

  before : IsBefore sought i.left.tokens m.front (m.found ++ m.rest)
  before = match_before reading m (m.found ++ m.rest) m.stands.splits

  -- too few tokens precede it, and there is a greatest number
  pub lacking_ran : length m.front < bounds.least → (most : ℕ) → bounds.greatest ≡ Some most
      → (k : Kind) → ShortKind form None i k → Leads (Err k) i
  lacking_ran few most is k kind = (
    is_end_of_refl reading i,
    refl,
    refl,
    inr (
      within,
      inl (
        inr (m.front, m.found ++ m.rest, before, few, most, is),
        short form None i k (x, left_of i) kind,
      ),
    ),
  )

  -- too few precede it, and there is none, or too many do
  pub outside_ran : ((length m.front < bounds.least) × (bounds.greatest ≡ None))
      ⊎ ((most : ℕ) × (bounds.greatest ≡ Some most) × (bounds.least ≤ most)
      × (most < length m.front))
      → (k : Kind) → k ≡ backtrack → Leads (Err k) i
  outside_ran why k is = (
    is_end_of_refl reading i,
    refl,
    refl,
    inr (
      within,
      inr (inr (
        (m.front, m.found ++ m.rest, before, why),
        gave {O = L} (x, left_of i) (ap Err is),
      )),
    ),
  )

  -- their number is within the bounds
  pub before_ran : bounds.least ≤ length m.front → IsWithin bounds.greatest (length m.front)
      → (slice : L) (j : Input T) → Takes reading m.front i slice j → Leads (Ok slice) j
  before_ran enough fits slice j takes =
      let passed = takes_end takes in
      let first = match_before reading m j.left.tokens takes.passed.tokens in (
        passed,
        passed.cut,
        passed.ends.possible,
        inr (
          within,
          inr (inl (
            slice,
            left_of j,
            (m.front, first, enough, fits, takes.shown, passed_of takes.passed),
            refl,
          )),
        ),
      )
