-- Consecutive entries as offsets of bytes.
use Rattle.std.specs.Prelude.{◌≡◌, ◌≤◌, ◌<◌, ◌+◌, ℕ, List, [], ◌∷◌, ◌++◌, length, take, drop}
use Rattle.std.specs.Prelude.{Bool, Ok, Option, Some, false, slice_index, true}
use Rattle.std.specs.Bool.{Decides}
use Rattle.std.specs.List.{All}
use Rattle.std.proofs.Common.{refl, sym, ap, subst, inl, inr, ◌∙◌, arith, length-drop}
use Rattle.std.proofs.Math.Dec.{eqb}
use Rattle.std.proofs.lemmas.Bool.{eqb-true, eq-eqb}
use Rattle.std.proofs.lemmas.List.{drop-drop, drop_all, length-take-le, take_all}
use Rattle.format_ini.specs.Documents.{ReadsLines}
use Rattle.format_ini.specs.Front.{FirstLine, IsNotByte, StopsAt}
use Rattle.format_ini.specs.Lines.{said_of}
use Rattle.format_ini.specs.Places.{LineAt, NextPlaced, PassesIdle}
use Rattle.format_ini.specs.declared.dialect.Dialect.{Dialect}
use Rattle.format_ini.specs.declared.front.Stop.TheVariants.{LineFeed}
use Rattle.format_ini.specs.declared.lines.Entry.{Entry}
use Rattle.format_ini.specs.declared.lines.Places.{Places}
use Rattle.format_ini.specs.declared.places.Reading.{Reading}
use Rattle.format_ini.proofs.Reading.{reads_no_lines, reads_one_more_line}
use Rattle.format_ini.proofs.Runs.{around_is}

-- the test of two bytes decides whether they are the same
pub byte_decides : (a b : ℕ) → Decides (eqb a b) (a ≡ b)
byte_decides a b = (eqb-true a b, eq-eqb a b)

pub unlike : {b : Bool} → b ≡ false → b ≡ true → ⊥
unlike {b} e f = cc

pub drop_zero : (bytes : List ℕ) → drop 0 bytes ≡ bytes
drop_zero [] = refl
drop_zero (b ∷ bytes) = refl

-- ---- the end of a line

-- `HereIs bytes offset line behind`: `line` is the line at `offset` of `bytes`, and the next one
-- begins at `behind`.
abbrev pub HereIs : List ℕ → ℕ → List ℕ → ℕ → Type 0
HereIs bytes offset line behind = FirstLine (drop offset bytes) line (drop behind bytes)
    × (offset < behind) × (behind ≤ length bytes) × (offset + length line ≤ length bytes)

module _ (bytes left line : List ℕ) (offset size behind : ℕ) (less : offset < length bytes)
    (here : left ≡ drop offset bytes) (stops : StopsAt LineFeed left size)
    (is : line ≡ take size left) where
  left_long : length left + offset ≡ length bytes
  left_long = omega (arith, less, ap (λ l. length l) here, length-drop offset bytes)

  line_long : length line ≡ size
  line_long = ap (λ l. length l) is ∙ length-take-le size left stops.0

  pub line_fed : size < length left → behind ≡ offset + size + 1 → HereIs bytes offset line behind
  line_fed more at =
      let P : List ℕ → List ℕ → Type 0 = λ t rest. FirstLine t line rest in
      let mark : slice_index left size ≡ 10 = stops.2 more in
      let rest : drop (size + 1) left ≡ drop behind bytes =
      ap (λ l. drop (size + 1) l) here ∙ drop-drop (size + 1) offset bytes
      ∙ ap (λ n. drop n bytes) (omega (arith, at)) in
      let cut : left ≡ line ++ (10 ∷ drop behind bytes) =
      around_is left size more ∙ ap (λ m. take size left ++ (m ∷ drop (size + 1) left)) mark
      ∙ ap (λ l. l ++ (10 ∷ drop (size + 1) left)) (sym is)
      ∙ ap (λ l. line ++ (10 ∷ l)) rest in
      let none : All (IsNotByte 10) line = subst (λ l. All (IsNotByte 10) l) (sym is) stops.1 in (
        subst (λ t. P t (drop behind bytes)) here (none, inl cut),
        omega (arith, at),
        omega (arith, at, more, left_long),
        omega (arith, more, left_long, line_long),
      )

  pub line_last : (size < length left → ⊥) → behind ≡ offset + size
      → HereIs bytes offset line behind
  line_last none at =
      let all : size ≡ length left = omega (arith, none, stops.0) in
      let P : List ℕ → List ℕ → Type 0 = λ t rest. FirstLine t line rest in
      let same : left ≡ line = sym (is ∙ take_all size left (omega (arith, all))) in
      let end : drop behind bytes ≡ [] =
      drop_all behind bytes (omega (arith, at, all, left_long)) in
      let others : All (IsNotByte 10) line = subst (λ l. All (IsNotByte 10) l) (sym is) stops.1 in (
        subst (λ t. P t (drop behind bytes)) here
            (others, inr (same, end, omega (arith, all, left_long, less, line_long))),
        omega (arith, at, all, left_long, less),
        omega (arith, at, all, left_long),
        omega (arith, all, left_long, line_long),
      )

-- ---- from line to line

pub passes_none : (d : Dialect) (bytes : List ℕ) (r : Reading) → PassesIdle d bytes r r
passes_none d bytes r = (inl refl, reads_no_lines d r.state (drop r.offset bytes))

module _ (d : Dialect) (bytes : List ℕ) (old mid new : Reading)
    (passes : PassesIdle d bytes old mid) where
  later : mid.offset < new.offset → old.offset < new.offset
  later less = elim passes.0 [
    | inl same ↦ omega (arith, less, ap (λ (r : Reading). r.offset) same)
    | inr it ↦ omega (arith, less, it.0)
  ]

  pub passes_line : (entry : Option Entry) (at : Places) → LineAt d bytes mid entry at new
      → said_of entry ≡ [] → PassesIdle d bytes old new
  passes_line entry at (line, first, text, step, places, less, within) none = (
    inr (later less, within),
    subst (λ s. ReadsLines d old.state (drop old.offset bytes) s new.state (drop new.offset bytes))
        none
        (reads_one_more_line d old.state mid.state new.state (drop old.offset bytes)
        (drop mid.offset bytes)
        line (drop new.offset bytes) [] (said_of entry) passes.1 first step),
  )

  pub placed_some : (entry : Entry) (at : Places) → LineAt d bytes mid (Some entry) at new
      → NextPlaced d bytes old (Ok (Some (record { entry = entry; at = at }))) new
  placed_some entry at (line, first, text, step, places, less, within) =
      (mid, line, passes, first, text, step, places, less, within)
