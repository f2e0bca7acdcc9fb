-- A time with a fraction has a full stop.
use Rattle.std.specs.Prelude.{◌≡◌, ℕ, List, [], ◌∷◌, ◌++◌, Option}
use Rattle.std.specs.Prelude.{Err, Ok, OnErr, Result}
use Rattle.std.proofs.Common.{refl, ap, inl, inr, ◌∙◌}
use Rattle.format_toml_tree.specs.Dates.{Clock, FourDigits, Fraction, FullDate, HasPoint, InTurn}
use Rattle.format_toml_tree.specs.Dates.{IsTimed, Marked, TwoDigits}
use Rattle.format_toml_tree.specs.declared.value.Date.{Date}
use Rattle.format_toml_tree.specs.declared.value.Offset.{Offset}

pub on_err : {X E P : Type 0} (r : Result X E) → P → OnErr r P
on_err (Ok x) p = tt
on_err (Err e) p = p

pub on_err_more : {X E P Q : Type 0} (r : Result X E) → OnErr r P → (P → Q) → OnErr r Q
on_err_more (Ok x) p more = tt
on_err_more (Err e) p more = more p

pub point_after : (tokens : List ℕ) (c : ℕ) (rest : List ℕ) → tokens ≡ c ∷ rest → HasPoint rest
    → HasPoint tokens
point_after tokens c rest e (front, behind, f) = (c ∷ front, behind, e ∙ ap (λ l. c ∷ l) f)

two_point : (tokens : List ℕ) (n : ℕ) (rest : List ℕ) → TwoDigits tokens n rest → HasPoint rest
    → HasPoint tokens
unfolding TwoDigits
two_point tokens n rest (tens, ones, c, d, x, y, e, v) has =
    point_after tokens c (d ∷ rest) e (point_after (d ∷ rest) d rest refl has)

four_point : (tokens : List ℕ) (n : ℕ) (rest : List ℕ) → FourDigits tokens n rest
    → HasPoint rest → HasPoint tokens
unfolding FourDigits
four_point tokens n rest (first, last, mid, x, y, v) has =
    two_point tokens first mid x (two_point mid last rest y has)

marked_point : (mark : ℕ) (tokens : List ℕ) (n : ℕ) (rest : List ℕ) → Marked mark tokens n rest
    → HasPoint rest → HasPoint tokens
unfolding Marked
marked_point mark tokens n rest (mid, e, x) has =
    point_after tokens mark mid e (two_point mid n rest x has)

pub date_point : (tokens : List ℕ) (date : Date) (rest : List ℕ) → FullDate tokens date rest
    → HasPoint rest → HasPoint tokens
unfolding FullDate InTurn
date_point tokens date rest ((a, b, x, y, z), least, most) has =
    four_point tokens date.year a x (marked_point 45 a date.month b y
    (marked_point 45 b date.day rest z has))

pub time_point : (clock : ℕ × ℕ × ℕ) (digits : List ℕ) (offset : Option Offset)
    (tokens : List ℕ) → IsTimed clock digits offset tokens → (digits ≡ [] → ⊥) → HasPoint tokens
unfolding IsTimed Clock InTurn Fraction
time_point clock digits offset tokens (a, b, ((x, y, h, m, s), p, q, r), inl (none, e), o) some =
    absurd (some none)
time_point clock digits offset tokens
    (a, b, ((x, y, h, m, s), p, q, r), inr (more, all, e), o) some =
    two_point tokens clock.0 x h (marked_point 58 x clock.1 y m (marked_point 58 y clock.2 a s
    ([], digits ++ b, e)))
