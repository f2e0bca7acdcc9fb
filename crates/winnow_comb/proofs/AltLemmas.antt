-- A choice among the members of a tuple: a branch, and the others.
use Rattle.std.specs.Prelude.{◌≡◌, Bool, Ok, Err}
use Rattle.std.proofs.Common.{refl, sym, subst, ap, ◌∙◌}
use Rattle.streams.specs.Input.{Input, IsEndOf, Remaining, back_at, is_end_of_back}
use Rattle.streams.specs.Input.{is_end_of_trans}
use Rattle.streams.specs.Kind.{backtrack, cut, incomplete, memory}
use Rattle.streams.specs.Reading.{Reading}
use Rattle.stream_errors.specs.Form.{Answer, ErrorForm}
use Rattle.parser_definitions.specs.Alt.{AltDoes, or_others}
use Rattle.parser_definitions.specs.Does.{Ran}
use Rattle.parser_definitions.specs.Left.{back, left_of}
use Rattle.parser_definitions.specs.Outcome.{Does, backs, outcome_of, setting_of}
use Rattle.parser_definitions.specs.Then.{ComesOf}
use Rattle.parser_definitions.specs.Then.Steps.{with_first, with_second}
use Rattle.winnow_core.specs.Results.{handed, pair_is}

-- What others do from the start of a branch that backtracked.
pub again : {S1 S2 T L O : Type 0} {reading : Reading T L} (one : Does S1 T O)
    (others : Does S2 T O) {form : ErrorForm} (s t : S1) (i a m j : Input T) (u v : S2)
    (answer : Answer O) → Ran reading one form s i (Err backtrack) t a → m ≡ back_at i.left a
    → Ran reading others form u m answer v j
    → IsEndOf reading j i × (j.status.cut ≡ i.status.cut) × (j.left.possible ≡ i.left.possible)
    × others (setting_of form i) u (back (left_of i) (left_of a)) (outcome_of answer (v, left_of j))
again {T = T} {reading = reading} one others {form} s t i a m j u v answer
    (ends, partial, possible, did) there ran =
    let P : Input T → Type 0 = λ z. Ran reading others form u z answer v j in
    let Q : Bool → Type 0 = λ b.
    others (record { form = form; more = b; possible = i.left.possible }) u
    (back (left_of i) (left_of a)) (outcome_of answer (v, left_of j)) in
    let (end, flag, readable, does) = subst P there ran in
    (is_end_of_trans end (is_end_of_back refl ends), flag ∙ partial, readable, subst Q partial does)

module _ {S1 S2 T L O : Type 0} {reading : Reading T L} (one : Does S1 T O) (others : Does S2 T O)
    {form : ErrorForm} (s t : S1 × S2) (i j : Input T) (answer : Answer O) where
  -- the branch does not backtrack
  pub alt_here : Ran reading one form s.0 i answer t.0 j → (answer ≡ Err backtrack → ⊥)
      → t.1 ≡ s.1 → Ran reading (AltDoes one others) form s i answer t j
  alt_here (ends, partial, possible, did) stays kept =
      let P : S1 × S2 → Type 0 = λ z. ComesOf (or_others others) (setting_of form i) s (left_of i)
      (outcome_of answer (t.0, left_of j)) (outcome_of answer (z, left_of j)) in (
        ends,
        partial,
        possible,
        (_, did, subst P (sym (pair_is t s.1 kept)) (by answer stays)),
      )
    where
      by : (a : Answer O) → (a ≡ Err backtrack → ⊥)
          → ComesOf (or_others others) (setting_of form i) s (left_of i)
          (outcome_of a (t.0, left_of j)) (outcome_of a ((t.0, s.1), left_of j))
      by (Ok o) stays = refl
      by (Err backtrack) stays = absurd (stays refl)
      by (Err cut) stays = refl
      by (Err (incomplete need)) stays = refl
      by (Err memory) stays = refl

  -- it backtracks, and the others answer from the start
  pub alt_next : (m : Input T) (start : Remaining T) → start ≡ i.left
      → (a : Input T) × Ran reading one form s.0 i (Err backtrack) t.0 a × (m ≡ back_at start a)
      → Ran reading others form s.1 m answer t.1 j
      → Ran reading (AltDoes one others) form s i answer t j
  alt_next m start from (a, ran, there) after =
      let (ends, partial, possible, did) = again one others s.0 t.0 i a m j s.1 t.1 answer ran
      (there ∙ ap (λ x. back_at x a) from) after in (
        ends,
        partial,
        possible,
        (
          backs (t.0, left_of a),
          ran.3,
          (
            outcome_of answer (t.1, left_of j),
            did,
            handed with_second (setting_of form i) (with_first s t.0)
                (back (left_of i) (left_of a)) answer t.1 (left_of j),
          ),
        ),
      )
