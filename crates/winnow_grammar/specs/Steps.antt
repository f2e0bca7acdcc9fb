-- Results of a function that calls one parser after another with `?`.
use Rattle.std.specs.Prelude.{List, Ok, Err}
use Rattle.std.proofs.Common.{refl, subst, inl, inr, ◌∙◌}
use Rattle.streams.specs.Input.{Input, is_end_of_trans}
use Rattle.streams.specs.Kind.{Kind}
use Rattle.streams.specs.Reading.{Reading}
use Rattle.grammars.specs.Grammar.{Both, Grammar, IsUnique}
use Rattle.winnow_core.specs.Exact.{Reads}

-- both outputs, in sequence
abbrev pub Steps : {T O1 O2 : Type 0} → Grammar T O1 → Grammar T O2 → Grammar T (O1 × O2)
Steps = Both (λ o1 o2. (o1, o2))

-- the first does not match
pub first_err : {T L O1 O2 E : Type 0} {reading : Reading T L} {kind : E → Kind}
    {g1 : Grammar T O1} {i j : Input T} {e : E} (g2 : Grammar T O2)
    → Reads reading kind g1 i (Err e) j → Reads reading kind (Steps g1 g2) i (Err e) j
unfolding Both
first_err g2 r = record {
  ends = r.ends;
  stands = λ whole. tt;
  none = λ whole. elim (r.none whole) [
    | inl want ↦ inl want
    | inr (b, none) ↦ inr (b, λ o rest (o1, o2, mid, x, y, out). none o1 mid x)
  ];
}

module _ {T L O1 O2 E : Type 0} {reading : Reading T L} {kind : E → Kind} {g1 : Grammar T O1}
    {g2 : Grammar T O2} {i m j : Input T} where
  -- both match
  pub steps_ok : {o1 : O1} {o2 : O2} → Reads reading kind g1 i (Ok o1) m
      → Reads reading kind g2 m (Ok o2) j → Reads reading kind (Steps g1 g2) i (Ok (o1, o2)) j
  unfolding Both
  steps_ok {o1} {o2} r s = record {
    ends = is_end_of_trans s.ends r.ends;
    stands = λ whole.
        (o1, o2, m.left.tokens, r.stands whole, s.stands (r.ends.cut ∙ whole), refl);
    none = λ whole. tt;
  }

  -- the second does not match after the first
  pub second_err : {o1 : O1} {e : E} → IsUnique g1 → Reads reading kind g1 i (Ok o1) m
      → Reads reading kind g2 m (Err e) j → Reads reading kind (Steps g1 g2) i (Err e) j
  unfolding Both
  second_err {o1} unique r s = record {
    ends = is_end_of_trans s.ends r.ends;
    stands = λ whole. tt;
    none = λ whole. elim (s.none (r.ends.cut ∙ whole)) [
      | inl want ↦ inl want
      | inr (b, none) ↦ inr (
        b,
        λ o rest (p, o2, mid, x, y, out).
            let P : List T → Type 0 = λ l. g2 l o2 rest in
            none o2 rest (subst P (unique.one i.left.tokens p o1 mid m.left.tokens x
            (r.stands whole)) y),
      )
    ];
  }
