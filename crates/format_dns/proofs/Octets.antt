-- How many octets the labels of a name have.
use Rattle.std.specs.Prelude.{◌≡◌, ◌≤◌, ◌+◌, ◌*◌, ◌++◌, ℕ, List, [], ◌∷◌, length}
use Rattle.std.proofs.Common.{sym, ap, subst, inl, inr, ◌∙◌, arith, length-append}
use Rattle.streams.specs.Equal.{none_is_some, same_first, same_others}
use Rattle.grammars.specs.Grammar.{Each, Many, NoMatch}
use Rattle.grammars.specs.Grammar.Lengths.{same_beginnings}
use Rattle.format_dns.specs.Names.{AreLabels, IsLabel, Label, octets}

pub octets_append : (here more : List Label) → octets (here ++ more) ≡ octets here + octets more
octets_append [] more = omega arith
octets_append (label ∷ here) more = omega (arith, octets_append here more)

-- labels take as many bytes
pub octets_each : (labels : List Label) (tokens rest : List ℕ) → Each IsLabel tokens labels rest
    → length tokens ≡ octets labels + length rest
octets_each [] tokens rest e = omega (arith, ap (λ l. length l) e)
octets_each (label ∷ labels) tokens rest (mid, (least, most, e), more) =
    omega (
      arith,
      ap (λ l. length l) e,
      length-append label.now mid,
      octets_each labels mid rest more,
    )

-- each label has two octets or more
pub octets_least : (labels : List Label) (tokens rest : List ℕ) → Each IsLabel tokens labels rest
    → 2 * length labels ≤ octets labels
octets_least [] tokens rest e = omega arith
octets_least (label ∷ labels) tokens rest (mid, (least, most, e), more) =
    omega (arith, least, octets_least labels mid rest more)

pub octets_most : (some all : List Label) (tokens other rest : List ℕ)
    → Each IsLabel tokens some other → Each IsLabel tokens all rest → NoMatch IsLabel rest
    → octets some ≤ octets all
octets_most [] all tokens other rest e f none = omega arith
octets_most (label ∷ some) [] tokens other rest (mid, x, more) f none =
    let P : List ℕ → Type 0 = λ l. NoMatch IsLabel l in
    absurd (subst P f none label mid x)
octets_most (label ∷ some) (first ∷ all) tokens other rest (mid, (a, b, e), more)
    (mid2, (c, d, f), more2) none =
    let same = sym e ∙ f in
    let alike = same_beginnings label.now first.now mid mid2 (same_first same) (same_others same) in
    let P : List ℕ → Type 0 = λ l. Each IsLabel l some other in
    omega (
      arith,
      same_first same,
      octets_most some all mid2 other rest (subst P alike.1 more) more2 none,
    )

module _ {message : List ℕ} {start end : ℕ} {here : List Label} {rest : List ℕ}
    (a : AreLabels message start here end rest) where
  pub each_here : Each IsLabel a.tokens here rest
  unfolding Many
  each_here = a.each.0

  pub none_here : NoMatch IsLabel rest
  unfolding Many
  none_here =
      elim a.each.2 [
        | inl full ↦ absurd (none_is_some full)
        | inr (below, none) ↦ none
      ]
