-- Results of successive calls for consecutive encodings.
use Rattle.std.specs.Prelude.{◌≡◌, ◌<◌, ◌+◌, ℕ, List, [], ◌∷◌, ◌++◌, length}
use Rattle.std.proofs.Common.{refl, sym, ap, inl, inr, ◌∙◌, arith, append_assoc, length-append}
use Rattle.std.proofs.lemmas.List.{append-nil}
use Rattle.streams.specs.Following.{Following}
use Rattle.streams.specs.Input.{Input, is_end_of_refl, is_end_of_trans}
use Rattle.streams.specs.Kind.{Kind}
use Rattle.streams.specs.Reading.{Reading}
use Rattle.grammars.specs.Grammar.{IsUnique}
use Rattle.grammars.specs.Texts.{EachText, Text}
use Rattle.winnow_grammar.specs.InTurn.{Failed, First, MatchesEachCompletion, completes_end}

-- `n` consecutive encodings.
abbrev pub RowOf : {T O : Type 0} → Text T O → ℕ → Text T (List O)
RowOf text n os tokens = (length os ≡ n) × EachText text os tokens

-- one text more
row_more : {T O : Type 0} (text : Text T O) (os : List O) (o : O) (xs ys : List T)
    → EachText text os xs → text o ys → EachText text (os ++ o ∷ []) (xs ++ ys)
unfolding EachText
row_more text [] o xs ys e a = (ys, [], a, refl, ap (λ l. l ++ ys) e ∙ sym (append-nil ys))
row_more text (p ∷ ps) o xs ys (us, vs, b, more, e) a = (
  us,
  vs ++ ys,
  b,
  row_more text ps o vs ys more a,
  ap (λ l. l ++ ys) e ∙ append_assoc us vs ys,
)

module _ {T O : Type 0} (text : Text T O) (unique : IsUnique (First text)) where
  -- fewer encodings are followed by another one
  row_next : (os ps : List O) (xs ys rest other : List T) → EachText text os xs
      → EachText text ps ys
      → xs ++ rest ≡ ys ++ other → length os < length ps
      → (o : O) × (end : List T) × First text rest o end
  unfolding First EachText
  row_next os [] xs ys rest other a b e less = absurd (omega (arith, less))
  row_next [] (p ∷ ps) xs ys rest other a (us, vs, b, more, d) e less = (
    p,
    vs ++ other,
    (
      us,
      b,
      ap (λ l. l ++ rest) (sym a) ∙ e ∙ ap (λ l. l ++ other) d ∙ append_assoc us vs other,
    ),
  )
  row_next (o ∷ os) (p ∷ ps) xs ys rest other (us, vs, a, more, d) (ws, zs, b, also, f) e less =
      let all = us ++ (vs ++ rest) in
      let one : all ≡ ws ++ (zs ++ other) =
      sym (append_assoc us vs rest) ∙ ap (λ l. l ++ rest) (sym d) ∙ e
      ∙ ap (λ l. l ++ other) f ∙ append_assoc ws zs other in
      row_next os ps vs zs rest other more also (unique.one all o p (vs ++ rest) (zs ++ other)
      (us, a, refl) (ws, b, one)) (omega (arith, less))

module _ {T L O : Type 0} {reading : Reading T L} {following : Following T} (text : Text T O)
    {i : Input T} where
  -- before the first
  pub none_stood : MatchesEachCompletion reading following (First (RowOf text 0)) i [] i
  unfolding First EachText
  none_stood = record {
    ends = is_end_of_refl reading i;
    stands = λ more c. ([], (refl, refl), refl);
  }

  -- one more
  pub more_stood : (n : ℕ) {os : List O} {o : O} {m j : Input T}
      → MatchesEachCompletion reading following (First (RowOf text n)) i os m
      → MatchesEachCompletion reading following (First text) m o j
      → MatchesEachCompletion reading following (First (RowOf text (n + 1))) i (os ++ o ∷ []) j
  unfolding First
  more_stood n {os} {o} {m} {j} a b = record {
    ends = is_end_of_trans b.ends a.ends;
    stands = λ more c.
        let (xs, (k, row), e) = a.stands more c in
        let (ys, t, d) = b.stands more (completes_end a.ends more c) in (
          xs ++ ys,
          (omega (arith, k, length-append os (o ∷ [])), row_more text os o xs ys row t),
          e ∙ ap (λ l. xs ++ l) d ∙ sym (append_assoc xs ys (j.left.tokens ++ more)),
        );
  }

  -- if a later element fails, `many` elements fail
  pub more_failed : (n many : ℕ) {os : List O} {k : Kind} {m j : Input T}
      → IsUnique (First text) → MatchesEachCompletion reading following (First (RowOf text n)) i os
      m
      → Failed reading following (First text) m k j → n < many
      → Failed reading following (First (RowOf text many)) i k j
  unfolding First
  more_failed n many {os} {k} {m} {j} unique a f less = record {
    ends = is_end_of_trans f.ends a.ends;
    none = elim f.none [
      | inl want ↦ inl want
      | inr (inl (cut, asks)) ↦ inr (inl (sym a.ends.cut ∙ cut, asks))
      | inr (inr nothing) ↦ inr (inr (λ more c.
          let (b, none) = nothing more (completes_end a.ends more c) in (
            b,
            λ ps rest (ys, (l, row), d).
                let (xs, (h, begun), e) = a.stands more c in
                let (o, end, stands) = row_next text unique os ps xs ys (m.left.tokens ++ more) rest
                begun row (sym e ∙ d) (omega (arith, h, l, less)) in
                none o end stands,
          )))
    ];
  }
