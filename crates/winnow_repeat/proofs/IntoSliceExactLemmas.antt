-- The grammar of a repetition into a slice.
use Rattle.std.specs.Prelude.{◌≡◌, ℕ, true, false, List, [], ◌∷◌, ◌++◌, length, Ok, Err}
use Rattle.std.proofs.Common.{refl, sym, ap, subst, inl, inr, ◌∙◌, arith, length-append}
use Rattle.std.proofs.lemmas.List.{append-nil, length_push}
use Rattle.streams.specs.Equal.{none_is_some}
use Rattle.streams.specs.Input.{Input, back_at}
use Rattle.streams.specs.Kind.{Kind, backtrack, cut, incomplete, memory}
use Rattle.streams.specs.Reading.{Reading}
use Rattle.stream_errors.specs.Form.{Answer, ErrorForm}
use Rattle.grammars.specs.Grammar.{Each, Grammar, IsUnique, Many}
use Rattle.grammars.specs.Grammar.Unique.{no_more}
use Rattle.parser_definitions.specs.Terms.{Claim, Claimed}
use Rattle.parser_definitions.specs.Does.{Ran}
use Rattle.parser_definitions.specs.Left.{left_of}
use Rattle.parser_definitions.specs.Outcome.{Does, outcome_of}
use Rattle.parser_definitions.specs.Projects.{Agreement, Complete, Projects}
use Rattle.winnow_core.specs.Chain.{Items}
use Rattle.winnow_core.specs.Elements.{length-zero}
use Rattle.winnow_core.specs.Exact.{UnlessWanted, agreement_of}
use Rattle.winnow_repeat.specs.IntoSlice.{Overwrites}
use Rattle.winnow_repeat.specs.IntoSlice.Exact.{AllMatches, HasMore, ReadsIntoSlice}
use Rattle.winnow_repeat.proofs.SliceLemmas.{Stored, as_long}

-- ---- laws

-- matches, and another one after them
each_push : {T O : Type 0} (g : Grammar T O) (os : List O) (tokens rest end : List T) (o : O)
    → Each g tokens os rest → g rest o end → Each g tokens (os ++ o ∷ []) end
each_push g [] tokens rest end o e x = (end, subst (λ l. g l o end) e x, refl)
each_push g (p ∷ os) tokens rest end o (mid, y, more) x =
    (mid, y, each_push g os mid rest end o more x)

has_more : {T O : Type 0} {g : Grammar T O} → IsUnique g → (os : List O)
    (tokens rest end : List T) (o : O) → Each g tokens os rest → g rest o end
    → HasMore g os tokens rest
unfolding Many
has_more {g = g} unique os tokens rest end o each x = record {
  each = each;
  next = (o, end, x);
  more = λ ps last (all, enough, stops). elim stops [
    | inl never ↦ none_is_some never
    | inr (below, none) ↦
        let fewer = no_more unique ps (os ++ o ∷ []) tokens last end all none
        (each_push g os tokens rest end o each x) in
        omega (arith, fewer, length_push os o)
  ];
}

-- every element is overwritten
all_written : {O : Type 0} {os old new : List O} → Overwrites os old new → length os ≡ length old
    → new ≡ os
all_written {os = os} w full =
    let none = length-zero w.rest
    (omega (arith, ap length w.was, length-append w.before w.rest, w.as_many, full)) in
    w.is ∙ ap (λ l. os ++ l) none ∙ append-nil os

-- ---- calls of the parser

module _ {S T L O : Type 0} (reading : Reading T L) {does : Does S T O} (form : ErrorForm)
    {b m : Type 0} {s : S} {g : Grammar T O}
    (projects : (at : Complete) → Projects b m does at s g) where
  abbrev Agreed : Input T → Answer O → S → Input T → Type 0
  Agreed i answer t j = Agreement b m s g i.left.tokens (outcome_of answer (t, left_of j))

  called : (i : Input T) (answer : Answer O) (t : S) (j : Input T) → i.status.cut ≡ false
      → Ran reading does form s i answer t j → Agreed i answer t j
  called i answer t j whole ran = agreement_of reading form projects i t j whole answer ran

  -- the input is complete after it
  still : (i : Input T) (answer : Answer O) (t : S) (j : Input T) → i.status.cut ≡ false
      → Ran reading does form s i answer t j → j.status.cut ≡ false
  still i answer t j whole ran = ran.1 ∙ whole

  -- consecutive items match, and do not change the state
  chain_agrees : (os : List O) (i : Input T) (u : S) (n : Input T) → i.status.cut ≡ false
      → Items (Ran reading does form) s i os u n
      → (u ≡ s) × (n.status.cut ≡ false) × Each g i.left.tokens os n.left.tokens
  chain_agrees [] i u n whole e =
      let P : S × Input T → Type 0 =
      λ p. (p.0 ≡ s) × (p.1.status.cut ≡ false) × (p.1.left.tokens ≡ i.left.tokens) in
      subst P e (refl, whole, refl)
  chain_agrees (o ∷ os) i u n whole (p, item, rest) =
      let P : S → Type 0 =
      λ x. Items (Ran reading does form) x p.1 os u n in
      let (is_match, same) = called i (Ok o) p.0 p.1 whole item.0 in
      let (last, ends, each) = chain_agrees os p.1 u n (still i (Ok o) p.0 p.1 whole item.0)
      (subst P same rest) in
      (last, ends, (p.1.left.tokens, is_match, each))

-- ---- what a call returns, after items whose outputs are stored

module _ {S T L O : Type 0} (reading : Reading T L) {does : Does S T O} (form : ErrorForm)
    {claim : Claim T O} {s : S} (claimed : Claimed claim s does) (is : claim.premise)
    (soft : claim.backtracks) (consumes : claim.consumes) (too_many : ℕ → Kind → Type 0)
    {old now : List O} {i m : Input T} {u : S} {n : ℕ} (whole : i.status.cut ≡ false)
    (stored : Stored (Ran reading does form) old now s i u m n) (t : S) where
  projects : (at : Complete) → Projects claim.backtracks claim.spares_memory does at s claim.grammar
  projects at = claimed.projects at is

  abbrev Told : Answer ℕ → Input T → Type 0
  Told answer j = UnlessWanted (λ k. k) answer (t ≡ s)
      × ReadsIntoSlice claim.grammar claim.spares_memory too_many old i.left.tokens answer now
      j.left.tokens

  matched : (u ≡ s) × (m.status.cut ≡ false)
      × Each claim.grammar i.left.tokens stored.outputs m.left.tokens
  matched = chain_agrees reading form projects stored.outputs i u m whole stored.items

  agreed : (answer : Answer O) (j : Input T) → Ran reading does form u m answer t j
      → Agreement claim.backtracks claim.spares_memory s claim.grammar m.left.tokens
      (outcome_of answer (t, left_of j))
  agreed answer j ran =
      let R : S → Type 0 = λ z. Ran reading does form z m answer t j in
      called reading form projects m answer t j matched.1 (subst R matched.0 ran)

  -- an item backtracks
  pub counted_read : (k : Kind) → k ≡ backtrack → (x : Input T)
      → Ran reading does form u m (Err k) t x → (j : Input T) → j ≡ back_at m.left x
      → Told (Ok n) j
  unfolding Many
  counted_read k back x ran j same =
      let R : Kind → Type 0 = λ k. Ran reading does form u m (Err k) t x in
      let (none, kept) = agreed (Err backtrack) x (subst R back ran) in
      let Q : List T → Type 0 = λ l. AllMatches claim.grammar i.left.tokens stored.outputs l in (
        kept,
        record {
          stands = (
            stored.outputs,
            sym stored.counted,
            stored.written,
            subst Q (sym (ap (λ y. y.left.tokens) same)) (matched.2, omega arith, inr (tt, none)),
          );
          fails = tt;
        },
      )

  -- it fails by another kind: out of memory
  pub failed_read : (k : Kind) → (k ≡ backtrack → ⊥) → (j : Input T)
      → Ran reading does form u m (Err k) t j → Told (Err k) j
  failed_read k other j ran =
      let (wanting, not) = wanted k other (agreed (Err k) j ran) in
      (inl wanting, record { stands = tt; fails = inr (wanting, not) })
    where
      wanted : (k : Kind) → (k ≡ backtrack → ⊥)
          → Agreement claim.backtracks claim.spares_memory s claim.grammar m.left.tokens
          (outcome_of (Err k) (t, left_of j))
          → (k ≡ memory) × (claim.spares_memory → ⊥)
      wanted backtrack other a = absurd (other refl)
      wanted cut other (none, kept, not) = absurd (not soft)
      wanted (incomplete need) other never = absurd never
      wanted memory other not = (refl, not)

  module _ (o : O) (x : Input T) (ran : Ran reading does form u m (Ok o) t x) where
    -- it consumes nothing: no match does
    pub stuck_read : x.left.tokens ≡ m.left.tokens → ⊥
    stuck_read nothing =
        let fewer = (claimed.takes is consumes).fewer m.left.tokens o x.left.tokens
        (agreed (Ok o) x ran).0 in
        omega (arith, fewer, ap length nothing)

    -- there is no element for its output
    pub full_read : length now ≡ n → (k : Kind) → too_many n k → (j : Input T)
        → j ≡ back_at m.left x → Told (Err k) j
    full_read full k many j same =
        let P : List O → List T → Type 0 = λ l rest. HasMore claim.grammar l i.left.tokens rest in
        let (is_match, kept) = agreed (Ok o) x ran in
        let long = as_long stored.written in
        let written = all_written stored.written (stored.counted ∙ sym full ∙ long) in (
          inr kept,
          record {
            stands = tt;
            fails = inl (
              subst (λ l. too_many l k) (sym full ∙ long) many,
              long,
              subst (λ l. P l j.left.tokens) (sym written)
                  (subst (P stored.outputs) (sym (ap (λ y. y.left.tokens) same))
                  (has_more (projects (record { form = form; possible = true })).unique
                  stored.outputs i.left.tokens m.left.tokens x.left.tokens o matched.2 is_match)),
            );
          },
        )
