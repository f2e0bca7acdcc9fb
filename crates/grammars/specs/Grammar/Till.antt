-- Repetitions up to a terminator.
use Rattle.std.specs.Prelude.{◌≡◌, ◌+◌, List, [], ◌∷◌, ◌++◌, length}
use Rattle.std.proofs.Common.{sym, ap, subst, ◌∙◌, arith, length-append}
use Rattle.stream_sets.specs.Range.{Bounds, IsWithin, bounds_of}
use Rattle.stream_sets.specs.declared.range.Range.{Range}
use Rattle.grammars.specs.Grammar.{Each, Grammar, IsUnique, NoMatch, TakesTokens}
use Rattle.grammars.specs.Grammar.Unique.{each_ends, end_of_end}

-- A match of `item`, if `tokens` does not start with a terminator.
abbrev pub Turn : {T O D : Type 0} → Grammar T O → Grammar T D → Grammar T O
Turn item till tokens o rest = NoMatch till tokens × item tokens o rest

-- The least number of items, then items up to the first terminator, and the terminator. The number
-- of all items is at most the greatest number.
unfoldable pub UpTo : {T O D : Type 0} → Grammar T O → Grammar T D → Bounds
    → Grammar T (List O × D)
UpTo {T} {O} item till bounds tokens both rest =
    (os : List O) × (ps : List O) × (a : List T) × (b : List T) × (both.0 ≡ os ++ ps)
    × (length os ≡ bounds.least) × Each item tokens os a × Each (Turn item till) a ps b
    × IsWithin bounds.greatest (length os + length ps) × till b both.1 rest

-- Items up to a terminator, as many as a range says, held by an accumulator.
unfoldable pub Till : {T O D C : Type 0} → (C → List O → Type 0) → Range → Grammar T O
    → Grammar T D → Grammar T (C × D)
Till {O = O} holds range item till tokens both rest =
    (os : List O) × holds both.0 os × UpTo item till (bounds_of range) tokens (os, both.1) rest

-- ---- it leaves one rest

-- as many items leave the same
pub each_same : {T O : Type 0} {g : Grammar T O} → IsUnique g → (os ps : List O)
    (tokens rest other : List T) → length os ≡ length ps → Each g tokens os rest
    → Each g tokens ps other → rest ≡ other
each_same unique [] [] tokens rest other n e f = e ∙ sym f
each_same unique [] (p ∷ ps) tokens rest other n e f = absurd (omega (arith, n))
each_same unique (o ∷ os) [] tokens rest other n e f = absurd (omega (arith, n))
each_same {T} {O} {g} unique (o ∷ os) (p ∷ ps) tokens rest other n (mid, x, more)
    (mid2, y, more2) =
    let P : List T → Type 0 = λ l. Each g l os rest in
    each_same unique os ps mid2 rest other (omega (arith, n))
    (subst P (unique.one tokens o p mid mid2 x y) more) more2

module _ {T O D : Type 0} (item : Grammar T O) (till : Grammar T D) (unique : IsUnique item) where
  pub turns_same : (os ps : List O) (tokens rest other end last : List T) (d e : D)
      → Each (Turn item till) tokens os rest → till rest d end
      → Each (Turn item till) tokens ps other → till other e last → rest ≡ other
  turns_same [] [] tokens rest other end last d e a x b y = a ∙ sym b
  turns_same [] (p ∷ ps) tokens rest other end last d e a x (mid, (no_till, z), more) y =
      let P : List T → Type 0 = λ l. till l d end in absurd (no_till d end (subst P a x))
  turns_same (o ∷ os) [] tokens rest other end last d e (mid, (no_till, z), more) x b y =
      let P : List T → Type 0 = λ l. till l e last in absurd (no_till e last (subst P b y))
  turns_same (o ∷ os) (p ∷ ps) tokens rest other end last d e (mid, (no_till, z), more) x
      (mid2, (lacks, w), more2) y =
      let P : List T → Type 0 = λ l. Each (Turn item till) l os rest in
      turns_same os ps mid2 rest other end last d e
      (subst P (unique.one tokens o p mid mid2 z w) more) x more2 y

  pub turn_unique : IsUnique (Turn item till)
  turn_unique = record {
    ends = λ tokens o rest (no_till, x). unique.ends tokens o rest x;
    one = λ tokens o p rest other (no_till, x) (lacks, y). unique.one tokens o p rest other x y;
  }

  pub up_to_unique : IsUnique till → (bounds : Bounds) → IsUnique (UpTo item till bounds)
  unfolding UpTo
  up_to_unique ends bounds = record {
    ends = λ tokens o rest (os, ps, a, b, made, least, first, turns, within, x).
        end_of_end (each_ends unique os tokens a first)
        (end_of_end (each_ends turn_unique ps a b turns) (ends.ends b o.1 rest x));
    one = λ tokens o p rest other (os, ps, a, b, made, least, first, turns, within, x)
        (qs, rs, c, d, made2, least2, first2, turns2, within2, y).
        let P : List T → Type 0 = λ l. Each (Turn item till) l ps b in
        let Q : List T → Type 0 = λ l. till l o.1 rest in
        let same = each_same unique os qs tokens a c (least ∙ sym least2) first first2 in
        let last = turns_same ps rs c b d rest other o.1 p.1 (subst P same turns) x turns2 y in
        ends.one d o.1 p.1 rest other (subst Q last x) y;
  }

  pub till_unique : {C : Type 0} (holds : C → List O → Type 0) (range : Range) → IsUnique till
      → IsUnique (Till holds range item till)
  unfolding Till
  till_unique holds range ends = record {
    ends = λ tokens o rest (os, held, x).
        (up_to_unique ends (bounds_of range)).ends tokens (os, o.1) rest x;
    one = λ tokens o p rest other (os, held, x) (ps, held2, y).
        (up_to_unique ends (bounds_of range)).one tokens (os, o.1) (ps, p.1) rest other x y;
  }

  -- a terminator that takes tokens takes some
  pub till_takes : {C : Type 0} (holds : C → List O → Type 0) (range : Range) → TakesTokens till
      → TakesTokens (Till holds range item till)
  unfolding Till UpTo
  till_takes holds range takes = record {
    fewer = λ tokens o rest
        (all, held, (os, ps, a, b, made, least, first, turns, within, x)).
        let (front, e) = each_ends unique os tokens a first in
        let (more, f) = each_ends turn_unique ps a b turns in
        omega (
          arith,
          takes.fewer b o.1 rest x,
          ap (λ l. length l) e,
          length-append front a,
          ap (λ l. length l) f,
          length-append more b,
        );
  }
