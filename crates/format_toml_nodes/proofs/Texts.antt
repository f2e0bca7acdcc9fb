-- Lemmas about texts that grow, and about their contents.
use Rattle.std.specs.Prelude.{◌≡◌, ℕ, ◌+◌, ◌≤◌, min}
use Rattle.std.specs.Prelude.{List, [], ◌∷◌, ◌++◌, length, take, drop, slice_get, Some}
use Rattle.std.proofs.Common.{refl, sym, ap, subst, ◌∙◌, arith, append_assoc}
use Rattle.std.proofs.Common.{length-take}
use Rattle.std.proofs.lemmas.List.{append-nil}
use Rattle.std.proofs.lemmas.Option.{get_or_from_slice_get, slice_get_within}
use Rattle.format_toml_nodes.specs.Laying.{Fits, Grows, Puts, most, total}
use Rattle.format_toml_nodes.specs.Nodes.{IsIn, Shows, StandsAt, nowhere}
use Rattle.format_toml_nodes.specs.declared.node.Span.{Span}
use Rattle.format_toml_nodes.specs.declared.node.TomlNode.{TomlNode}
use Rattle.format_toml_nodes.specs.declared.node.TomlValue.{TomlValue}
use Rattle.format_toml_tree.specs.Keys.{drop_here, drop_past}
use Rattle.format_toml_tree.specs.Paths.{Path}
use Rattle.format_toml_tree.specs.Rules.{Node as Given}

-- ---- counts

pub capped_more : (end l r next all : ℕ) → next ≡ min (end + l) most
    → min (end + (l + r)) most ≡ all → min (next + r) most ≡ all
capped_more end l r next all is e = omega (arith, is, e)

pub capped_end : (end all : ℕ) → end ≤ most → min (end + 0) most ≡ all → end ≡ all
capped_end end all small e = omega (arith, small, e)

pub capped_small : (a next : ℕ) → next ≡ min a most → next ≤ most
capped_small a next is = omega (arith, is)

pub capped_both : (a b mid end : ℕ) → mid ≡ min a most → end ≡ min (mid + b) most
    → end ≡ min (a + b) most
capped_both a b mid end m e = omega (arith, m, e)

-- the rest of a list begins with its element there
pub drop_at : {X : Type 0} (xs : List X) (i : ℕ) (x : X) → slice_get xs i ≡ Some x
    → drop i xs ≡ x ∷ drop (i + 1) xs
drop_at xs i x g =
    drop_here xs i x (slice_get_within xs i x g) (sym (get_or_from_slice_get xs i x x g))

pub total_at : {X : Type 0} (f : X → ℕ) (xs : List X) (i : ℕ) (x : X) → slice_get xs i ≡ Some x
    → total f (drop i xs) ≡ f x + total f (drop (i + 1) xs)
total_at f xs i x g = ap (λ l. total f l) (drop_at xs i x g)

pub total_past : {X : Type 0} (f : X → ℕ) (xs : List X) (i : ℕ) → length xs ≤ i
    → total f (drop i xs) ≡ 0
total_past f xs i past = ap (λ l. total f l) (drop_past xs i past)

-- ---- texts

pub stands_more : {text : List ℕ} {place : Span} {bytes : List ℕ} (more : List ℕ)
    → StandsAt text place bytes → StandsAt (text ++ more) place bytes
stands_more {text} {place} {bytes} more at = record {
  before = at.before;
  behind = at.behind ++ more;
  splits = ap (λ l. l ++ more) at.splits
      ∙ append_assoc at.before (bytes ++ at.behind) more
      ∙ ap (λ l. at.before ++ l) (append_assoc bytes at.behind more);
  begins = at.begins;
  ends = at.ends;
  none = at.none;
}

pub stands_none : (text : List ℕ) → StandsAt text nowhere []
stands_none text = record {
  before = [];
  behind = text;
  splits = refl;
  begins = refl;
  ends = refl;
  none = λ e. refl;
}

pub stands_put : (bytes : List ℕ) (at : ℕ) (old : List ℕ) (end : ℕ) (new : List ℕ) (place : Span)
    → Puts bytes at old end new → end ≤ length old → Fits bytes at place
    → StandsAt (take end new) place bytes
stands_put [] at old end new place puts fits is =
    subst (λ s. StandsAt (take end new) s []) (sym is) (stands_none (take end new))
stands_put (b ∷ bytes) at old end new place puts fits is = record {
  before = take at old;
  behind = [];
  splits = puts.there fits ∙ ap (λ l. take at old ++ l) (sym (append-nil (b ∷ bytes)));
  begins = ap (λ s. s.offset) is ∙ omega (arith, length-take at old, puts.up, puts.same, fits);
  ends = ap (λ s. s.length) is;
  none = λ e. absurd (cc);
}

pub grows_put : {bytes : List ℕ} {at : ℕ} {old : List ℕ} {end : ℕ} {new : List ℕ}
    → Puts bytes at old end new → Grows at old end new
grows_put {bytes} puts = record {
  up = puts.up;
  same = puts.same;
  there = λ fits. (bytes, puts.there fits);
}

pub grows_none : (at : ℕ) (text : List ℕ) → Grows at text at text
grows_none at text = record {
  up = omega arith;
  same = refl;
  there = λ fits. ([], sym (append-nil (take at text)));
}

pub grows_then : {a : ℕ} {old : List ℕ} {b : ℕ} {mid : List ℕ} {c : ℕ} {new : List ℕ}
    → Grows a old b mid → Grows b mid c new → Grows a old c new
grows_then {a} {old} {b} {mid} {c} {new} first then = record {
  up = omega (arith, first.up, then.up);
  same = then.same ∙ first.same;
  there = λ fits.
      let (more, e) = first.there (omega (arith, then.up, fits)) in
      let (others, f) = then.there (omega (arith, first.same, fits)) in
      (more ++ others, f ∙ ap (λ l. l ++ others) e ∙ append_assoc (take a old) more others);
}

pub shows_more : {A : Type 0} (text : List ℕ) (it : TomlValue) (given : Given A) (more : List ℕ)
    → Shows text it given → Shows (text ++ more) it given
shows_more text it given more (is, at) = (is, stands_more more at)

pub in_more : (text more : List ℕ) (path : ℕ → Path) (count : ℕ) (p : Path) (it : TomlNode)
    → IsIn text path count p it → IsIn (text ++ more) path count p it
in_more text more path count p it (within, over, name, index, element) =
    (within, over, stands_more more name, index, element)
