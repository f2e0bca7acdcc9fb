-- Lists without spare room, and the statements of lines.
use Rattle.std.specs.Prelude.{◌≡◌, List, Option, Some, None, Ok, Err}
use Rattle.std.specs.declared.vec.Vec.{Vec}
use Rattle.std.proofs.Common.{refl, sym, subst, inl, inr, ◌∙◌}
use Rattle.format_toml.specs.Statements.{stated}
use Rattle.format_toml.specs.declared.statements.Statements.{Statements}
use Rattle.grammars.specs.Grammar.{Both, Gathered, Grammar, Optional, Three}
use Rattle.stream_errors.specs.declared.fault.ParseFault.{ParseFault}
use Rattle.streams.specs.Input.{Input}
use Rattle.streams.specs.Kind.{Kind}
use Rattle.streams.specs.Reading.{Reading}
use Rattle.streams.specs.declared.needed.Needed.{Needed}
use Rattle.winnow_core.specs.Exact.{Reads}
use Rattle.winnow_core.specs.Exact.Whole.{ReadsAll}

-- A match with some output is one with each output that is as this.
pub record Keeps {T O : Type 0} (like : O → O → Type 0) (grammar : Grammar T O) : Type 0 where
  pub kept : (tokens : List T) (o p : O) (rest : List T) → like o p → grammar tokens o rest
      → grammar tokens p rest

none_some : {X : Type 0} {x : X} → None ≡ Some x → ⊥
none_some e = cc

same_some : {X : Type 0} {x y : X} → Some x ≡ Some y → x ≡ y
same_some e = cc

-- lists of the same items
abbrev pub HaveSame : {X A : Type 0} → Vec X A → Vec X A → Type 0
HaveSame list other = other.items ≡ list.items

-- two that are there
abbrev pub AreSome : {O : Type 0} → (O → O → Type 0) → Option O → Option O → Type 0
AreSome {O} like o p = (x : O) × (y : O) × (o ≡ Some x) × (p ≡ Some y) × like x y

pub gathered_keeps : {T X A : Type 0} (g : Grammar T (List X))
    → Keeps HaveSame (Gathered (λ (list : Vec X A) os. list.items ≡ os) g)
unfolding Gathered
gathered_keeps g = record {
  kept = λ tokens list other rest same (os, are, x). (os, same ∙ are, x);
}

module _ {T O : Type 0} {like : O → O → Type 0} {g : Grammar T O} (keeps : Keeps like g) where
  pub former_keeps : {D : Type 0} (h : Grammar T D) → Keeps like (Both (λ o d. o) g h)
  unfolding Both
  former_keeps h = record {
    kept = λ tokens o p rest same (o1, o2, mid, x, y, e).
        (p, o2, mid, keeps.kept tokens o1 p mid (rw e at same) x, y, refl);
  }

  pub second_keeps : {D E : Type 0} (f : Grammar T D) (h : Grammar T E)
      → Keeps like (Three (λ o1 o2 o3. o2) f g h)
  unfolding Three
  second_keeps f h = record {
    kept = λ tokens o p rest same (o1, o2, o3, a, b, x, y, z, e).
        (o1, p, o3, a, b, x, keeps.kept a o2 p b (rw e at same) y, z, refl);
  }

  pub optional_keeps : Keeps (AreSome like) (Optional g)
  unfolding Optional
  optional_keeps = record {
    kept = λ tokens o p rest (x, y, e, f, same) it. elim it [
      | inl (z, d, m) ↦
          let alike = subst (λ v. like v y) (same_some (sym e ∙ d)) same in
          inl (y, f, keeps.kept tokens z y rest alike m)
      | inr (none, not, d) ↦ absurd (none_some (sym none ∙ e))
    ];
  }

  pub reads_kept : {L E : Type 0} {reading : Reading T L} {kind : E → Kind} {i j : Input T}
      {o p : O} → like o p → Reads reading kind g i (Ok o) j → Reads reading kind g i (Ok p) j
  reads_kept {i = i} {j = j} {o = o} {p = p} same r = record {
    ends = r.ends;
    stands = λ whole. keeps.kept i.left.tokens o p j.left.tokens same (r.stands whole);
    none = λ whole. tt;
  }

-- ---- statements

-- a list of the statements that an accumulator has
pub lines_list : {I T X A E : Type 0} {inner_kind : E → Kind} (g : Grammar T (List (Option X)))
    {tokens : List T} {all : Statements X A} {list : Vec X A} → list.items ≡ all.list.items
    → ReadsAll {I = I} inner_kind
    (Gathered (λ (kept : Statements X A) lines. kept.list.items ≡ stated lines) g) tokens (Ok all)
    → ReadsAll {I = I} inner_kind
    (Gathered (λ (kept : Vec X A) lines. kept.items ≡ stated lines) g) tokens (Ok list)
unfolding Gathered
lines_list g same r =
    let (lines, are, x) = r.stands in
    record { stands = (lines, same ∙ are, x); none = tt; whole = tt }

-- there is no list where no accumulator has the statements
pub lines_fault : {I T X A E : Type 0} {inner_kind : E → Kind} (g : Grammar T (List (Option X)))
    {tokens : List T} {fault : ParseFault I E Needed}
    → ReadsAll inner_kind
    (Gathered (λ (kept : Statements X A) lines. kept.list.items ≡ stated lines) g) tokens
    (Err fault)
    → ReadsAll inner_kind (Gathered (λ (kept : Vec X A) lines. kept.items ≡ stated lines) g) tokens
    (Err fault)
unfolding Gathered
lines_fault g r = record {
  stands = tt;
  none = elim r.none [
    | inl m ↦ inl m
    | inr nothing ↦ inr (λ list (lines, are, x). nothing (record { list = list }) (lines, are, x))
  ];
  whole = r.whole;
}
