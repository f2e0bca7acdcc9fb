-- Entries in sequence, none of which is the pair of a section and a key.
use Rattle.std.specs.Prelude.{◌≡◌, ℕ, ◌+◌, ◌<◌, Bool, List, [], ◌∷◌, ◌++◌, drop}
use Rattle.std.specs.Prelude.{MatchBool, Ok, Some, false, true}
use Rattle.std.proofs.Common.{refl, sym, ap, subst, inl, inr, arith}
use Rattle.std.proofs.lemmas.List.{append-nil}
use Rattle.format_ini.proofs.Reading.{reads_lines_trans, reads_no_lines, reads_one_more_line}
use Rattle.format_ini.specs.Documents.{ReadsLines}
use Rattle.format_ini.specs.Lines.{Said, said_in}
use Rattle.format_ini.specs.Lookup.{HasNoPair, IsFor, IsPairOf, name_after, section_after}
use Rattle.format_ini.specs.Places.{IsAtStart, NextPlaced, Passes}
use Rattle.format_ini.specs.declared.dialect.Dialect.{Dialect}
use Rattle.format_ini.specs.declared.places.Placed.{Placed}
use Rattle.format_ini.specs.declared.places.Reading.{Reading}

name_after_append : (now : List ℕ) (said : List Said) (one : Said)
    → section_after now (said ++ one ∷ []) ≡ name_after (section_after now said) one
unfolding section_after
name_after_append now [] one = refl
name_after_append now (s ∷ said) one = name_after_append (name_after now s) said one

none_more : (name key now : List ℕ) (said : List Said) (one : Said) → HasNoPair name key now said
    → (IsFor name key (section_after now said) one → ⊥) → HasNoPair name key now (said ++ one ∷ [])
unfolding section_after HasNoPair
none_more name key now [] one none not = (not, tt)
none_more name key now (s ∷ said) one none not =
    (none.0, none_more name key (name_after now s) said one none.1 not)

is_not_for : (name key now : List ℕ) (one : Said) (within : Bool)
    → MatchBool within (now ≡ name) (now ≡ name → ⊥)
    → (within ≡ true → IsPairOf key one → ⊥) → IsFor name key now one → ⊥
is_not_for name key now one true tells not found = not refl found.1
is_not_for name key now one false tells not found = tells found.0

-- the next entry is one more of those that are passed
pub passes_entry : (d : Dialect) (bytes : List ℕ) (old mid new : Reading) (said : List Said)
    (it : Placed) → Passes d bytes old said mid → NextPlaced d bytes mid (Ok (Some it)) new
    → Passes d bytes old (said ++ said_in it.entry ∷ []) new
passes_entry d bytes old mid new said it passes
    (at, line, idle, first, text, step, places, less, within) =
    let up : (a b : Reading) (l : List Said) → Passes d bytes a l b → a.offset < b.offset + 1 =
    λ a b l p. elim p.0 [
      | inl same ↦ omega (arith, ap (λ (r : Reading). r.offset) same)
      | inr far ↦ omega (arith, far.0)
    ] in
    let left : Reading → List ℕ = λ r. drop r.offset bytes in
    let to_line : ReadsLines d old.state (left old) said at.state (left at) =
    subst (λ l. ReadsLines d old.state (left old) l at.state (left at)) (append-nil said)
    (reads_lines_trans d old.state mid.state at.state (left old) (left mid) (left at) said []
    passes.1
    idle.1) in (
      inr (omega (arith, less, up old mid said passes, up mid at [] idle), within),
      reads_one_more_line d old.state at.state new.state (left old) (left at) line (left new) said
          (said_in it.entry ∷ []) to_line first step,
    )

module _ (d : Dialect) (bytes name key : List ℕ) where
  -- up to `mid` there is no such pair; `within` tells whether the next line is in such a section
  pub record SoFar (within : Bool) (mid : Reading) : Type 0 where
    pub from : Reading
    pub begins : IsAtStart bytes from
    pub said : List Said
    pub passes : Passes d bytes from said mid
    pub none : HasNoPair name key [] said
    pub tells : MatchBool within (section_after [] said ≡ name) (section_after [] said ≡ name → ⊥)

  pub so_far_first : (within : Bool) (from : Reading) → IsAtStart bytes from
      → MatchBool within ([] ≡ name) ([] ≡ name → ⊥) → SoFar within from
  unfolding section_after HasNoPair
  so_far_first within from begins tells = record {
    from = from;
    begins = begins;
    said = [];
    passes = (inl refl, reads_no_lines d from.state (drop from.offset bytes));
    none = tt;
    tells = tells;
  }

  module _ (within : Bool) (mid new : Reading) (so : SoFar within mid) where
    -- the next entry is no such pair
    pub so_far_more : (it : Placed) (after : Bool) → NextPlaced d bytes mid (Ok (Some it)) new
        → (within ≡ true → IsPairOf key (said_in it.entry) → ⊥)
        → ((now : List ℕ) → MatchBool within (now ≡ name) (now ≡ name → ⊥)
        → MatchBool after (name_after now (said_in it.entry) ≡ name)
        (name_after now (said_in it.entry) ≡ name → ⊥))
        → SoFar after new
    so_far_more it after next not more =
        let now = section_after [] so.said in
        let one = said_in it.entry in
        record {
          from = so.from;
          begins = so.begins;
          said = so.said ++ one ∷ [];
          passes = passes_entry d bytes so.from mid new so.said it so.passes next;
          none = none_more name key [] so.said one so.none
              (is_not_for name key now one within so.tells not);
          tells = subst (λ n. MatchBool after (n ≡ name) (n ≡ name → ⊥))
              (sym (name_after_append [] so.said one)) (more now so.tells);
        }
