-- Accumulators of the outputs of a repetition.
use Rattle.std.specs.Prelude.{◌≡◌, ◌⊎◌, ◌≤◌, ◌<◌, ◌+◌, ◌-◌, ◌^◌, ℕ, min, List, [], ◌∷◌}
use Rattle.std.specs.Prelude.{◌++◌}
use Rattle.std.specs.Prelude.{length}
use Rattle.std.specs.Prelude.{Option, None, ⊤, vec_capacity, vec_len}
use Rattle.std.specs.Prelude.{string_bytes, string_capacity, string_len}
use Rattle.std.proofs.Common.{inl, inr}
use Rattle.std.specs.BTreeMap.{BTreeMap, get, insert_entry}
use Rattle.std.specs.Borrow.{Bor}
use Rattle.std.specs.Char.{encode_utf8}
use Rattle.std.specs.declared.cmp.Ordering.{Ordering}
use Rattle.std.specs.declared.string.String.{String}
use Rattle.std.specs.declared.vec.Vec.{Vec}
pub mod Entries
pub mod Holds
pub mod Inversion

-- An accumulator, as a repetition uses it.
pub record Accumulator (C O : Type 0) : Type 1 where
  -- the empty ones, made for a number of outputs if it is known
  pub starts : Option ℕ → C → Type 0
  -- the accumulator before and after it takes an output
  pub takes : C → O → C → Type 0
  -- whether an allocation may fail for an empty one, made for this number of outputs
  pub start_grows : Option ℕ → Type 0
  -- the accumulators for which one may fail when they take this output
  pub grows : C → O → Type 0

-- An allocation may fail: for an empty one, or for one that takes an output.
abbrev pub Wants : {C O : Type 0} → Accumulator C O → Type 0
Wants {C} {O} into =
    ((capacity : Option ℕ) × into.start_grows capacity)
    ⊎ ((all : C) × (o : O) × into.grows all o)

-- what it is to keep nothing
abbrev pub nothing_kept : {O : Type 0} → Accumulator ⊤ O
nothing_kept = record {
  starts = λ _ _. ⊤;
  takes = λ _ _ _. ⊤;
  start_grows = λ _. ⊥;
  grows = λ _ _. ⊥;
}

-- what it is to keep the outputs in a list, in order
abbrev pub list_kept : {O A : Type 0} → Accumulator (Vec O A) O
list_kept = record {
  starts = λ _ list. list.items ≡ [];
  takes = λ list output more. more.items ≡ list.items ++ output ∷ [];
  start_grows = λ _. ⊥;
  grows = λ list _. vec_capacity list ≤ vec_len list;
}

-- what it is to keep the items of slices in a list, in order
abbrev pub slices_kept : {T A : Type 0} → Accumulator (Vec T A) (Bor (List T))
slices_kept = record {
  starts = λ _ list. list.items ≡ [];
  takes = λ list slice more. more.items ≡ list.items ++ slice.now;
  start_grows = λ _. ⊥;
  grows = λ list slice. vec_capacity list < vec_len list + length slice.now;
}

-- what it is to keep the number of the outputs, or the greatest `usize` if there are more
abbrev pub number_kept : {O : Type 0} → Accumulator ℕ O
number_kept = record {
  starts = λ _ number. number ≡ 0;
  takes = λ number _ more. more ≡ min (number + 1) (2 ^ 64 - 1);
  start_grows = λ _. ⊥;
  grows = λ _ _. ⊥;
}

pub nothing_wants : {O : Type 0} → Wants (nothing_kept {O = O}) → ⊥
nothing_wants (inl (capacity, never)) = never
nothing_wants (inr (all, o, never)) = never

pub number_wants : {O : Type 0} → Wants (number_kept {O = O}) → ⊥
number_wants (inl (capacity, never)) = never
number_wants (inr (all, o, never)) = never

-- the accumulator that stores the outputs as one text, in order, where `spell` gives the bytes of
-- each; it allocates for those that there is no room for
abbrev pub spelled : {O A : Type 0} → (O → List ℕ) → Accumulator (String A) O
spelled spell = record {
  starts = λ _ text. string_bytes text ≡ [];
  takes = λ text output more. string_bytes more ≡ string_bytes text ++ spell output;
  start_grows = λ _. ⊥;
  grows = λ text output. string_capacity text < string_len text + length (spell output);
}

-- what it is to keep characters as a text
abbrev pub characters_kept : {A : Type 0} → Accumulator (String A) ℕ
characters_kept = spelled encode_utf8

-- what it is to keep texts as one text
abbrev pub texts_kept : {A : Type 0} → Accumulator (String A) (Bor (List ℕ))
texts_kept = spelled (λ text. text.now)

-- the accumulator that stores pairs of a key and a value by their keys, in the order `cmp` of
-- these: an equal key in the map stays, and gets the new value; it allocates only for a new key
abbrev pub entries_kept : {K X : Type 0} → (K → K → Ordering) → Accumulator (BTreeMap K X) (K × X)
entries_kept cmp = record {
  starts = λ _ map. map.entries ≡ [];
  takes = λ map pair more. more.entries ≡ insert_entry cmp map.entries pair.0 pair.1;
  start_grows = λ _. ⊥;
  grows = λ map pair. get cmp map pair.0 ≡ None;
}
