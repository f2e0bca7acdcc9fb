-- The contents of accumulators, in terms of the outputs that they took.
use Rattle.std.specs.Prelude.{◌≡◌, ◌-◌, ◌^◌, ⊤, ℕ, min, List, [], ◌∷◌, ◌++◌, length, reverse}
use Rattle.std.specs.Prelude.{encode_utf8_all, flat_map, string_bytes, Option}
use Rattle.std.specs.BTreeMap.{BTreeMap, get, get_key, is_at}
use Rattle.std.specs.Borrow.{Bor}
use Rattle.std.specs.Cmp.{IsTotalOrder}
use Rattle.std.specs.List.{FoldsTo}
use Rattle.std.specs.Map.{lookup, lookup_key}
use Rattle.std.specs.declared.cmp.Ordering.{Ordering}
use Rattle.std.specs.declared.string.String.{String}
use Rattle.std.specs.declared.vec.Vec.{Vec}
use Rattle.std.proofs.Common.{sym, ap, ◌∙◌, append_assoc}
use Rattle.std.proofs.lemmas.List.{append-nil}
use Rattle.stream_sets.specs.Accumulator.{characters_kept, entries_kept, list_kept, nothing_kept}
use Rattle.stream_sets.specs.Accumulator.{number_kept, slices_kept, texts_kept, Accumulator}
use Rattle.stream_sets.specs.Accumulator.Entries.{key_of_outputs, value_of_outputs}
use Rattle.stream_sets.specs.Accumulator.Inversion.{items_of_slices, number_of_outputs}
use Rattle.stream_sets.specs.Accumulator.Inversion.{text_of_characters, text_of_texts}

-- what a list has taken
listed : {O A : Type 0} (before after : Vec O A) (outputs : List O)
    → FoldsTo (list_kept {O = O} {A = A}).takes before outputs after
    → after.items ≡ before.items ++ outputs
listed before after [] e = sym (ap (λ v. v.items) e) ∙ sym (append-nil before.items)
listed before after (o ∷ os) (v, takes, rest) =
    listed v after os rest ∙ ap (λ l. l ++ os) takes ∙ append_assoc before.items (o ∷ []) os

-- The outputs are taken one by one, from one accumulator to another.
pub record Accumulates {C O : Type 0} (takes : C → O → C → Type 0) (before : C)
    (outputs : List O) (after : C) : Type 0 where
  pub taken : FoldsTo takes before outputs after

-- `Holds into holds`: the contents of an accumulator are given by the outputs that it took since it
-- was empty.
pub record Holds {C O : Type 0} (into : Accumulator C O) (holds : C → List O → Type 0)
    : Type 0 where
  pub held : (capacity : Option ℕ) (empty all : C) (os : List O) → into.starts capacity empty
      → Accumulates into.takes empty os all → holds all os

pub list_holds : {O A : Type 0} → Holds (list_kept {O = O} {A = A}) (λ list os. list.items ≡ os)
list_holds = record {
  held = λ capacity empty all os starts taken.
      listed empty all os taken.taken ∙ ap (λ l. l ++ os) starts;
}

pub nothing_holds : {O : Type 0} → Holds (nothing_kept {O = O}) (λ all os. ⊤)
nothing_holds = record { held = λ capacity empty all os starts taken. tt }

-- ---- the contents of each

-- their number, or the greatest `usize` where there are more
abbrev pub HasNumber : {O : Type 0} → ℕ → List O → Type 0
HasNumber number os = number ≡ min (length os) (2 ^ 64 - 1)

-- the characters, in order
abbrev pub HasCharacters : {A : Type 0} → String A → List ℕ → Type 0
HasCharacters text os = string_bytes text ≡ encode_utf8_all os

-- the texts, in sequence
abbrev pub HasTexts : {A : Type 0} → String A → List (Bor (List ℕ)) → Type 0
HasTexts text os = string_bytes text ≡ flat_map (λ o. o.now) os

-- the items of the slices, in sequence
abbrev pub HasItems : {T A : Type 0} → Vec T A → List (Bor (List T)) → Type 0
HasItems list os = list.items ≡ flat_map (λ slice. slice.now) os

-- A key has the value of the last pair whose key is equal, and is the key of the first of these.
pub record HasEntries {K X : Type 0} (cmp : K → K → Ordering) (map : BTreeMap K X)
    (os : List (K × X)) : Type 0 where
  pub values : (key : K) → get cmp map key ≡ lookup (is_at (cmp key)) (reverse os)
  pub keys : (key : K) → get_key cmp map key ≡ lookup_key (is_at (cmp key)) os

pub number_holds : {O : Type 0} → Holds (number_kept {O = O}) HasNumber
number_holds = record {
  held = λ capacity empty all os starts taken. number_of_outputs os empty all starts taken.taken;
}

pub items_hold : {T A : Type 0} → Holds (slices_kept {T = T} {A = A}) HasItems
items_hold = record {
  held = λ capacity empty all os starts taken. items_of_slices os empty all starts taken.taken;
}

pub characters_hold : {A : Type 0} → Holds (characters_kept {A = A}) HasCharacters
characters_hold = record {
  held = λ capacity empty all os starts taken. text_of_characters os empty all starts taken.taken;
}

pub texts_hold : {A : Type 0} → Holds (texts_kept {A = A}) HasTexts
texts_hold = record {
  held = λ capacity empty all os starts taken. text_of_texts os empty all starts taken.taken;
}

pub entries_hold : {K X : Type 0} {cmp : K → K → Ordering} → IsTotalOrder cmp
    → Holds (entries_kept {K = K} {X = X} cmp) (HasEntries cmp)
entries_hold order = record {
  held = λ capacity empty all os starts taken. record {
    values = λ key. value_of_outputs order key os empty all starts taken.taken;
    keys = λ key. key_of_outputs order key os empty all starts taken.taken;
  };
}
