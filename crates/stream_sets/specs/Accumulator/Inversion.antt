-- Lemmas about an accumulator that took some outputs.
use Rattle.std.specs.Prelude.{◌≡◌, ◌+◌, ◌-◌, ◌^◌, ◌≤◌, ℕ, min, None, List, [], ◌∷◌, ◌++◌}
use Rattle.std.specs.Prelude.{length}
use Rattle.std.specs.Prelude.{flat_map, encode_utf8_all, string_bytes}
use Rattle.std.specs.Borrow.{Bor}
use Rattle.std.specs.Char.{encode_utf8}
use Rattle.std.specs.List.{FoldsTo}
use Rattle.std.specs.declared.string.String.{String}
use Rattle.std.specs.declared.vec.Vec.{Vec}
use Rattle.std.proofs.Common.{ap, arith, refl, sym, ◌∙◌, append_assoc}
use Rattle.std.proofs.lemmas.List.{append-nil}
use Rattle.stream_sets.specs.Accumulator.{Accumulator, characters_kept, list_kept, number_kept}
use Rattle.stream_sets.specs.Accumulator.{slices_kept, spelled, texts_kept}

-- ---- lists

-- one that keeps its outputs in order has those before, and then these
pub outputs_kept : {C O : Type 0} (takes : C → O → C → Type 0) (items : C → List O)
    → ((c : C) (o : O) (d : C) → takes c o d → items d ≡ items c ++ o ∷ [])
    → (outputs : List O) (c all : C) → FoldsTo takes c outputs all
    → items all ≡ items c ++ outputs
outputs_kept takes items keeps [] c all e = sym (append-nil (items c) ∙ ap items e)
outputs_kept takes items keeps (o ∷ os) c all (d, taken, rest) =
    outputs_kept takes items keeps os d all rest ∙ ap (λ l. l ++ os) (keeps c o d taken)
    ∙ append_assoc (items c) (o ∷ []) os

-- a list that was empty has the outputs that it took, in order
pub list_of_outputs : {O A : Type 0} (outputs : List O) (empty all : Vec O A)
    → list_kept.starts None empty → FoldsTo list_kept.takes empty outputs all
    → all.items ≡ outputs
list_of_outputs {O} {A} outputs empty all start taken =
    let into : Accumulator (Vec O A) O = list_kept in
    outputs_kept into.takes (λ list. list.items) (λ c o d kept. kept) outputs empty all taken
    ∙ ap (λ l. l ++ outputs) start

-- the items of lists, in sequence, after those that were there
items_more : {T A : Type 0} (outputs : List (Bor (List T))) (list all : Vec T A)
    → FoldsTo slices_kept.takes list outputs all
    → all.items ≡ list.items ++ flat_map (λ slice. slice.now) outputs
items_more [] list all e = sym (append-nil list.items ∙ ap (λ l. l.items) e)
items_more (o ∷ os) list all (more, taken, rest) =
    items_more os more all rest ∙ ap (λ l. l ++ flat_map (λ slice. slice.now) os) taken
    ∙ append_assoc list.items o.now (flat_map (λ slice. slice.now) os)

-- a list that was empty has the items of the slices that it took, in order
pub items_of_slices : {T A : Type 0} (outputs : List (Bor (List T))) (empty all : Vec T A)
    → slices_kept.starts None empty → FoldsTo slices_kept.takes empty outputs all
    → all.items ≡ flat_map (λ slice. slice.now) outputs
items_of_slices outputs empty all start taken =
    items_more outputs empty all taken
    ∙ ap (λ l. l ++ flat_map (λ slice. slice.now) outputs) start

-- ---- numbers

-- at the greatest `usize` a number stays
abbrev greatest : ℕ
greatest = 2 ^ 64 - 1

number_more : {O : Type 0} (outputs : List O) (number all : ℕ)
    → FoldsTo (number_kept {O = O}).takes number outputs all → number ≤ greatest
    → all ≡ min (number + length outputs) greatest
number_more [] number all e within = grind (arith, e, within)
number_more (o ∷ os) number all (more, taken, rest) within =
    let small : more ≤ greatest = grind (arith, taken) in
    let e : all ≡ min (more + length os) greatest = number_more os more all rest small in
    grind (arith, e, taken, within)

-- a number that was 0 is that of the outputs, or the greatest `usize` if there are more
pub number_of_outputs : {O : Type 0} (outputs : List O) (empty all : ℕ)
    → (number_kept {O = O}).starts None empty → FoldsTo number_kept.takes empty outputs all
    → all ≡ min (length outputs) (2 ^ 64 - 1)
number_of_outputs outputs empty all start taken =
    let small : empty ≤ greatest = grind (arith, start) in
    let e : all ≡ min (empty + length outputs) greatest =
    number_more outputs empty all taken small in
    grind (arith, e, start)

-- ---- texts

-- a text has the bytes that it had, and then those of the outputs
text_more : {O A : Type 0} (spell : O → List ℕ) (outputs : List O) (text all : String A)
    → FoldsTo (spelled spell).takes text outputs all
    → string_bytes all ≡ string_bytes text ++ flat_map spell outputs
text_more spell [] text all e = sym (append-nil (string_bytes text) ∙ ap string_bytes e)
text_more spell (o ∷ os) text all (more, taken, rest) =
    text_more spell os more all rest ∙ ap (λ l. l ++ flat_map spell os) taken
    ∙ append_assoc (string_bytes text) (spell o) (flat_map spell os)

-- the bytes of characters are those of each, in order
encoded : (outputs : List ℕ) → flat_map encode_utf8 outputs ≡ encode_utf8_all outputs
encoded [] = refl
encoded (c ∷ cs) = ap (λ l. encode_utf8 c ++ l) (encoded cs)

-- a text that was empty is that of the characters that it took, in order
pub text_of_characters : {A : Type 0} (outputs : List ℕ) (empty all : String A)
    → characters_kept.starts None empty → FoldsTo characters_kept.takes empty outputs all
    → string_bytes all ≡ encode_utf8_all outputs
text_of_characters outputs empty all start taken =
    text_more encode_utf8 outputs empty all taken
    ∙ ap (λ l. l ++ flat_map encode_utf8 outputs) start ∙ encoded outputs

-- a text that was empty is that of the texts that it took, in order
pub text_of_texts : {A : Type 0} (outputs : List (Bor (List ℕ))) (empty all : String A)
    → texts_kept.starts None empty → FoldsTo texts_kept.takes empty outputs all
    → string_bytes all ≡ flat_map (λ text. text.now) outputs
text_of_texts outputs empty all start taken =
    text_more (λ text. text.now) outputs empty all taken
    ∙ ap (λ l. l ++ flat_map (λ text. text.now) outputs) start
