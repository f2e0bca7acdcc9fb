-- Lemmas about the contents of copies, item by item, and about the weight of the values in a value.
use Rattle.std.specs.Prelude.{◌≡◌, ◌+◌, ◌<◌, ℕ, zero, suc, List, [], ◌∷◌, ◌++◌, get_or, length}
use Rattle.std.specs.Prelude.{string_bytes, take}
use Rattle.std.specs.declared.string.String.{String}
use Rattle.std.specs.declared.vec.Vec.{Vec}
use Rattle.std.proofs.Common.{ap, arith, refl, rules, sym, ◌∙◌}
use Rattle.std.proofs.lemmas.List.{take_more}
use Rattle.format_json_texts.specs.Contents.{Content, Items, Members, array, boolean, content, item}
use Rattle.format_json_texts.specs.Contents.{items_content, member, members_content, no_items}
use Rattle.format_json_texts.specs.Contents.{no_members, null, number, object, text}
use Rattle.format_json_texts.specs.declared.value.Value.{Object, Value, the_lemmas}

-- ---- the weight of contents

abbrev mutual
  pub weight : Content → ℕ
  weight null = 0
  weight (boolean b) = 0
  weight (number s) = 0
  weight (text s) = 0
  weight (array items) = suc (items_weight items)
  weight (object members) = suc (members_weight members)

  pub items_weight : Items → ℕ
  items_weight no_items = 0
  items_weight (item c items) = suc (weight c + items_weight items)

  pub members_weight : Members → ℕ
  members_weight no_members = 0
  members_weight (member name c members) = suc (weight c + members_weight members)

module _ {A : Type 0} where
  pub content-Object : (list : Vec (String A × Value A) A)
      → content (Object list) ≡ object (members_content list.items)
  content-Object list = search (rules, the_lemmas)

  pub item_less : (vs : List (Value A)) (i : ℕ) (d : Value A) → i < length vs
      → weight (content (get_or vs i d)) < items_weight (items_content vs)
  item_less [] i d h = absurd (omega (arith, h))
  item_less (v ∷ vs) zero d h = omega arith
  item_less (v ∷ vs) (suc i) d h = omega (arith, item_less vs i d (omega (arith, h)))

  pub member_less : (ms : List (String A × Value A)) (i : ℕ) (d : String A × Value A)
      → i < length ms → weight (content (get_or ms i d).1) < members_weight (members_content ms)
  member_less [] i d h = absurd (omega (arith, h))
  member_less (m ∷ ms) zero d h = omega arith
  member_less (m ∷ ms) (suc i) d h = omega (arith, member_less ms i d (omega (arith, h)))

  -- ---- one more

  items_push : (vs ws : List (Value A)) (v w : Value A) → items_content vs ≡ items_content ws
      → content v ≡ content w → items_content (vs ++ v ∷ []) ≡ items_content (ws ++ w ∷ [])
  items_push vs ws v w e f =
      push vs (items_content (w ∷ [])) f ∙ ap (λ l. put l (items_content (w ∷ []))) e
      ∙ sym (behind ws (w ∷ []))
    where
      put : Items → Items → Items
      put no_items more = more
      put (item c items) more = item c (put items more)

      behind : (vs more : List (Value A)) → items_content (vs ++ more)
          ≡ put (items_content vs) (items_content more)
      behind [] more = refl
      behind (x ∷ vs) more = ap (item (content x)) (behind vs more)

      push : (vs : List (Value A)) (more : Items) → content v ≡ content w
          → items_content (vs ++ v ∷ []) ≡ put (items_content vs) (items_content (w ∷ []))
      push vs more f = behind vs (v ∷ []) ∙ ap (λ c. put (items_content vs) (item c no_items)) f

  members_push : (vs ws : List (String A × Value A)) (v w : String A × Value A)
      → members_content vs ≡ members_content ws → string_bytes v.0 ≡ string_bytes w.0
      → content v.1 ≡ content w.1
      → members_content (vs ++ v ∷ []) ≡ members_content (ws ++ w ∷ [])
  members_push vs ws v w e f g =
      behind vs (v ∷ [])
      ∙ ap (λ s. put (members_content vs) (member s (content v.1) no_members)) f
      ∙ ap (λ c. put (members_content vs) (member (string_bytes w.0) c no_members)) g
      ∙ ap (λ l. put l (members_content (w ∷ []))) e ∙ sym (behind ws (w ∷ []))
    where
      put : Members → Members → Members
      put no_members more = more
      put (member s c members) more = member s c (put members more)

      behind : (vs more : List (String A × Value A)) → members_content (vs ++ more)
          ≡ put (members_content vs) (members_content more)
      behind [] more = refl
      behind (x ∷ vs) more = ap (member (string_bytes x.0) (content x.1)) (behind vs more)

  pub items_copied : (copies new items : List (Value A)) (i : ℕ) (v w : Value A) → i < length items
      → items_content copies ≡ items_content (take i items) → new ≡ copies ++ v ∷ []
      → w ≡ get_or items i w → content v ≡ content w
      → items_content new ≡ items_content (take (i + 1) items)
  items_copied copies new items i v w within e pushed is f =
      ap items_content pushed ∙ items_push copies (take i items) v w e f
      ∙ ap (λ x. items_content (take i items ++ x ∷ [])) is
      ∙ ap items_content (sym (take_more items i w within))

  pub members_copied : (copies new members : List (String A × Value A)) (i : ℕ)
      (v w : String A × Value A) → i < length members
      → members_content copies ≡ members_content (take i members) → new ≡ copies ++ v ∷ []
      → w ≡ get_or members i w → string_bytes v.0 ≡ string_bytes w.0
      → content v.1 ≡ content w.1 → members_content new ≡ members_content (take (i + 1) members)
  members_copied copies new members i v w within e pushed is f g =
      ap members_content pushed ∙ members_push copies (take i members) v w e f g
      ∙ ap (λ x. members_content (take i members ++ x ∷ [])) is
      ∙ ap members_content (sym (take_more members i w within))
