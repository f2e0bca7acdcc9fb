-- Lemmas about a map that took some pairs of a key and a value.
use Rattle.std.specs.Prelude.{◌≡◌, Bool, true, false, cond, None, Some, Option, ⊤}
use Rattle.std.specs.Prelude.{List, [], ◌∷◌, ◌++◌, reverse}
use Rattle.std.specs.BTreeMap.{BTreeMap, get, get_key, insert_entry, is_at}
use Rattle.std.specs.Cmp.{Equal-is, IsTotalOrder, alike_right}
use Rattle.std.specs.List.{FoldsTo}
use Rattle.std.specs.Map.{lookup, lookup_key}
use Rattle.std.specs.Ordering.{match_ordering, ordering_reverse}
use Rattle.std.specs.declared.cmp.Ordering.{Ordering}
use Rattle.std.proofs.Common.{Less, Equal, Greater, is_eq, ap, refl, subst, sym, ◌∙◌, append_assoc}
use Rattle.std.proofs.Common.{true≢false}
use Rattle.std.proofs.lemmas.List.{append-nil, reverse-append}
use Rattle.stream_sets.specs.Accumulator.{entries_kept}

-- ---- values

-- what is found after the same entries depends on what is found in the rest
lookup_behind : {K X : Type 0} (test : K → Bool) (front rest others : List (K × X))
    → lookup test rest ≡ lookup test others
    → lookup test (front ++ rest) ≡ lookup test (front ++ others)
lookup_behind test [] rest others e = e
lookup_behind test (p ∷ ps) rest others e =
    ap (λ found. cond (test p.0) (Some p.1) found) (lookup_behind test ps rest others e)

-- one choice within itself is one choice, and two that do not hold together may change places
cond_again : {X : Type 0} (b : Bool) (x y z : X) → cond b x z ≡ cond b x (cond b y z)
cond_again true x y z = refl
cond_again false x y z = refl

cond_apart : {X : Type 0} (b c : Bool) → (b ≡ true → c ≡ true → ⊥) → (x y z : X)
    → cond b x (cond c y z) ≡ cond c y (cond b x z)
cond_apart true true apart x y z = absurd (apart refl refl)
cond_apart true false apart x y z = refl
cond_apart false c apart x y z = refl

-- two keys that are equal to a third are equal
both_equal : {K : Type 0} {R : K → K → Ordering} → IsTotalOrder R → (q x y : K)
    → is_at (R q) x ≡ true → is_at (R q) y ≡ true → R x y ≡ Equal
both_equal {K} {R} order q x y at_x at_y =
    sym (order.congr q x y ((Equal-is (R q x)).0 at_x)) ∙ (Equal-is (R q y)).0 at_y

module _ {K X : Type 0} {R : K → K → Ordering} (order : IsTotalOrder R) where
  lookup_inserted : (q k : K) (v : X) (es : List (K × X))
      → lookup (is_at (R q)) (insert_entry R es k v) ≡ lookup (is_at (R q)) ((k, v) ∷ es)
  lookup_inserted q k v [] = refl
  lookup_inserted q k v (e ∷ es) = by (R k e.0) refl (lookup_inserted q k v es)
    where
      test : K → Bool
      test = is_at (R q)

      apart : R k e.0 ≡ Greater → test e.0 ≡ true → test k ≡ true → ⊥
      apart above at_e at_k =
          true≢false (sym (ap is_eq (sym above ∙ both_equal order q k e.0 at_k at_e)))

      by : (r : Ordering) → R k e.0 ≡ r
          → lookup test (insert_entry R es k v) ≡ lookup test ((k, v) ∷ es)
          → lookup test (match_ordering r ((k, v) ∷ e ∷ es) ((e.0, v) ∷ es)
          (e ∷ insert_entry R es k v)) ≡ lookup test ((k, v) ∷ e ∷ es)
      by Less is rest = refl
      by Equal is rest =
          cond_again (test e.0) (Some v) (Some e.1) (lookup test es)
          ∙ ap (λ r. cond (is_eq r) (Some v) (lookup test (e ∷ es)))
          (sym (alike_right order k e.0 q is))
      by Greater is rest =
          ap (λ found. cond (test e.0) (Some e.1) found) rest
          ∙ cond_apart (test e.0) (test k) (apart is) (Some e.1) (Some v) (lookup test es)

  entries_more : (q : K) (outputs : List (K × X)) (map all : BTreeMap K X)
      → FoldsTo (entries_kept R).takes map outputs all
      → lookup (is_at (R q)) all.entries ≡ lookup (is_at (R q)) (reverse outputs ++ map.entries)
  entries_more q [] map all e = ap (λ m. lookup (is_at (R q)) m.entries) (sym e)
  entries_more q (o ∷ os) map all (more, taken, rest) =
      entries_more q os more all rest
      ∙ lookup_behind (is_at (R q)) (reverse os) more.entries (o ∷ map.entries)
      (ap (λ es. lookup (is_at (R q)) es) taken ∙ lookup_inserted q o.0 o.1 map.entries)
      ∙ ap (λ es. lookup (is_at (R q)) es) (sym (append_assoc (reverse os) (o ∷ []) map.entries))
      ∙ ap (λ es. lookup (is_at (R q)) (es ++ map.entries)) (sym (reverse-append (o ∷ []) os))

  -- in a map that was empty a key has the value of the last output that has an equal one, or none
  pub value_of_outputs : (q : K) (outputs : List (K × X)) (empty all : BTreeMap K X)
      → (entries_kept R).starts None empty → FoldsTo (entries_kept R).takes empty outputs all
      → get R all q ≡ lookup (is_at (R q)) (reverse outputs)
  value_of_outputs q outputs empty all start taken =
      entries_more q outputs empty all taken
      ∙ ap (λ es. lookup (is_at (R q)) (reverse outputs ++ es)) start
      ∙ ap (λ es. lookup (is_at (R q)) es) (append-nil (reverse outputs))

-- ---- keys

-- the first of two options if it has a value, otherwise the second
abbrev first_of : {X : Type 0} → Option X → Option X → Option X
first_of (Some x) other = Some x
first_of None other = other

-- the key in front is found first
key_behind : {K X : Type 0} (test : K → Bool) (front rest : List (K × X))
    → lookup_key test (front ++ rest)
    ≡ first_of (lookup_key test front) (lookup_key test rest)
key_behind test [] rest = refl
key_behind {K} {X} test (p ∷ ps) rest =
    ap (λ found. cond (test p.0) (Some p.0) found) (key_behind test ps rest) ∙ by (test p.0)
  where
    by : (b : Bool) → cond b (Some p.0) (first_of (lookup_key test ps) (lookup_key test rest))
        ≡ first_of (cond b (Some p.0) (lookup_key test ps)) (lookup_key test rest)
    by true = refl
    by false = refl

-- a last key that does not pass is not found
key_passed : {K X : Type 0} (test : K → Bool) (k : K) (v : X) (es : List (K × X))
    → test k ≡ false → lookup_key test (es ++ (k, v) ∷ []) ≡ lookup_key test es
key_passed test k v [] fails = ap (λ b. cond b (Some k) None) fails
key_passed test k v (e ∷ es) fails =
    ap (λ found. cond (test e.0) (Some e.0) found) (key_passed test k v es fails)

cond_off : {X : Type 0} (b : Bool) (x y z : X) → (b ≡ false → y ≡ z) → cond b x y ≡ cond b x z
cond_off true x y z same = refl
cond_off false x y z same = same refl

module _ {K X : Type 0} {R : K → K → Ordering} (order : IsTotalOrder R) where
  -- each key of the entries is above this one
  abbrev AreAbove : K → List (K × X) → Type 0
  AreAbove k [] = ⊤
  AreAbove k (e ∷ es) = (R k e.0 ≡ Less) × AreAbove k es

  -- the keys ascend
  abbrev Ascend : List (K × X) → Type 0
  Ascend [] = ⊤
  Ascend (e ∷ es) = AreAbove e.0 es × Ascend es

  above_further : (j k : K) (es : List (K × X)) → R j k ≡ Less → AreAbove k es → AreAbove j es
  above_further j k [] below above = tt
  above_further j k (e ∷ es) below above =
      (order.trans j k e.0 below above.0, above_further j k es below above.1)

  above_inserted : (j k : K) (v : X) (es : List (K × X)) → R j k ≡ Less → AreAbove j es
      → AreAbove j (insert_entry R es k v)
  above_inserted j k v [] below above = (below, tt)
  above_inserted j k v (e ∷ es) below above =
      by (R k e.0) (above_inserted j k v es below above.1)
    where
      by : (r : Ordering) → AreAbove j (insert_entry R es k v)
          → AreAbove j (match_ordering r ((k, v) ∷ e ∷ es) ((e.0, v) ∷ es)
          (e ∷ insert_entry R es k v))
      by Less rest = (below, above)
      by Equal rest = (above.0, above.1)
      by Greater rest = (above.0, rest)

  ascend_inserted : (k : K) (v : X) (es : List (K × X)) → Ascend es
      → Ascend (insert_entry R es k v)
  ascend_inserted k v [] sorted = (tt, tt)
  ascend_inserted k v (e ∷ es) sorted =
      by (R k e.0) refl (ascend_inserted k v es sorted.1)
    where
      by : (r : Ordering) → R k e.0 ≡ r → Ascend (insert_entry R es k v)
          → Ascend (match_ordering r ((k, v) ∷ e ∷ es) ((e.0, v) ∷ es)
          (e ∷ insert_entry R es k v))
      by Less is rest = ((is, above_further k e.0 es is sorted.0), sorted)
      by Equal is rest = sorted
      by Greater is rest =
          let below : R e.0 k ≡ Less = order.antisymm e.0 k ∙ ap ordering_reverse is in
          (above_inserted e.0 k v es below sorted.0, rest)

  -- a new key that is below all others may be looked at last
  key_below : (q k : K) (v : X) (es : List (K × X)) → AreAbove k es
      → lookup_key (is_at (R q)) ((k, v) ∷ es) ≡ lookup_key (is_at (R q)) (es ++ (k, v) ∷ [])
  key_below q k v [] above = refl
  key_below q k v (e ∷ es) above =
      cond_apart (is_at (R q) k) (is_at (R q) e.0) apart (Some k) (Some e.0)
      (lookup_key (is_at (R q)) es)
      ∙ ap (λ found. cond (is_at (R q) e.0) (Some e.0) found) (key_below q k v es above.1)
    where
      apart : is_at (R q) k ≡ true → is_at (R q) e.0 ≡ true → ⊥
      apart at_k at_e =
          true≢false (sym (ap is_eq (sym above.0 ∙ both_equal order q k e.0 at_k at_e)))

  -- what is put in is found after the keys that were there
  key_inserted : (q k : K) (v : X) (es : List (K × X)) → Ascend es
      → lookup_key (is_at (R q)) (insert_entry R es k v)
      ≡ lookup_key (is_at (R q)) (es ++ (k, v) ∷ [])
  key_inserted q k v [] sorted = refl
  key_inserted q k v (e ∷ es) sorted =
      by (R k e.0) refl (key_inserted q k v es sorted.1)
    where
      test : K → Bool
      test = is_at (R q)

      by : (r : Ordering) → R k e.0 ≡ r
          → lookup_key test (insert_entry R es k v) ≡ lookup_key test (es ++ (k, v) ∷ [])
          → lookup_key test (match_ordering r ((k, v) ∷ e ∷ es) ((e.0, v) ∷ es)
          (e ∷ insert_entry R es k v)) ≡ lookup_key test ((e ∷ es) ++ (k, v) ∷ [])
      by Less is rest =
          key_below q k v (e ∷ es) (is, above_further k e.0 es is sorted.0)
      by Equal is rest =
          cond_off (test e.0) (Some e.0) _ _ (λ fails. sym (key_passed test k v es
          (ap is_eq (alike_right order k e.0 q is) ∙ fails)))
      by Greater is rest = ap (λ found. cond (test e.0) (Some e.0) found) rest

  -- after some outputs, a key finds that which was there first
  keys_more : (q : K) (outputs : List (K × X)) (map all : BTreeMap K X) → Ascend map.entries
      → FoldsTo (entries_kept R).takes map outputs all
      → lookup_key (is_at (R q)) all.entries ≡ lookup_key (is_at (R q)) (map.entries ++ outputs)
  keys_more q [] map all sorted e =
      ap (λ m. lookup_key (is_at (R q)) m.entries) (sym e)
      ∙ ap (λ es. lookup_key (is_at (R q)) es) (sym (append-nil map.entries))
  keys_more q (o ∷ os) map all sorted (more, taken, rest) =
      let test : K → Bool = is_at (R q) in
      keys_more q os more all
      (subst Ascend (sym taken) (ascend_inserted o.0 o.1 map.entries sorted)) rest
      ∙ key_behind test more.entries os
      ∙ ap (λ found. first_of found (lookup_key test os))
      (ap (λ es. lookup_key test es) taken ∙ key_inserted q o.0 o.1 map.entries sorted)
      ∙ sym (key_behind test (map.entries ++ o ∷ []) os)
      ∙ ap (λ es. lookup_key test es) (append_assoc map.entries (o ∷ []) os)

  -- in a map that was empty the key of an entry is that of the first output that has an equal one
  pub key_of_outputs : (q : K) (outputs : List (K × X)) (empty all : BTreeMap K X)
      → (entries_kept R).starts None empty → FoldsTo (entries_kept R).takes empty outputs all
      → get_key R all q ≡ lookup_key (is_at (R q)) outputs
  key_of_outputs q outputs empty all start taken =
      keys_more q outputs empty all (subst Ascend (sym start) tt) taken
      ∙ ap (λ es. lookup_key (is_at (R q)) (es ++ outputs)) start
