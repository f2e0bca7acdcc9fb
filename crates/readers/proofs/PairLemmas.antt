-- Which bytes begin the line of a pair.
use Rattle.std.proofs.Common.{◌≡◌, ◌≢◌, ◌<◌, ◌∙◌, ◌⊎◌, ℕ, List, [], ◌∷◌, ◌++◌, length}
use Rattle.std.proofs.Common.{refl, sym}
use Rattle.std.proofs.Common.{ap, subst, arith, inl, inr, append_assoc, lit<, lit≤}
use Rattle.std.specs.List.{All}
use Rattle.std.proofs.lemmas.List.{append-nil}
use Rattle.std.proofs.lemmas.List.Elements.{All-nil, All-cons, All-head, All-tail}
use Rattle.std.proofs.lemmas.Bool.{cases_lt}
use Rattle.winnow.specs.Equal.{same_first, same_others}
use Rattle.readers.specs.Pair.{IsKeyByte, IsLineEnd, IsPairLine, BeginsPairLine, IsRefusedPair}

pub not_none : {X : Type 0} {x : X} {xs : List X} → x ∷ xs ≡ [] → ⊥
not_none e = cc

-- equal lists have equally long prefixes of P
pub first_stranger : {X : Type 0} (P : X → Type 0) (xs ys : List X) (x y : X) (xs' ys' : List X)
    → All P xs → All P ys → (P x → ⊥) → (P y → ⊥) → xs ++ x ∷ xs' ≡ ys ++ y ∷ ys'
    → (xs ≡ ys) × (x ≡ y) × (xs' ≡ ys')
first_stranger P [] [] x y xs' ys' p q no_x no_y e = (refl, same_first e, same_others e)
first_stranger P [] (b ∷ ys) x y xs' ys' p q no_x no_y e =
    absurd (no_x (subst P (sym (same_first e)) (All-head P b ys q)))
first_stranger P (a ∷ xs) [] x y xs' ys' p q no_x no_y e =
    absurd (no_y (subst P (same_first e) (All-head P a xs p)))
first_stranger P (a ∷ xs) (b ∷ ys) x y xs' ys' p q no_x no_y e =
    let (same, first, others) =
    first_stranger P xs ys x y xs' ys' (All-tail P a xs p) (All-tail P b ys q) no_x no_y
    (same_others e) in
    (ap (λ z. z ∷ xs) (same_first e) ∙ ap (λ l. b ∷ l) same, first, others)

-- an element amid elements of P is of P
pub All-middle : {X : Type 0} (P : X → Type 0) (xs : List X) (y : X) (ys : List X)
    → All P (xs ++ y ∷ ys) → P y
All-middle P [] y ys all = All-head P y ys all
All-middle P (x ∷ xs) y ys all = All-middle P xs y ys (All-tail P x (xs ++ y ∷ ys) all)

pub longer : {X : Type 0} (xs ys zs ws : List X) → xs ++ ys ≡ zs ++ ws → length xs < length zs
    → (y : X) × (more : List X) × (ys ≡ y ∷ (more ++ ws)) × (zs ≡ xs ++ y ∷ more)
longer [] ys [] ws e h = absurd (omega arith)
longer [] ys (z ∷ zs) ws e h = (z, zs, e, refl)
longer (x ∷ xs) ys [] ws e h = absurd (omega arith)
longer (x ∷ xs) ys (z ∷ zs) ws e h =
    let (y, more, rest, whole) = longer xs ys zs ws (same_others e) (omega arith) in
    (y, more, rest, ap (λ a. a ∷ zs) (sym (same_first e)) ∙ ap (λ l. x ∷ l) whole)

pub mark_is_no_key : IsKeyByte 61 → ⊥
mark_is_no_key (inl h) = omega (arith, h.0, h.1)
mark_is_no_key (inr (inl h)) = omega (arith, h.0, h.1)
mark_is_no_key (inr (inr h)) = omega (arith, h.0, h.1)

-- a byte after a key that is neither of a key nor the mark is in no line
no_line_after_key : (key more : List ℕ) (y : ℕ) (k v : List ℕ) → All IsKeyByte key
    → (IsKeyByte y → ⊥) → (length key ≡ 0) ⊎ (y ≢ 61) → IsPairLine (key ++ y ∷ more) k v → ⊥
no_line_after_key key more y k v all stranger (inl none) (end, some, keys, values, ends, e) =
    let same = first_stranger IsKeyByte key k y 61 more (v ++ end) all keys stranger
    mark_is_no_key e in
    omega (arith, none, some, ap (λ l. length l) same.0)
no_line_after_key key more y k v all stranger (inr not_mark) (end, some, keys, values, ends, e) =
    let same = first_stranger IsKeyByte key k y 61 more (v ++ end) all keys stranger
    mark_is_no_key e in
    not_mark same.1

no_line_of_key : (key : List ℕ) (k v : List ℕ) → All IsKeyByte key → IsPairLine key k v → ⊥
no_line_of_key key k v all (end, some, keys, values, ends, e) =
    let P : List ℕ → Type 0 = λ l. All IsKeyByte l in
    mark_is_no_key (All-middle IsKeyByte k 61 (v ++ end) (subst P e all))

-- a key begins a line
key_begins : (key : List ℕ) → All IsKeyByte key → BeginsPairLine key
key_begins [] all = (
  107 ∷ 61 ∷ [],
  107 ∷ [],
  [],
  All-cons (λ b. b < 256) 107 (61 ∷ []) (lit< tt)
      (All-cons (λ b. b < 256) 61 [] (lit< tt) (All-nil (λ b. b < 256))),
  (
    [],
    omega arith,
    All-cons IsKeyByte 107 [] (inr (inr (lit≤ tt, lit≤ tt)))
        (All-nil IsKeyByte),
    All-nil (λ b. b ≢ 10),
    inl refl,
    refl,
  ),
)
key_begins (x ∷ xs) all = (
  61 ∷ [],
  x ∷ xs,
  [],
  All-cons (λ b. b < 256) 61 [] (lit< tt) (All-nil (λ b. b < 256)),
  ([], omega arith, all, All-nil (λ b. b ≢ 10), inl refl, refl),
)

pub refused_after_key : (input key rest : List ℕ) → input ≡ key ++ rest → All IsKeyByte key
    → ((y : ℕ) (more : List ℕ) → rest ≡ y ∷ more
    → (IsKeyByte y → ⊥) × ((length key ≡ 0) ⊎ (y ≢ 61))) → IsRefusedPair input (length key)
refused_after_key input key rest e all stops = record {
  no_line = λ k v line. no_line key rest k v all stops
      (let P : List ℕ → Type 0 = λ l. IsPairLine l k v in subst P e line);
  front = key;
  rest = rest;
  splits = e;
  begins = key_begins key all;
  at = refl;
  longest = λ other more e2 begins. elim (cases_lt (length key) (length other)) [
    | inl h ↦ absurd (no_longer key rest other more all stops (sym e ∙ e2) h begins)
    | inr h ↦ h
  ];
}
  where
    no_line : (key rest k v : List ℕ) → All IsKeyByte key
        → ((y : ℕ) (more : List ℕ) → rest ≡ y ∷ more
        → (IsKeyByte y → ⊥) × ((length key ≡ 0) ⊎ (y ≢ 61))) → IsPairLine (key ++ rest) k v
        → ⊥
    no_line key [] k v all stops line =
        no_line_of_key key k v all
        (let P : List ℕ → Type 0 = λ l. IsPairLine l k v in subst P (append-nil key) line)
    no_line key (y ∷ more) k v all stops line =
        let s = stops y more refl in no_line_after_key key more y k v all s.0 s.1 line

    no_longer : (key rest other more : List ℕ) → All IsKeyByte key
        → ((y : ℕ) (more : List ℕ) → rest ≡ y ∷ more
        → (IsKeyByte y → ⊥) × ((length key ≡ 0) ⊎ (y ≢ 61))) → key ++ rest ≡ other ++ more
        → length key < length other → BeginsPairLine other → ⊥
    no_longer key rest other more all stops e h (tail, k, v, bytes, line) =
        let (y, mid, is_rest, is_other) = longer key rest other more e h in
        let s = stops y (mid ++ more) is_rest in
        let P : List ℕ → Type 0 = λ l. IsPairLine l k v in
        no_line_after_key key (mid ++ tail) y k v all s.0 s.1
        (subst P (ap (λ l. l ++ tail) is_other ∙ append_assoc key (y ∷ mid) tail) line)

no_line_too_long : (key value more : List ℕ) (y : ℕ) (k v : List ℕ) → All IsKeyByte key
    → All (λ b. b ≢ 10) value → IsPairLine (key ++ (61 ∷ (value ++ (10 ∷ (y ∷ more))))) k v → ⊥
no_line_too_long key value more y k v keys values (end, some, ks, vs, ends, e) =
    let same = first_stranger IsKeyByte key k 61 61 (value ++ (10 ∷ (y ∷ more))) (v ++ end) keys
    ks mark_is_no_key mark_is_no_key e in
    after_value value more y v end values vs ends same.2
  where
    after_value : (value more : List ℕ) (y : ℕ) (v end : List ℕ) → All (λ b. b ≢ 10) value
        → All (λ b. b ≢ 10) v → IsLineEnd end → value ++ (10 ∷ (y ∷ more)) ≡ v ++ end → ⊥
    after_value value more y v end values vs (inl none) e =
        let P : List ℕ → Type 0 = λ l. All (λ b. b ≢ 10) l in
        All-middle (λ b. b ≢ 10) value 10 (y ∷ more)
        (subst P (sym (e ∙ ap (λ l. v ++ l) none ∙ append-nil v)) vs) refl
    after_value value more y v end values vs (inr feed) e =
        let same = first_stranger (λ b. b ≢ 10) value v 10 10 (y ∷ more) [] values vs
        (λ h. h refl) (λ h. h refl) (e ∙ ap (λ l. v ++ l) feed) in
        not_none same.2

pub refused_after_line : (input key value more : List ℕ) (y : ℕ)
    → input ≡ key ++ (61 ∷ (value ++ (10 ∷ (y ∷ more)))) → 0 < length key → All IsKeyByte key
    → All (λ b. b ≢ 10) value
    → IsRefusedPair input (length (key ++ (61 ∷ (value ++ (10 ∷ [])))))
refused_after_line input key value more y e some keys values =
    let line : List ℕ = key ++ (61 ∷ (value ++ (10 ∷ []))) in
    let split : input ≡ line ++ (y ∷ more) = e ∙ sym (regroup key value (y ∷ more)) in
    record {
      no_line = λ k v is_line. no_line_too_long key value more y k v keys values
          (let P : List ℕ → Type 0 = λ l. IsPairLine l k v in subst P e is_line);
      front = line;
      rest = y ∷ more;
      splits = split;
      begins = (
        [],
        key,
        value,
        All-nil (λ b. b < 256),
        (10 ∷ [], some, keys, values, inr refl, append-nil line),
      );
      at = refl;
      longest = λ other rest e2 begins. elim (cases_lt (length line) (length other)) [
        | inl h ↦ absurd
            (no_longer key value (y ∷ more) other rest keys values (sym split ∙ e2) h begins)
        | inr h ↦ h
      ];
    }
  where
    regroup : (key value more : List ℕ)
        → (key ++ (61 ∷ (value ++ (10 ∷ [])))) ++ more ≡ key ++ (61 ∷ (value ++ (10 ∷ more)))
    regroup key value more =
        append_assoc key (61 ∷ (value ++ (10 ∷ []))) more
        ∙ ap (λ l. key ++ (61 ∷ l)) (append_assoc value (10 ∷ []) more)

    no_longer : (key value rest other more : List ℕ) → All IsKeyByte key
        → All (λ b. b ≢ 10) value → (key ++ (61 ∷ (value ++ (10 ∷ [])))) ++ rest ≡ other ++ more
        → length (key ++ (61 ∷ (value ++ (10 ∷ [])))) < length other → BeginsPairLine other → ⊥
    no_longer key value rest other more keys values e h (tail, k, v, bytes, line) =
        let (y, mid, is_rest, is_other) =
        longer (key ++ (61 ∷ (value ++ (10 ∷ [])))) rest other more e h in
        let P : List ℕ → Type 0 = λ l. IsPairLine l k v in
        no_line_too_long key value (mid ++ tail) y k v keys values
        (subst P (ap (λ l. l ++ tail) is_other
        ∙ append_assoc (key ++ (61 ∷ (value ++ (10 ∷ [])))) (y ∷ mid) tail
        ∙ regroup key value (y ∷ (mid ++ tail))) line)
