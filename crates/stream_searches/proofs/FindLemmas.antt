-- The results of searches of bytes, as lists.
use Rattle.std.proofs.Common.{◌≡◌, ℕ, ◌+◌, ◌<◌, Bool, true, List, [], ◌∷◌, ◌++◌, length, take, drop}
use Rattle.std.proofs.Common.{Option, Some, None, refl, sym, ap, ◌∙◌, arith, inl, inr, ◌⊎◌}
use Rattle.std.proofs.Common.{length-append, get_or}
use Rattle.std.specs.Prelude.{MatchOption, slice_index, ◌||◌}
use Rattle.std.proofs.lemmas.Bool.{cases_lt, eqb-true, eq-eqb, or_cases, or_left, or_right}
use Rattle.std.proofs.lemmas.List.{take-append-drop, length-take-le, drop_at, at_drop_more}
use Rattle.std.proofs.lemmas.List.{get_or_at}
use Rattle.std.proofs.Math.Dec.{eqb}
use Rattle.std.proofs.Math.Seq.{take-append_seam}
use Rattle.std.proofs.lemmas.Str.{encode_ascii}
use Rattle.std.specs.Char.{encode_utf8}
use Rattle.std.specs.declared.ops.Range.{Range}
use Rattle.memchr.specs.Find.{OccursAt, Passes, FindsNeedle, IsFirstByte, is_byte, is_byte2}
use Rattle.memchr.specs.Find.{is_byte3}
use Rattle.memchr.proofs.lemmas.MatchLemmas.{OccursAt-from_part, OccursAt-split}
use Rattle.stream_searches.specs.FindSlice.{Occurs, IsFirstMatch, FindsSlice}
use Rattle.stream_searches.specs.Three.{IsOneOfThree}

occurs : (hay needle front rest : List ℕ) → hay ≡ front ++ (needle ++ rest)
    → OccursAt hay needle (length front)
occurs hay needle front rest e =
    OccursAt-from_part hay needle (length front)
    (omega (
      arith,
      ap (λ l. length l) e,
      length-append front (needle ++ rest),
      length-append needle rest,
    ))
    (ap (λ l. take (length needle) (drop (length front) l)) e
    ∙ ap (λ l. take (length needle) l)
    (drop_at front (needle ++ rest) (length front) refl) ∙ take-append_seam needle rest)

pub needle_stands : (hay needle : List ℕ) (r : Option ℕ) → FindsNeedle hay needle 0 r
    → MatchOption r ((front hit rest : List ℕ) → Occurs (λ xs. xs ≡ needle) hay front hit rest
    → ⊥) (λ k. IsFirstMatch length (λ xs. xs ≡ needle) hay k (k + length needle))
needle_stands hay needle None nowhere = λ front hit rest s.
    nowhere (length front) (omega arith)
    (omega (arith, ap (λ l. length l) s.splits, length-append front (hit ++ rest)))
    (occurs hay needle front rest (s.splits ∙ ap (λ l. front ++ (l ++ rest)) s.is))
needle_stands hay needle (Some k) (before, here) =
    let fits = here.fits in
    let front_length : k ≡ length (take k hay) = sym (length-take-le k hay (omega arith)) in
    record {
      front = take k hay;
      found = needle;
      rest = drop (k + length needle) hay;
      stands = record {
        splits = sym (take-append-drop k hay)
            ∙ ap (λ l. take k hay ++ l) (OccursAt-split hay needle k here);
        is = refl;
      };
      starts = front_length;
      ends = ap (λ n. n + length needle) front_length;
      least = λ other hit behind s. elim (cases_lt (length other) k) [
        | inl h ↦ absurd
            (before.before (length other) (omega arith) h
            (occurs hay needle other behind
            (s.splits ∙ ap (λ l. other ++ (l ++ behind)) s.is)))
        | inr h ↦ h
      ];
    }

byte_split : (hay : List ℕ) (k d : ℕ) → k < length hay
    → hay ≡ take k hay ++ (get_or hay k d ∷ drop (k + 1) hay)
byte_split hay k d h =
    sym (take-append-drop k hay) ∙ ap (λ l. take k hay ++ l) (at_drop_more (λ l. l) hay k d h)

pub byte_stands : (test : ℕ → Bool) (sought : List ℕ → Type 0)
    → ((b : ℕ) → test b ≡ true → sought (b ∷ []))
    → ((xs : List ℕ) → sought xs → (b : ℕ) × (xs ≡ b ∷ []) × (test b ≡ true))
    → (hay : List ℕ) (r : Option ℕ) → IsFirstByte test hay r
    → MatchOption r ((front hit rest : List ℕ) → Occurs sought hay front hit rest → ⊥)
    (λ k. IsFirstMatch length sought hay k (k + 1))
byte_stands test sought is_sought are_bytes hay None nowhere = λ front hit rest s.
    let byte = are_bytes hit s.is in
    let split : hay ≡ front ++ (byte.0 ∷ rest) = s.splits ∙ ap (λ l. front ++ (l ++ rest)) byte.1 in
    nowhere (length front) (omega arith)
    (omega (arith, ap (λ l. length l) split, length-append front (byte.0 ∷ rest)))
    (passes test hay front rest byte.0 split byte.2)
  where
    passes : (test : ℕ → Bool) (hay front rest : List ℕ) (b : ℕ) → hay ≡ front ++ (b ∷ rest)
        → test b ≡ true → Passes test hay (length front)
    passes test hay front rest b split is =
        ap test (ap (λ l. slice_index l (length front)) split
        ∙ get_or_at front b rest 0 (length front) refl) ∙ is
byte_stands test sought is_sought are_bytes hay (Some k) (before, here) =
    let fits = before.high in
    let front_length : k ≡ length (take k hay) = sym (length-take-le k hay (omega arith)) in
    record {
      front = take k hay;
      found = slice_index hay k ∷ [];
      rest = drop (k + 1) hay;
      stands = record { splits = byte_split hay k 0 fits; is = is_sought (slice_index hay k) here };
      starts = front_length;
      ends = ap (λ n. n + 1) front_length;
      least = λ other hit behind s. elim (cases_lt (length other) k) [
        | inl h ↦ absurd (let byte = are_bytes hit s.is in
            let split : hay ≡ other ++ (byte.0 ∷ behind) =
            s.splits ∙ ap (λ l. other ++ (l ++ behind)) byte.1 in
            before.before (length other) (omega arith) h
            (ap test (ap (λ l. slice_index l (length other)) split
            ∙ get_or_at other byte.0 behind 0 (length other) refl) ∙ byte.2))
        | inr h ↦ h
      ];
    }

-- the single byte a
pub one_stands : (a : ℕ) (hay : List ℕ) (r : Option ℕ) → IsFirstByte (is_byte a) hay r
    → MatchOption r ((front hit rest : List ℕ) → Occurs (λ xs. xs ≡ a ∷ []) hay front hit rest
    → ⊥) (λ k. IsFirstMatch length (λ xs. xs ≡ a ∷ []) hay k (k + 1))
one_stands a hay r first =
    byte_stands (is_byte a) (λ xs. xs ≡ a ∷ []) (λ x e. ap (λ y. y ∷ []) (eqb-true x a e))
    (λ xs e. (a, e, eq-eqb a a refl)) hay r first

-- one of two bytes
pub two_stand : (a b : ℕ) (hay : List ℕ) (r : Option ℕ) → IsFirstByte (is_byte2 a b) hay r
    → MatchOption r ((front hit rest : List ℕ)
    → Occurs (λ xs. (xs ≡ a ∷ []) ⊎ (xs ≡ b ∷ [])) hay front hit rest → ⊥)
    (λ k. IsFirstMatch length (λ xs. (xs ≡ a ∷ []) ⊎ (xs ≡ b ∷ [])) hay k (k + 1))
two_stand a b hay r first =
    byte_stands (is_byte2 a b) (λ xs. (xs ≡ a ∷ []) ⊎ (xs ≡ b ∷ [])) is_sought are_bytes hay r
    first
  where
    is_sought : (x : ℕ) → is_byte2 a b x ≡ true → (x ∷ [] ≡ a ∷ []) ⊎ (x ∷ [] ≡ b ∷ [])
    is_sought x e = elim (or_cases (eqb x a) (eqb x b) e) [
      | inl h ↦ inl (ap (λ y. y ∷ []) (eqb-true x a h))
      | inr h ↦ inr (ap (λ y. y ∷ []) (eqb-true x b h))
    ]

    are_bytes : (xs : List ℕ) → (xs ≡ a ∷ []) ⊎ (xs ≡ b ∷ [])
        → (x : ℕ) × (xs ≡ x ∷ []) × (is_byte2 a b x ≡ true)
    are_bytes xs (inl e) = (a, e, or_left (eqb a a) (eqb a b) (eq-eqb a a refl))
    are_bytes xs (inr e) = (b, e, or_right (eqb b a) (eqb b b) (eq-eqb b b refl))

-- one of three bytes
pub three_stand : (a b c : ℕ) (hay : List ℕ) (r : Option ℕ) → IsFirstByte (is_byte3 a b c) hay r
    → MatchOption r ((front hit rest : List ℕ)
    → Occurs (λ xs. (xs ≡ a ∷ []) ⊎ ((xs ≡ b ∷ []) ⊎ (xs ≡ c ∷ []))) hay front hit rest
    → ⊥) (λ k. IsFirstMatch length (λ xs. (xs ≡ a ∷ []) ⊎ ((xs ≡ b ∷ []) ⊎ (xs ≡ c ∷ [])))
    hay k (k + 1))
three_stand a b c hay r first =
    byte_stands (is_byte3 a b c) (λ xs. (xs ≡ a ∷ []) ⊎ ((xs ≡ b ∷ []) ⊎ (xs ≡ c ∷ [])))
    is_sought are_bytes hay r first
  where
    is_sought : (x : ℕ) → is_byte3 a b c x ≡ true
        → (x ∷ [] ≡ a ∷ []) ⊎ ((x ∷ [] ≡ b ∷ []) ⊎ (x ∷ [] ≡ c ∷ []))
    is_sought x e = elim (or_cases (eqb x a || eqb x b) (eqb x c) e) [
      | inl h ↦ elim (or_cases (eqb x a) (eqb x b) h) [
        | inl g ↦ inl (ap (λ y. y ∷ []) (eqb-true x a g))
        | inr g ↦ inr (inl (ap (λ y. y ∷ []) (eqb-true x b g)))
      ]
      | inr h ↦ inr (inr (ap (λ y. y ∷ []) (eqb-true x c h)))
    ]

    are_bytes : (xs : List ℕ) → (xs ≡ a ∷ []) ⊎ ((xs ≡ b ∷ []) ⊎ (xs ≡ c ∷ []))
        → (x : ℕ) × (xs ≡ x ∷ []) × (is_byte3 a b c x ≡ true)
    are_bytes xs (inl e) = (
      a,
      e,
      or_left (eqb a a || eqb a b) (eqb a c)
          (or_left (eqb a a) (eqb a b) (eq-eqb a a refl)),
    )
    are_bytes xs (inr (inl e)) = (
      b,
      e,
      or_left (eqb b a || eqb b b) (eqb b c)
          (or_right (eqb b a) (eqb b b) (eq-eqb b b refl)),
    )
    are_bytes xs (inr (inr e)) = (c, e, or_right (eqb c a || eqb c b) (eqb c c) (eq-eqb c c refl))

-- one of two characters that are ASCII, so a byte each
pub two_ascii_stand : (a b : ℕ) → a < 128 → b < 128 → (hay : List ℕ) (r : Option (Range ℕ))
    → FindsSlice length (λ xs. (xs ≡ a ∷ []) ⊎ (xs ≡ b ∷ [])) hay r
    → FindsSlice length (λ xs. (xs ≡ encode_utf8 a) ⊎ (xs ≡ encode_utf8 b)) hay r
two_ascii_stand a b first second hay r found =
    rw (encode_ascii a first, encode_ascii b second) found

-- one of three characters that are ASCII
pub three_ascii_stand : (a b c : ℕ) → a < 128 → b < 128 → c < 128 → (hay : List ℕ)
    (r : Option (Range ℕ)) → FindsSlice length (IsOneOfThree (a ∷ []) (b ∷ []) (c ∷ [])) hay r
    → FindsSlice length (IsOneOfThree (encode_utf8 a) (encode_utf8 b) (encode_utf8 c)) hay r
three_ascii_stand a b c first second third hay r found =
    rw (encode_ascii a first, encode_ascii b second, encode_ascii c third) found
