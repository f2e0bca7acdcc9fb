-- Searches of texts by their bytes.
use Rattle.std.proofs.Common.{◌≡◌, ℕ, ◌+◌, ◌≤◌, List, [], ◌∷◌, ◌++◌, length, take, Option, Some}
use Rattle.std.proofs.Common.{None, refl, sym, ap, subst, ◌∙◌, arith, length-append, inl, inr, ◌⊎◌}
use Rattle.std.specs.Prelude.{slice_index}
use Rattle.std.specs.declared.ops.Range.{Range}
use Rattle.std.specs.Str.{chars, encode_utf8_all, IsUtf8, IsCharBoundary}
use Rattle.std.proofs.lemmas.List.{append-nil, get_or_at}
use Rattle.std.proofs.lemmas.Str.{IsUtf8-nil, IsUtf8-take, IsCharBoundary-start, chars-append}
use Rattle.std.proofs.lemmas.Str.{chars-nil, encodes-append, encodes-chars}
use Rattle.std.proofs.Math.Seq.{take-append_seam}
use Rattle.std.specs.Char.{encode_utf8}
use Rattle.streams.specs.Utf8.{chars-encode}
use Rattle.streams.specs.Text.{width, width_chars, length_encodes}
use Rattle.stream_searches.specs.FindSlice.{Occurs, FindsSlice}
use Rattle.stream_searches.specs.Three.{IsOneOfThree}

front_is_text : (all front lit rest : List ℕ) → IsUtf8 all → IsUtf8 lit
    → all ≡ front ++ (lit ++ rest) → (lit ≡ [] → front ≡ []) → IsUtf8 front
front_is_text all front [] rest all_utf8 lit_utf8 split none =
    subst IsUtf8 (sym (none refl)) IsUtf8-nil
front_is_text all front (b ∷ bs) rest all_utf8 lit_utf8 split none =
    let first : slice_index all (length front) ≡ b =
    ap (λ l. slice_index l (length front)) split
    ∙ get_or_at front b (bs ++ rest) 0 (length front) refl in
    let begins = IsCharBoundary-start (b ∷ bs) lit_utf8 in
    let P : ℕ → Type 0 = λ x. 128 ≤ x → 192 ≤ x in
    let boundary : IsCharBoundary all (length front) = (
      omega (arith, ap (λ l. length l) split, length-append front ((b ∷ bs) ++ rest)),
      λ inside. subst P (sym first) (begins.1 (omega arith)),
    ) in
    subst IsUtf8 (ap (λ l. take (length front) l) split
    ∙ take-append_seam front ((b ∷ bs) ++ rest))
    (IsUtf8-take all (length front) all_utf8 boundary)

bytes_stand : (all : List ℕ) (P Q : List ℕ → Type 0)
    → ((cs : List ℕ) → Q cs → P (encode_utf8_all cs)) → IsUtf8 all → (front hit rest : List ℕ)
    → Occurs Q (chars all) front hit rest
    → Occurs P all (encode_utf8_all front) (encode_utf8_all hit) (encode_utf8_all rest)
bytes_stand all P Q to_bytes utf8 front hit rest s = record {
  splits =
      sym (encodes-chars all utf8) ∙ ap encode_utf8_all s.splits
      ∙ encodes-append front (hit ++ rest)
      ∙ ap (λ l. encode_utf8_all front ++ l) (encodes-append hit rest);
  is = to_bytes hit s.is;
}

-- A search of a text for some texts by their bytes is one by their characters.
pub texts_stand : (all : List ℕ) (P Q : List ℕ → Type 0)
    → ((lit : List ℕ) → P lit → IsUtf8 lit × Q (chars lit))
    → ((cs : List ℕ) → Q cs → P (encode_utf8_all cs)) → IsUtf8 all → (r : Option (Range ℕ))
    → FindsSlice length P all r → FindsSlice width Q (chars all) r
texts_stand all P Q to_chars to_bytes utf8 None nowhere =
    λ front hit rest s. nowhere (encode_utf8_all front) (encode_utf8_all hit)
    (encode_utf8_all rest) (bytes_stand all P Q to_bytes utf8 front hit rest s)
texts_stand all P Q to_chars to_bytes utf8 (Some range) m =
    let known = to_chars m.found m.stands.is in
    let found_utf8 = known.0 in
    let at_start : m.found ≡ [] → range.start ≤ 0 =
    λ none. m.least [] [] all (record { splits = refl; is = subst P none m.stands.is }) in
    let front_utf8 =
    front_is_text all m.front m.found m.rest utf8 found_utf8 m.stands.splits
    (λ none. no_length m.front (omega (arith, at_start none, m.starts))) in
    record {
      front = chars m.front;
      found = chars m.found;
      rest = chars m.rest;
      stands = record {
        splits = ap chars m.stands.splits ∙ chars-append m.front (m.found ++ m.rest) front_utf8
            ∙ ap (λ l. chars m.front ++ l) (chars-append m.found m.rest found_utf8);
        is = known.1;
      };
      starts = m.starts ∙ sym (width_chars m.front front_utf8);
      ends = m.ends ∙ ap (λ n. n + length m.found) (sym (width_chars m.front front_utf8))
          ∙ ap (λ n. width (chars m.front) + n) (sym (width_chars m.found found_utf8));
      least = λ other hit behind s.
          let there =
          m.least (encode_utf8_all other) (encode_utf8_all hit) (encode_utf8_all behind)
          (bytes_stand all P Q to_bytes utf8 other hit behind s) in
          omega (arith, there, length_encodes other);
    }
  where
    no_length : (xs : List ℕ) → length xs ≡ 0 → xs ≡ []
    no_length [] e = refl
    no_length (x ∷ xs) e = absurd (omega (arith, e))

-- A search of a text for a text.
pub text_stands : (all lit : List ℕ) → IsUtf8 all → IsUtf8 lit → (r : Option (Range ℕ))
    → FindsSlice length (λ xs. xs ≡ lit) all r
    → FindsSlice width (λ xs. xs ≡ chars lit) (chars all) r
text_stands all lit all_utf8 lit_utf8 r found =
    texts_stand all (λ xs. xs ≡ lit) (λ xs. xs ≡ chars lit)
    (λ l e. (subst IsUtf8 (sym e) lit_utf8, ap chars e))
    (λ cs e. ap encode_utf8_all e ∙ encodes-chars lit lit_utf8) all_utf8 r found

-- the bytes of a character spell it alone
pub chars-one : (c : ℕ) → chars (encode_utf8 c) ≡ c ∷ []
chars-one c = ap chars (sym (append-nil (encode_utf8 c))) ∙ chars-encode c []
    ∙ ap (λ l. c ∷ l) chars-nil

-- a character alone takes its own bytes
encodes-one : (c : ℕ) → encode_utf8_all (c ∷ []) ≡ encode_utf8 c
encodes-one c = append-nil (encode_utf8 c)

-- the bytes of a character are a text, and spell the list of it alone
one_char : (Q : List ℕ → Type 0) (c : ℕ) (lit : List ℕ) → IsUtf8 (encode_utf8 c)
    → lit ≡ encode_utf8 c → Q (c ∷ []) → IsUtf8 lit × Q (chars lit)
one_char Q c lit utf8 e q = (subst IsUtf8 (sym e) utf8, subst Q (sym (ap chars e ∙ chars-one c)) q)

-- A search of a text for one of three characters.
pub three_characters : (all : List ℕ) (a b d : ℕ) → IsUtf8 all → IsUtf8 (encode_utf8 a)
    → IsUtf8 (encode_utf8 b) → IsUtf8 (encode_utf8 d) → (r : Option (Range ℕ))
    → FindsSlice length (IsOneOfThree (encode_utf8 a) (encode_utf8 b) (encode_utf8 d)) all r
    → FindsSlice width (IsOneOfThree (a ∷ []) (b ∷ []) (d ∷ [])) (chars all) r
three_characters all a b d utf8 ua ub ud r found =
    texts_stand all (IsOneOfThree (encode_utf8 a) (encode_utf8 b) (encode_utf8 d))
    (IsOneOfThree (a ∷ []) (b ∷ []) (d ∷ [])) to_chars to_bytes utf8 r found
  where
    to_chars : (lit : List ℕ) → IsOneOfThree (encode_utf8 a) (encode_utf8 b) (encode_utf8 d) lit
        → IsUtf8 lit × IsOneOfThree (a ∷ []) (b ∷ []) (d ∷ []) (chars lit)
    to_chars lit (inl e) = one_char (IsOneOfThree (a ∷ []) (b ∷ []) (d ∷ [])) a lit ua e (inl refl)
    to_chars lit (inr (inl e)) =
        one_char (IsOneOfThree (a ∷ []) (b ∷ []) (d ∷ [])) b lit ub e (inr (inl refl))
    to_chars lit (inr (inr e)) =
        one_char (IsOneOfThree (a ∷ []) (b ∷ []) (d ∷ [])) d lit ud e (inr (inr refl))

    to_bytes : (cs : List ℕ) → IsOneOfThree (a ∷ []) (b ∷ []) (d ∷ []) cs
        → IsOneOfThree (encode_utf8 a) (encode_utf8 b) (encode_utf8 d) (encode_utf8_all cs)
    to_bytes cs (inl e) = inl (ap encode_utf8_all e ∙ encodes-one a)
    to_bytes cs (inr (inl e)) = inr (inl (ap encode_utf8_all e ∙ encodes-one b))
    to_bytes cs (inr (inr e)) = inr (inr (ap encode_utf8_all e ∙ encodes-one d))

-- A search of a text for one of two characters.
pub two_characters : (all : List ℕ) (a b : ℕ) → IsUtf8 all → IsUtf8 (encode_utf8 a)
    → IsUtf8 (encode_utf8 b) → (r : Option (Range ℕ))
    → FindsSlice length (λ xs. (xs ≡ encode_utf8 a) ⊎ (xs ≡ encode_utf8 b)) all r
    → FindsSlice width (λ xs. (xs ≡ a ∷ []) ⊎ (xs ≡ b ∷ [])) (chars all) r
two_characters all a b utf8 ua ub r found =
    texts_stand all (λ xs. (xs ≡ encode_utf8 a) ⊎ (xs ≡ encode_utf8 b))
    (λ xs. (xs ≡ a ∷ []) ⊎ (xs ≡ b ∷ [])) to_chars to_bytes utf8 r found
  where
    to_chars : (lit : List ℕ) → (lit ≡ encode_utf8 a) ⊎ (lit ≡ encode_utf8 b)
        → IsUtf8 lit × ((chars lit ≡ a ∷ []) ⊎ (chars lit ≡ b ∷ []))
    to_chars lit (inl e) = one_char (λ xs. (xs ≡ a ∷ []) ⊎ (xs ≡ b ∷ [])) a lit ua e (inl refl)
    to_chars lit (inr e) = one_char (λ xs. (xs ≡ a ∷ []) ⊎ (xs ≡ b ∷ [])) b lit ub e (inr refl)

    to_bytes : (cs : List ℕ) → (cs ≡ a ∷ []) ⊎ (cs ≡ b ∷ [])
        → (encode_utf8_all cs ≡ encode_utf8 a) ⊎ (encode_utf8_all cs ≡ encode_utf8 b)
    to_bytes cs (inl e) = inl (ap encode_utf8_all e ∙ encodes-one a)
    to_bytes cs (inr e) = inr (ap encode_utf8_all e ∙ encodes-one b)
