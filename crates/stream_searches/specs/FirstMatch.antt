-- A first match stays the first one, whatever tokens come after.
use Rattle.std.specs.Prelude.{◌≡◌, ℕ, ◌+◌, ◌/◌, ◌%◌, ◌<◌, ◌≤◌, List, [], ◌∷◌, ◌++◌, ⊤}
use Rattle.std.specs.Prelude.{length}
use Rattle.std.specs.Char.{encode_utf8}
use Rattle.std.proofs.Common.{append_assoc, refl, sym, ap, subst, ◌∙◌, arith, inl, inr, ◌⊎◌}
use Rattle.std.proofs.lemmas.Bool.{cases_lt}
use Rattle.std.proofs.lemmas.List.{length-append}
use Rattle.std.proofs.lemmas.Str.{encode_ascii}
use Rattle.streams.specs.Equal.{same_first, same_others}
use Rattle.streams.specs.Reading.{Reading, units-nil}
use Rattle.streams.specs.Utf8.{two_bytes, three_bytes, four_bytes}
use Rattle.stream_searches.specs.FindSlice.{Occurs, IsFirstMatch}
use Rattle.stream_searches.specs.Three.{IsOneOfThree}

-- `NoneInside sought`: no needle occurs in another one after its first token.
abbrev pub NoneInside : {T : Type 0} → (List T → Type 0) → Type 0
NoneInside {T} sought =
    (front inner rest : List T) → sought (front ++ (inner ++ rest)) → sought inner
    → 0 < length front → ⊥

-- The first match in some tokens is the first one in more tokens.
abbrev pub StaysFirst : {T : Type 0} → (List T → ℕ) → (List T → Type 0) → Type 0
StaysFirst {T} units sought =
    (tokens more : List T) (start end : ℕ) → IsFirstMatch units sought tokens start end
    → IsFirstMatch units sought (tokens ++ more) start end

beginnings : {T : Type 0} (xs behind ys rest : List T) → xs ++ behind ≡ ys ++ rest
    → ((e : List T) × (xs ≡ ys ++ e) × (rest ≡ e ++ behind))
    ⊎ ((e : List T) × (ys ≡ xs ++ e) × (behind ≡ e ++ rest))
beginnings [] behind ys rest same = inr (ys, refl, same)
beginnings (x ∷ xs) behind [] rest same = inl (x ∷ xs, refl, sym same)
beginnings (x ∷ xs) behind (y ∷ ys) rest same =
    elim (beginnings xs behind ys rest (same_others same)) [
      | inl (e, p, q) ↦ inl (e, ap (λ z. z ∷ xs) (same_first same) ∙ ap (λ l. y ∷ l) p, q)
      | inr (e, p, q) ↦ inr (e, ap (λ z. z ∷ ys) (sym (same_first same)) ∙ ap (λ l. x ∷ l) p, q)
    ]

some_length : {T S : Type 0} (reading : Reading T S) (xs : List T) → 0 < reading.units xs
    → 0 < length xs
some_length reading [] h = absurd (omega (arith, h, units-nil reading))
some_length reading (x ∷ xs) h = omega arith

module _ {T S : Type 0} (reading : Reading T S) (sought : List T → Type 0)
    (none_inside : NoneInside sought) where
  least_of_more : (tokens more : List T) (start end : ℕ)
      (m : IsFirstMatch reading.units sought tokens start end) (other hit behind : List T)
      → Occurs sought (tokens ++ more) other hit behind → reading.units other < start → ⊥
  least_of_more tokens more start end m other hit behind s earlier =
      let all : List T = m.found ++ m.rest in
      let split : other ++ (hit ++ behind) ≡ m.front ++ (all ++ more) =
      sym s.splits ∙ ap (λ l. l ++ more) m.stands.splits ∙ append_assoc m.front all more in
      elim (beginnings other (hit ++ behind) m.front (all ++ more) split) [
        | inl (e, p, q)
            ↦ omega (arith, earlier, m.starts, ap reading.units p, reading.units_add m.front e)
        | inr (e, p, q) ↦
            let inside : 0 < length e =
            some_length reading e
            (omega (
              arith,
              earlier,
              m.starts,
              ap reading.units p,
              reading.units_add other e,
            )) in
            elim (beginnings hit behind (e ++ all) more (q ∙ sym (append_assoc e all more))) [
              | inl (x, covers, r) ↦
                  none_inside e m.found (m.rest ++ x)
                  (subst sought (covers ∙ append_assoc e all x
                  ∙ ap (λ l. e ++ l) (append_assoc m.found m.rest x)) s.is) m.stands.is
                  inside
              | inr (x, within, r) ↦
                  let there =
                  m.least other hit x
                  (record {
                    splits = m.stands.splits ∙ ap (λ l. l ++ all) p
                        ∙ append_assoc other e all ∙ ap (λ l. other ++ l) within;
                    is = s.is;
                  })
                  in
                  omega (arith, there, earlier)
            ]
      ]

  pub stays_first : StaysFirst reading.units sought
  stays_first tokens more start end m = record {
    front = m.front;
    found = m.found;
    rest = m.rest ++ more;
    stands = record {
      splits = ap (λ l. l ++ more) m.stands.splits
          ∙ append_assoc m.front (m.found ++ m.rest) more
          ∙ ap (λ l. m.front ++ l) (append_assoc m.found m.rest more);
      is = m.stands.is;
    };
    starts = m.starts;
    ends = m.ends;
    least = λ other hit behind s. elim (cases_lt (reading.units other) start) [
      | inl h ↦ absurd (least_of_more tokens more start end m other hit behind s h)
      | inr h ↦ h
    ];
  }

pub one_length_inside : {T : Type 0} (sought : List T → Type 0)
    → ((xs ys : List T) → sought xs → sought ys → length xs ≡ length ys) → NoneInside sought
one_length_inside sought same front inner rest p q some =
    omega (
      arith,
      some,
      same (front ++ (inner ++ rest)) inner p q,
      length-append front (inner ++ rest),
      length-append inner rest,
    )

-- a byte that no character begins with
abbrev IsInner : ℕ → Type 0
IsInner b = (128 ≤ b) × (b < 192)

abbrev AllInner : List ℕ → Type 0
AllInner [] = ⊤
AllInner (b ∷ bs) = IsInner b × AllInner bs

later_inner : (xs ys : List ℕ) → AllInner (xs ++ ys) → AllInner ys
later_inner [] ys all = all
later_inner (x ∷ xs) ys all = later_inner xs ys all.1

-- The bytes of a character: one that can begin a character, and others that cannot.
record Spelling (bytes : List ℕ) : Type 0 where
  lead : ℕ
  others : List ℕ
  is : bytes ≡ lead ∷ others
  leads : IsInner lead → ⊥
  inner : AllInner others

spelling : (c : ℕ) → Spelling (encode_utf8 c)
spelling c = by (cases_lt c 128) (cases_lt c 2048) (cases_lt c 65536)
  where
    inner : (n : ℕ) → IsInner (128 + n % 64)
    inner n = (omega arith, omega arith)

    by : (c < 128) ⊎ (128 ≤ c) → (c < 2048) ⊎ (2048 ≤ c) → (c < 65536) ⊎ (65536 ≤ c)
        → Spelling (encode_utf8 c)
    by (inl h) _ _ =
        record {
          lead = c;
          others = [];
          is = encode_ascii c h;
          leads = λ i. omega (arith, h, i.0);
          inner = tt;
        }
    by (inr l) (inl h) _ =
        record {
          lead = 192 + c / 64;
          others = _;
          is = two_bytes c l h;
          leads = λ i. omega (arith, i.1);
          inner = (inner c, tt);
        }
    by (inr _) (inr l) (inl h) =
        record {
          lead = 224 + c / 4096;
          others = _;
          is = three_bytes c l h;
          leads = λ i. omega (arith, i.1);
          inner = (inner (c / 64), (inner c, tt));
        }
    by (inr _) (inr _) (inr l) =
        record {
          lead = 240 + c / 262144;
          others = _;
          is = four_bytes c l;
          leads = λ i. omega (arith, i.1);
          inner = (inner (c / 4096), (inner (c / 64), (inner c, tt)));
        }

pub characters_inside : (sought : List ℕ → Type 0)
    → ((xs : List ℕ) → sought xs → (c : ℕ) × (xs ≡ encode_utf8 c)) → NoneInside sought
characters_inside sought are [] inner rest p q some = omega (arith, some)
characters_inside sought are (x ∷ front) inner rest p q some =
    let whole = are ((x ∷ front) ++ (inner ++ rest)) p in
    let part = are inner q in
    let w = spelling whole.0 in
    let s = spelling part.0 in
    let behind : front ++ (inner ++ rest) ≡ w.others = same_others (whole.1 ∙ w.is) in
    let split : inner ++ rest ≡ s.lead ∷ (s.others ++ rest) = ap (λ l. l ++ rest) (part.1 ∙ s.is) in
    let P : List ℕ → Type 0 = λ l. AllInner l in
    let all : AllInner (s.lead ∷ (s.others ++ rest)) =
    subst P split (later_inner front (inner ++ rest) (subst P (sym behind) w.inner)) in
    s.leads all.0

-- ---- the needles

-- a single list
pub literal_stays : {T S : Type 0} (reading : Reading T S) (literal : List T)
    → StaysFirst reading.units (λ xs. xs ≡ literal)
literal_stays reading literal =
    stays_first reading (λ xs. xs ≡ literal)
    (one_length_inside (λ xs. xs ≡ literal) (λ xs ys p q. ap (λ l. length l) (p ∙ sym q)))

-- one of two tokens
pub two_stay : {T S : Type 0} (reading : Reading T S) (a b : T)
    → StaysFirst reading.units (λ xs. (xs ≡ a ∷ []) ⊎ (xs ≡ b ∷ []))
two_stay reading a b =
    stays_first reading (λ xs. (xs ≡ a ∷ []) ⊎ (xs ≡ b ∷ []))
    (one_length_inside (λ xs. (xs ≡ a ∷ []) ⊎ (xs ≡ b ∷ []))
    (λ xs ys p q. one xs p ∙ sym (one ys q)))
  where
    one : (xs : List _) → (xs ≡ a ∷ []) ⊎ (xs ≡ b ∷ []) → length xs ≡ 1
    one xs (inl e) = ap (λ l. length l) e
    one xs (inr e) = ap (λ l. length l) e

-- one of three tokens
pub three_stay : {T S : Type 0} (reading : Reading T S) (a b c : T)
    → StaysFirst reading.units (IsOneOfThree (a ∷ []) (b ∷ []) (c ∷ []))
three_stay reading a b c =
    stays_first reading (IsOneOfThree (a ∷ []) (b ∷ []) (c ∷ []))
    (one_length_inside (IsOneOfThree (a ∷ []) (b ∷ []) (c ∷ []))
    (λ xs ys p q. one xs p ∙ sym (one ys q)))
  where
    one : (xs : List _) → IsOneOfThree (a ∷ []) (b ∷ []) (c ∷ []) xs → length xs ≡ 1
    one xs (inl e) = ap (λ l. length l) e
    one xs (inr (inl e)) = ap (λ l. length l) e
    one xs (inr (inr e)) = ap (λ l. length l) e

-- the bytes of one of two characters
pub two_characters_stay : {S : Type 0} (reading : Reading ℕ S) (a b : ℕ)
    → StaysFirst reading.units (λ xs. (xs ≡ encode_utf8 a) ⊎ (xs ≡ encode_utf8 b))
two_characters_stay reading a b =
    stays_first reading (λ xs. (xs ≡ encode_utf8 a) ⊎ (xs ≡ encode_utf8 b))
    (characters_inside (λ xs. (xs ≡ encode_utf8 a) ⊎ (xs ≡ encode_utf8 b)) are)
  where
    are : (xs : List ℕ) → (xs ≡ encode_utf8 a) ⊎ (xs ≡ encode_utf8 b)
        → (c : ℕ) × (xs ≡ encode_utf8 c)
    are xs (inl e) = (a, e)
    are xs (inr e) = (b, e)

-- the bytes of one of three characters
pub three_characters_stay : {S : Type 0} (reading : Reading ℕ S) (a b c : ℕ)
    → StaysFirst reading.units (IsOneOfThree (encode_utf8 a) (encode_utf8 b) (encode_utf8 c))
three_characters_stay reading a b c =
    stays_first reading (IsOneOfThree (encode_utf8 a) (encode_utf8 b) (encode_utf8 c))
    (characters_inside (IsOneOfThree (encode_utf8 a) (encode_utf8 b) (encode_utf8 c)) are)
  where
    are : (xs : List ℕ) → IsOneOfThree (encode_utf8 a) (encode_utf8 b) (encode_utf8 c) xs
        → (d : ℕ) × (xs ≡ encode_utf8 d)
    are xs (inl e) = (a, e)
    are xs (inr (inl e)) = (b, e)
    are xs (inr (inr e)) = (c, e)
