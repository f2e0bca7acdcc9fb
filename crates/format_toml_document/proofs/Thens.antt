-- Texts that begin with an encoding: what is known of the rest is known of the whole.
use Rattle.std.specs.Prelude.{◌≡◌, ◌≤◌, ◌<◌, ◌+◌, ◌*◌, ◌^◌, ◌==◌, ◌&&◌, ⊤, ℕ, Bool, []}
use Rattle.std.specs.Prelude.{true, false, List, ◌∷◌, ◌++◌, length, Option, Some, None}
use Rattle.std.specs.Char.{IsScalar, len_utf8}
use Rattle.std.specs.Str.{all_scalars, encode_utf8_all}
use Rattle.std.specs.declared.string.String.{String}
use Rattle.std.specs.declared.vec.Vec.{Vec}
use Rattle.std.proofs.Common.{refl, sym, ap, subst, inl, inr, ◌∙◌, arith, append_assoc}
use Rattle.std.proofs.Common.{length-append}
use Rattle.std.proofs.StringFromBytes.{spelled}
use Rattle.std.proofs.lemmas.Bool.Decides.{nat_tests}
use Rattle.std.proofs.lemmas.List.Elements.{All-cons, All-nil}
use Rattle.std.proofs.lemmas.List.Sums.{sum_by-cons}
use Rattle.std.proofs.lemmas.Str.{len_utf8_bounds}
use denote.RawPtr.{null_ptr}
use Rattle.grammars.specs.Texts.{AtLeast, BothText, EachText, EitherText, GatheredText, InList}
use Rattle.grammars.specs.Texts.{MadeText, Members, OptionalText, PartedText, Spelled, Text}
use Rattle.grammars.specs.Texts.{TokenOfText}
use Rattle.format_parts.specs.Words.{For, One, Run, Slice}
use Rattle.format_toml.specs.Statements.{stated}
use Rattle.stream_sets.specs.Accumulator.Holds.{HasCharacters}
use Rattle.streams.specs.Text.{length_encodes, text_reading, width}

-- ---- characters that fit a string

pub record Fits (l : List ℕ) : Type 0 where
  pub scalars : all_scalars l ≡ true
  pub few : length l < 2 ^ 60

pub equal : (c n : ℕ) → (c == n) ≡ true → c ≡ n
equal c n e = grind (arith, nat_tests, e)

pub both_true : (a b : Bool) → (a && b) ≡ true → (a ≡ true) × (b ≡ true)
both_true true b h = (refl, h)
both_true false b h = (h, cc)

pub and_true : (a b : Bool) → a ≡ true → b ≡ true → (a && b) ≡ true
and_true true b e f = f
and_true false b e f = e

pub scalars_parts : (xs ys : List ℕ) → all_scalars (xs ++ ys) ≡ true
    → (all_scalars xs ≡ true) × (all_scalars ys ≡ true)
scalars_parts [] ys h = (refl, h)
scalars_parts (x ∷ xs) ys h =
    let (one, more) = both_true _ (all_scalars (xs ++ ys)) h in
    let (front, rest) = scalars_parts xs ys more in (and_true _ (all_scalars xs) one front, rest)

pub fit_parts : (l xs ys : List ℕ) → l ≡ xs ++ ys → Fits l → Fits xs × Fits ys
fit_parts l xs ys e fits =
    let (one, two) = scalars_parts xs ys
    (rw e at fits.scalars) in
    let size = ap (λ k. length k) e ∙ length-append xs ys in
    let front : Fits xs = record { scalars = one; few = omega (arith, size, fits.few) } in
    (front, record { scalars = two; few = omega (arith, size, fits.few) })

width_most : (os : List ℕ) → width os ≤ 4 * length os
width_most [] = omega arith
width_most (o ∷ os) =
    omega (arith, sum_by-cons len_utf8 o os, (len_utf8_bounds o).1, width_most os)

module _ {A : Type 0} (alloc : A) where
  pub string_for : (os : List ℕ) → all_scalars os ≡ true → length os < 2 ^ 60
      → (s : String A) × HasCharacters s os
  string_for os scalars few =
      let small : length (encode_utf8_all os) < 2 ^ 63 =
      omega (arith, length_encodes os, width_most os, few) in
      (spelled alloc (encode_utf8_all os) ∣ (os, (scalars, refl)) ∣₁ small, refl)

  pub list_for : {O : Type 0} (os : List O) → length os < 2 ^ 63
      → (list : Vec O A) × (list.items ≡ os)
  list_for os few = (
    record {
      ptr = null_ptr;
      len = length os;
      cap = length os;
      alloc = alloc;
      items = os;
      ok = (refl, omega arith);
      small = omega (arith, few);
    },
    refl,
  )

-- ---- an encoding, and then the rest

-- `Then text K l`: `l` begins with an encoding by `text`, and the rest satisfies `K`.
pub record Then {O : Type 0} (text : Text ℕ O) (K : List ℕ → Type 0) (l : List ℕ) : Type 0 where
  pub value : O
  pub front : List ℕ
  pub rest : List ℕ
  pub is : text value front
  pub splits : l ≡ front ++ rest
  pub kept : K rest

abbrev pub parts : {O : Type 0} {text : Text ℕ O} {K : List ℕ → Type 0} {l : List ℕ}
    → Then text K l
    → (o : O) × (xs : List ℕ) × (ys : List ℕ) × text o xs × (l ≡ xs ++ ys) × K ys
parts t = (t.value, t.front, t.rest, t.is, t.splits, t.kept)

pub to : {O : Type 0} {text : Text ℕ O} {K : List ℕ → Type 0} {l : List ℕ} (o : O)
    (xs ys : List ℕ) → text o xs → l ≡ xs ++ ys → K ys → Then text K l
to o xs ys x e k = record { value = o; front = xs; rest = ys; is = x; splits = e; kept = k }

-- `l` begins with characters that satisfy `P`, and the rest satisfies `K`.
abbrev pub Front : (List ℕ → Type 0) → (List ℕ → Type 0) → List ℕ → Type 0
Front P K l = Then (λ (o : ⊤) xs. P xs) K l

pub more_front : {P Q K : List ℕ → Type 0} {l : List ℕ} (c : ℕ)
    → ((xs : List ℕ) → P xs → Q (c ∷ xs)) → Front P K l → Front Q K (c ∷ l)
more_front c more t =
    let (o, xs, ys, is, e, k) = parts t in to tt (c ∷ xs) ys (more xs is) (ap (λ m. c ∷ m) e) k

module _ {O : Type 0} {text : Text ℕ O} {K : List ℕ → Type 0} {l : List ℕ} where
  pub behind : {J : List ℕ → Type 0} → Fits l → ((ys : List ℕ) → Fits ys → K ys → J ys)
      → Then text K l → Then text J l
  behind fits more t =
      let (o, xs, ys, x, e, k) = parts t in
      to o xs ys x e (more ys (fit_parts l xs ys e fits).1 k)

  pub left : (other : Text ℕ O) → Then text K l → Then (EitherText text other) K l
  unfolding EitherText
  left other t = let (o, xs, ys, x, e, k) = parts t in to o xs ys (inl x) e k

  pub right : (other : Text ℕ O) → Then text K l → Then (EitherText other text) K l
  unfolding EitherText
  right other t = let (o, xs, ys, x, e, k) = parts t in to o xs ys (inr x) e k

  pub some : Then text K l → Then (OptionalText text) K l
  unfolding OptionalText
  some t = let (o, xs, ys, x, e, k) = parts t in to (Some o) xs ys x e k

  pub cons : Then text (Then (EachText text) K) l → Then (EachText text) K l
  unfolding EachText
  cons t =
      let (o, xs, ys, x, e, s) = parts t in
      let (os, zs, ws, y, g, k) = parts s in
      to (o ∷ os) (xs ++ zs) ws (xs, zs, x, y, refl)
      (e ∙ ap (λ l. xs ++ l) g ∙ sym (append_assoc xs zs ws)) k

  pub for : {U : Type 0} (means : O → U → Type 0) → ((o : O) → (u : U) × means o u)
      → Then text K l → Then (For means text) K l
  unfolding MadeText
  for means meant t =
      let (o, xs, ys, x, e, k) = parts t in
      let (u, is) = meant o in to u xs ys (o, x, is) e k

module _ {O : Type 0} (text : Text ℕ O) {K : List ℕ → Type 0} {l : List ℕ} where
  pub none : K l → Then (OptionalText text) K l
  unfolding OptionalText
  none k = to None [] l refl refl k

  pub nil : K l → Then (EachText text) K l
  unfolding EachText
  nil k = to [] [] l refl refl k

pub both : {O P Q : Type 0} (output : O → P → Q) {one : Text ℕ O} {two : Text ℕ P}
    {K : List ℕ → Type 0} {l : List ℕ} → Then one (Then two K) l
    → Then (BothText output one two) K l
unfolding BothText
both output t =
    let (o, xs, ys, x, e, s) = parts t in
    let (p, zs, ws, y, g, k) = parts s in
    to (output o p) (xs ++ zs) ws (o, p, xs, zs, x, y, refl, refl)
    (e ∙ ap (λ l. xs ++ l) g ∙ sym (append_assoc xs zs ws)) k

-- ---- characters

slice_for : (xs : List ℕ) → (slice : Slice) × text_reading.shows slice xs
slice_for xs = (record { ref_ptr = (0, 0); now = encode_utf8_all xs }, refl)

module _ {K : List ℕ → Type 0} {l : List ℕ} where
  pub one : (c : ℕ) → K l → Then (One c) K (c ∷ l)
  unfolding Spelled
  one c k = to c (c ∷ []) l (refl, refl) refl k

  pub token : (class : ℕ → Type 0) (c : ℕ) → class c → K l
      → Then (TokenOfText (λ c. c) class) K (c ∷ l)
  unfolding TokenOfText
  token class c is k = to c (c ∷ []) l (is, refl) refl k

  pub run_none : (class : ℕ → Type 0) → K l → Then (Run class 0) K l
  unfolding Run
  run_none class k =
      let (slice, shown) = slice_for [] in
      to slice [] l (All-nil class, omega arith, shown) refl k

  pub run_more : (class : ℕ → Type 0) (c : ℕ) → class c → Then (Run class 0) K l
      → Then (Run class 0) K (c ∷ l)
  unfolding Run
  run_more class c in-class t =
      let (s, xs, ys, x, e, k) = parts t in
      let (slice, shown) = slice_for (c ∷ xs) in
      to slice (c ∷ xs) ys (All-cons class c xs in-class x.0, omega arith, shown)
      (ap (λ l. c ∷ l) e) k

  -- the same, as the two texts are one
  pub members_none : (class : ℕ → Type 0) → K l → Then (Members text_reading class 0) K l
  unfolding Members Run
  members_none class k = run_none class k

  pub members_more : (class : ℕ → Type 0) (c : ℕ) → class c
      → Then (Members text_reading class 0) K l → Then (Members text_reading class 0) K (c ∷ l)
  unfolding Members Run
  members_more class c in-class t = run_more class c in-class t

-- ---- strings

-- the characters that a row is for are no more than its own
pub record Spells (row : Text ℕ (List ℕ)) : Type 0 where
  pub few : (os xs : List ℕ) → row os xs → all_scalars xs ≡ true
      → (all_scalars os ≡ true) × (length os ≤ length xs)

pub record Emits (text : Text ℕ ℕ) : Type 0 where
  pub is : (o : ℕ) (xs : List ℕ) → text o xs → all_scalars xs ≡ true
      → IsScalar o × (1 ≤ length xs)

pub each_spells : {text : Text ℕ ℕ} → Emits text → Spells (EachText text)
unfolding EachText
each_spells {text} emits = record { few = few }
  where
    few : (os xs : List ℕ) → EachText text os xs → all_scalars xs ≡ true
        → (all_scalars os ≡ true) × (length os ≤ length xs)
    few [] xs e scalars = (refl, omega arith)
    few (o ∷ os) xs (ys, zs, x, more, e) scalars =
        let (one, two) = scalars_parts ys zs (rw e at scalars) in
        let (is, long) = emits.is o ys x one in
        let (all, fewer) = few os zs more two in (
          and_true _ (all_scalars os) is all,
          omega (arith, long, fewer, ap (λ k. length k) e, length-append ys zs),
        )

pub token_emits : (class : ℕ → Type 0) → Emits (TokenOfText (λ c. c) class)
unfolding TokenOfText
token_emits class = record {
  is = λ o xs (in-class, e) scalars.
      ((both_true _ true (rw e at scalars)).0, omega (arith, ap (λ k. length k) e));
}

pub gathered_text : {A : Type 0} (alloc : A) {row : Text ℕ (List ℕ)} (os xs : List ℕ) → Fits xs
    → Spells row → row os xs → (s : String A) × GatheredText (HasCharacters {A = A}) row s xs
unfolding GatheredText
gathered_text alloc os xs fits spells x =
    let (scalars, few) = spells.few os xs x fits.scalars in
    let (s, holds) = string_for alloc os scalars (omega (arith, few, fits.few)) in
    (s, (os, holds, x))

pub gathered : {A : Type 0} (alloc : A) {row : Text ℕ (List ℕ)} {K : List ℕ → Type 0} {l : List ℕ}
    → Fits l → Spells row → Then row K l → Then (GatheredText (HasCharacters {A = A}) row) K l
gathered alloc {l = l} fits spells t =
    let (os, xs, ys, x, e, k) = parts t in
    let (s, text) = gathered_text alloc os xs (fit_parts l xs ys e fits).0 spells x in
    to s xs ys text e k

-- ---- lists

-- the items of a row are at most one more than its characters
pub record Counts {O : Type 0} (row : Text ℕ (List O)) : Type 0 where
  pub few : (os : List O) (xs : List ℕ) → row os xs → length os ≤ 1 + length xs

pub listed : {O A : Type 0} (alloc : A) {row : Text ℕ (List O)} {K : List ℕ → Type 0} {l : List ℕ}
    → Fits l → Counts row → Then row K l → Then (InList {A = A} row) K l
unfolding InList
listed alloc {row} {l = l} fits counts t =
    let (os, xs, ys, x, e, k) = parts t in
    let front = (fit_parts l xs ys e fits).0 in
    let (list, is) = list_for alloc os (omega (arith, counts.few os xs x, front.few)) in
    to list xs ys (subst (λ os. row os xs) (sym is) x) e k

-- the statements of lines are at most as many
stated_few : {X : Type 0} (lines : List (Option X)) → length (stated lines) ≤ length lines
stated_few [] = omega arith
stated_few (None ∷ lines) = let few = stated_few lines in omega (arith, few)
stated_few (Some x ∷ lines) = let few = stated_few lines in omega (arith, few)

pub stated_listed : {X A : Type 0} (alloc : A) {row : Text ℕ (List (Option X))}
    {K : List ℕ → Type 0} {l : List ℕ} → Fits l → Counts row → Then row K l
    → Then (GatheredText (λ (list : Vec X A) lines. list.items ≡ stated lines) row) K l
unfolding GatheredText
stated_listed alloc {l = l} fits counts t =
    let (lines, xs, ys, x, e, k) = parts t in
    let front = (fit_parts l xs ys e fits).0 in
    let (list, is) = list_for alloc (stated lines)
    (omega (arith, stated_few lines, counts.few lines xs x, front.few)) in
    to list xs ys (lines, is, x) e k

pub record Long {D : Type 0} (separator : Text ℕ D) : Type 0 where
  pub some : (d : D) (xs : List ℕ) → separator d xs → 1 ≤ length xs

module _ {O D : Type 0} {separator : Text ℕ D} (text : Text ℕ O) where
  each_few : Long separator → (os : List O) (xs : List ℕ)
      → EachText (BothText (λ d o. o) separator text) os xs → length os ≤ length xs
  unfolding EachText BothText
  each_few long [] xs e = omega arith
  each_few long (o ∷ os) xs (ys, zs, (d, p, us, vs, x, y, f, g), more, e) =
      omega (
        arith,
        long.some d us x,
        each_few long os zs more,
        ap (λ k. length k) e,
        ap (λ k. length k) f,
        length-append ys zs,
        length-append us vs,
      )

  pub parted_counts : Long separator → Counts (PartedText separator text)
  unfolding PartedText
  parted_counts long = record { few = few }
    where
      few : (os : List O) (xs : List ℕ) → PartedText separator text os xs
          → length os ≤ 1 + length xs
      few [] xs e = omega arith
      few (o ∷ os) xs (ys, zs, x, more, e) =
          omega (
            arith,
            each_few long os zs more,
            ap (λ k. length k) e,
            length-append ys zs,
          )

  pub least_counts : Long separator → Counts (AtLeast 1 (PartedText separator text))
  least_counts long = record { few = λ os xs x. (parted_counts long).few os xs x.0 }

module _ {O D : Type 0} (separator : Text ℕ D) (text : Text ℕ O) {K : List ℕ → Type 0}
    {l : List ℕ} where
  -- the first of some, and the others
  pub parted : Then text (Then (EachText (BothText (λ d o. o) separator text)) K) l
      → Then (AtLeast 1 (PartedText separator text)) K l
  unfolding PartedText
  parted t =
      let (o, xs, ys, x, e, s) = parts t in
      let (os, zs, ws, y, g, k) = parts s in
      to (o ∷ os) (xs ++ zs) ws ((xs, zs, x, y, refl), omega arith)
      (e ∙ ap (λ l. xs ++ l) g ∙ sym (append_assoc xs zs ws)) k

  pub parted_any : Then (AtLeast 1 (PartedText separator text)) K l
      → Then (PartedText separator text) K l
  parted_any t = let (os, xs, ys, x, e, k) = parts t in to os xs ys x.0 e k

  pub parted_none : K l → Then (PartedText separator text) K l
  unfolding PartedText
  parted_none k = to [] [] l refl refl k

  -- some after a separator are others
  pub others : Then separator (Then (AtLeast 1 (PartedText separator text)) K) l
      → Then (EachText (BothText (λ d o. o) separator text)) K l
  unfolding EachText BothText PartedText
  others t =
      let (d, xs, ys, x, e, s) = parts t in
      let (os, zs, ws, y, g, k) = parts s in
      more d xs zs os ws x y.0 y.1 (e ∙ ap (λ l. xs ++ l) g ∙ sym (append_assoc xs zs ws)) k
    where
      more : (d : D) (xs zs : List ℕ) (os : List O) (ws : List ℕ) → separator d xs
          → PartedText separator text os zs → 1 ≤ length os → l ≡ (xs ++ zs) ++ ws → K ws
          → Then (EachText (BothText (λ d o. o) separator text)) K l
      more d xs zs [] ws x y least e k = absurd (omega (arith, least))
      more d xs zs (o ∷ os) ws x (us, vs, y, rest, f) least e k =
          to (o ∷ os) (xs ++ zs) ws (
            xs ++ us,
            vs,
            (d, o, xs, us, x, y, refl, refl),
            rest,
            ap (λ l. xs ++ l) f ∙ sym (append_assoc xs us vs),
          ) e k
