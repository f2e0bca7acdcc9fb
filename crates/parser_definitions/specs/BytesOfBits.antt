-- The definition of `bytes`: a parser of bytes on the whole bytes of bits.
use Rattle.std.specs.Prelude.{◌≡◌, ◌<◌, ◌≤◌, ◌*◌, ◌+◌, ◌^◌, ℕ, suc, Bool, true, false, List, []}
use Rattle.std.specs.Prelude.{◌∷◌, ◌++◌, length, take, drop, Option, Some, None, nat_lt}
use Rattle.std.specs.Prelude.{if◌then◌else◌}
use Rattle.std.specs.List.{All}
use Rattle.std.proofs.Common.{refl, sym, ap, subst, inl, inr, arith, ◌∙◌, append_assoc}
use Rattle.std.proofs.Common.{length-append}
use Rattle.std.proofs.lemmas.List.{drop_at, take_at}
use Rattle.std.proofs.lemmas.List.Elements.{All-append}
use Rattle.streams.specs.Equal.{same_front, same_rest, true_is_false}
use Rattle.streams.specs.Following.{most_bytes}
use Rattle.streams.specs.Reading.{Reading}
use Rattle.stream_bits.specs.BitList.{bits_append, bits_cons, bits_of, length_bits, length_low}
use Rattle.stream_bits.specs.BitList.{low_bits, same_byte}
use Rattle.parser_definitions.specs.BitsOfBytes.{bits_left, inside}
use Rattle.parser_definitions.specs.Cases.{OneCase, cases_law}
use Rattle.parser_definitions.specs.Does.{Lawful}
use Rattle.parser_definitions.specs.Left.{End, Left, extend}
use Rattle.parser_definitions.specs.Outcome.{Alike, Does, IsFinal, Outcome, Setting, alike_wants}
use Rattle.parser_definitions.specs.Outcome.{as_longer, asks, backs, both, by_alike, cuts, final_by}
use Rattle.parser_definitions.specs.Outcome.{grown, longer, on_cut, took, wants}
use Rattle.parser_definitions.specs.Passed.{same_left}
use Rattle.parser_definitions.specs.Unreadable.{MisusedAt, misused_at_law}

-- a need of `n` bytes in bits, if it is below 2^64
abbrev pub need_in_bits : Option ℕ → Option ℕ
need_in_bits None = None
need_in_bits (Some n) = if nat_lt (8 * n) (2 ^ 64) then Some (8 * n) else None

-- `bytes` is the remaining whole bytes: the remaining bits of a partly consumed byte are skipped.
pub record AreWholeBytes {L : Type 0} (reading : Reading Bool L) (w : Left Bool) (bytes : Left ℕ)
    : Type 0 where
  pub begun : List Bool
  pub short : length begun < 8
  pub splits : w.tokens ≡ begun ++ bits_of bytes.tokens
  pub place : bytes.place ≡ reading.advance w.place (length begun)
  pub recorded : bytes.recorded ≡ w.recorded
  pub are : All (λ b. b < 256) bytes.tokens
  pub counted : length bytes.tokens ≤ most_bytes

-- lists of bytes with equal bits are equal
same_bytes : (xs ys : List ℕ) → All (λ b. b < 256) xs → All (λ b. b < 256) ys
    → bits_of xs ≡ bits_of ys → xs ≡ ys
same_bytes [] [] known others e = refl
same_bytes [] (y ∷ ys) known others e =
    absurd (omega (arith, ap (λ l. length l) e, length_bits [], length_bits (y ∷ ys)))
same_bytes (x ∷ xs) [] known others e =
    absurd (omega (arith, ap (λ l. length l) e, length_bits [], length_bits (x ∷ xs)))
same_bytes (x ∷ xs) (y ∷ ys) known others e =
    let split : low_bits 8 x ++ bits_of xs ≡ low_bits 8 y ++ bits_of ys =
    sym (bits_cons x xs) ∙ e ∙ bits_cons y ys in
    let first = sym (take_at (low_bits 8 x) (bits_of xs) 8 (length_low 8 x))
    ∙ ap (λ l. take 8 l) split ∙ take_at (low_bits 8 y) (bits_of ys) 8 (length_low 8 y) in
    let rest = sym (drop_at (low_bits 8 x) (bits_of xs) 8 (length_low 8 x))
    ∙ ap (λ l. drop 8 l) split ∙ drop_at (low_bits 8 y) (bits_of ys) 8 (length_low 8 y) in
    ap (λ b. b ∷ xs)
    (same_byte x y (known 0 0 (omega arith)) (others 0 0 (omega arith)) first)
    ∙ ap (λ l. y ∷ l)
    (same_bytes xs ys (λ n d h. known (suc n) d (omega (arith, h)))
    (λ n d h. others (suc n) d (omega (arith, h))) rest)

module _ {L : Type 0} (reading : Reading Bool L) where
  -- the whole bytes are unique
  one_whole : (w : Left Bool) (a b : Left ℕ) → AreWholeBytes reading w a
      → AreWholeBytes reading w b → a ≡ b
  one_whole w a b p q =
      let long : length q.begun ≡ length p.begun = omega (
        arith,
        p.short,
        q.short,
        ap (λ l. length l) (sym p.splits ∙ q.splits),
        length-append p.begun (bits_of a.tokens),
        length-append q.begun (bits_of b.tokens),
        length_bits a.tokens,
        length_bits b.tokens,
      ) in
      let same = same_front q.begun p.begun (bits_of b.tokens) (bits_of a.tokens) long
      (sym q.splits ∙ p.splits) in
      same_left a b
      (same_bytes a.tokens b.tokens p.are q.are
      (same_rest p.begun (bits_of a.tokens) (bits_of b.tokens)
      (sym p.splits ∙ q.splits ∙ ap (λ l. l ++ bits_of b.tokens) same)))
      (p.place ∙ ap (λ n. reading.advance w.place n) (sym long) ∙ sym q.place)
      (p.recorded ∙ sym q.recorded)

  more_whole : (more : List ℕ) (w : Left Bool) (bytes : Left ℕ) → All (λ b. b < 256) more
      → length (bytes.tokens ++ more) ≤ most_bytes → AreWholeBytes reading w bytes
      → AreWholeBytes reading (extend (bits_of more) w) (extend more bytes)
  more_whole more w bytes are counted p = record {
    begun = p.begun;
    short = p.short;
    splits = ap (λ l. l ++ bits_of more) p.splits
        ∙ append_assoc p.begun (bits_of bytes.tokens) (bits_of more)
        ∙ ap (λ l. p.begun ++ l) (sym (bits_append bytes.tokens more));
    place = p.place;
    recorded = p.recorded;
    are = All-append (λ b. b < 256) bytes.tokens more p.are are;
    counted = counted;
  }

-- the outcome over bits, given that over their bytes: the bits of the remaining bytes remain, or
-- after an error no input is consumed
abbrev pub of_bytes : {S O : Type 0} → Left Bool → Outcome (End S ℕ) O → Outcome (End S Bool) O
of_bytes w (took o rest) = took o (rest.0, bits_left rest.1)
of_bytes w (backs rest) = backs (rest.0, w)
of_bytes w (cuts rest) = cuts (rest.0, w)
of_bytes w (asks need rest) = asks (need_in_bits need) (rest.0, w)
of_bytes w wants = wants

-- The offset is invalid.
abbrev pub CannotRead : {S : Type 0} → S → Setting → Left Bool → Type 0
CannotRead s at w = at.possible ≡ false

module _ {S L O : Type 0} (reading : Reading Bool L) where
  -- The child is called on the whole bytes.
  abbrev pub OnBytes : Does S ℕ O → Does S Bool O
  OnBytes does at s w y =
      (at.possible ≡ true) × (bytes : Left ℕ) × AreWholeBytes reading w bytes
      × (x : Outcome (End S ℕ) O) × does (inside at) s bytes x × (y ≡ of_bytes w x)

  abbrev pub BytesOfBitsDoes : Does S ℕ O → Does S Bool O
  BytesOfBitsDoes does =
      -- the outcome over the whole bytes
      OneCase (OnBytes does)
      -- the offset is invalid, and the child is not called
      (MisusedAt CannotRead)

  of_bytes_alike : (alike : O → O → Type 0) (w : Left Bool) (x y : Outcome (End S ℕ) O)
      → Alike alike x y → Alike alike (of_bytes w x) (of_bytes w y)
  of_bytes_alike alike w =
      by_alike {alike = alike} (λ x y. Alike alike (of_bytes w x) (of_bytes w y))
      (λ o p rest is. (is, refl)) (λ rest. refl) (λ rest. refl) (λ need rest. (refl, refl))
      (λ y. tt) (λ x. alike_wants alike (of_bytes w x))

  bytes_longer : (more : List ℕ) (w : Left Bool) (x : Outcome (End S ℕ) O)
      → longer (bits_of more) (of_bytes w x)
      ≡ of_bytes (extend (bits_of more) w) (longer more x)
  bytes_longer more w (took o rest) =
      let P : List Bool → Outcome (End S Bool) O =
      λ l. took o (rest.0, record (bits_left rest.1) { tokens = l }) in
      ap P (sym (bits_append rest.1.tokens more))
  bytes_longer more w (backs rest) = refl
  bytes_longer more w (cuts rest) = refl
  bytes_longer more w (asks need rest) = refl
  bytes_longer more w wants = refl

  bytes_final : (w : Left Bool) (x : Outcome (End S ℕ) O) → IsFinal (of_bytes w x) → IsFinal x
  bytes_final w (took o rest) final = tt
  bytes_final w (backs rest) final = tt
  bytes_final w (cuts rest) final = tt
  bytes_final w (asks need rest) final = final
  bytes_final w wants final = final

  module _ {stable : Type 0} {alike : O → O → Type 0} {does : Does S ℕ O}
      (law : Lawful stable alike does) where
    never_asks : (at : Setting) (s : S) (w : Left Bool) (bytes : Left ℕ) (need : Option ℕ)
        (last : End S Bool) → at.more ≡ false → (x : Outcome (End S ℕ) O)
        → does (inside at) s bytes x → asks need last ≡ of_bytes w x → ⊥
    never_asks at s w bytes need last is (took o rest) d e = absurd (cc)
    never_asks at s w bytes need last is (backs rest) d e = absurd (cc)
    never_asks at s w bytes need last is (cuts rest) d e = absurd (cc)
    never_asks at s w bytes need last is (asks other rest) d e =
        law.whole (inside at) s bytes other rest is d
    never_asks at s w bytes need last is wants d e = absurd (cc)

    -- Bits that are not whole bytes may follow, so no outcome is stable without a condition.
    pub bytes_of_bits_law : Lawful ⊥ alike (BytesOfBitsDoes does)
    bytes_of_bits_law = cases_law (record {
      one = λ at s w y z (can, a, p, x, d, e) (also, b, q, v, c, f).
          let P : Left ℕ → Type 0 = λ l. does (inside at) s l v in
          both alike e f (of_bytes_alike alike w x v
          (law.one (inside at) s a x v d (subst P (sym (one_whole reading w a b p q)) c)));
      whole = λ at s w need last is (can, bytes, p, x, d, e).
          never_asks at s w bytes need last is x d e;
      stays = λ never. absurd never;
    }) (misused_at_law CannotRead (λ never. absurd never))
        (λ at s w y z (can, bytes, p, x, d, e) (cannot, f). true_is_false (sym can ∙ cannot))

    -- A final outcome is unchanged if whole bytes follow and all bits can be counted.
    pub bytes_stay : stable → (more : List ℕ) (flag : Bool) (s : S) (w : Left Bool)
        (y : Outcome (End S Bool) O) → All (λ b. b < 256) more
        → length w.tokens + 8 * length more ≤ 8 * most_bytes → IsFinal y
        → BytesOfBitsDoes does on_cut s w y
        → BytesOfBitsDoes does (grown flag) s (extend (bits_of more) w) (longer (bits_of more) y)
    bytes_stay is more flag s w y are counted final (inl (can, bytes, p, x, d, e)) = inl (
      refl,
      extend more bytes,
      more_whole reading more w bytes are (omega (
        arith,
        counted,
        ap (λ l. length l) p.splits,
        length-append p.begun (bits_of bytes.tokens),
        length_bits bytes.tokens,
        length-append bytes.tokens more,
      )) p,
      longer more x,
      law.stays is more flag s bytes x (bytes_final w x (final_by e final)) d,
      as_longer (bits_of more) e ∙ bytes_longer more w x,
    )
    bytes_stay is more flag s w y are counted final (inr (cannot, e)) = true_is_false cannot
