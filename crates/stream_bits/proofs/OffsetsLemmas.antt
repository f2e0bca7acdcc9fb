-- The bits that an iterator has still to give, each with its offset.
use Rattle.std.specs.Prelude.{◌≡◌, ℕ, suc, ◌+◌, ◌*◌, ◌-◌, ◌/◌, ◌%◌, ◌<◌, ◌≤◌, ◌^◌}
use Rattle.std.specs.Prelude.{◌==◌, Bool, true}
use Rattle.std.specs.Prelude.{false}
use Rattle.std.specs.Prelude.{List, [], ◌∷◌, ◌++◌, length, map, drop}
use Rattle.std.proofs.Common.{refl, sym, ap, ◌∙◌, arith, length-append, append_assoc}
use Rattle.std.proofs.lemmas.List.{drop-append-le, drop_at}
use Rattle.streams.specs.Equal.{same_first, same_others}
use Rattle.streams.specs.Stream.{with_offsets}
use Rattle.stream_bits.specs.BitList.{bits_cons, bits_nil, bits_of, length_bits, length_low}
use Rattle.stream_bits.specs.BitList.{low_bits}
use Rattle.stream_bits.specs.BitList.{low_split}
use Rattle.stream_bits.specs.Offsets.{bytes_to_come, bits_to_come}

pub bytes_with_offsets : (units : List ℕ → ℕ) (start : ℕ) (bytes : List ℕ)
    → bytes_to_come (with_offsets units start bytes) ≡ bytes
bytes_with_offsets units start [] = refl
bytes_with_offsets units start (b ∷ bs) =
    ap (λ l. b ∷ l) (bytes_with_offsets units (start + units (b ∷ [])) bs)

-- no bit of a byte is ahead
pub none_ahead : (bytes : List (ℕ × ℕ)) (begun : ℕ)
    → bits_to_come true bytes begun 0 ≡ bits_of (bytes_to_come bytes)
unfolding low_bits
none_ahead bytes begun = refl

length_coming : (bytes : List (ℕ × ℕ)) → length (bytes_to_come bytes) ≡ length bytes
length_coming [] = refl
length_coming (b ∷ bs) = ap suc (length_coming bs)

pub length_to_come : (possible : Bool) (bytes : List (ℕ × ℕ)) (begun ahead : ℕ)
    → length (bits_to_come possible bytes begun ahead) ≤ ahead + 8 * length bytes
length_to_come true bytes begun ahead =
    omega (
      arith,
      length-append (low_bits ahead begun) (bits_of (bytes_to_come bytes)),
      length_low ahead begun,
      length_bits (bytes_to_come bytes),
      length_coming bytes,
    )
length_to_come false bytes begun ahead = omega arith

pub next_bit : (possible : Bool) (bytes : List (ℕ × ℕ)) (begun ahead : ℕ) → possible ≡ true
    → (ahead ≡ 0 → ⊥)
    → bits_to_come possible bytes begun ahead
    ≡ (begun / 2 ^ (ahead - 1) % 2 == 1) ∷ bits_to_come possible bytes begun (ahead - 1)
unfolding low_bits
next_bit true bytes begun ahead p some =
    let more : ahead ≡ suc (ahead - 1) = omega (arith, some) in
    ap (λ n. low_bits n begun ++ bits_of (bytes_to_come bytes)) more
next_bit false bytes begun ahead p some = absurd (cc)

-- the first bit of the next byte
pub next_byte : (possible : Bool) (bytes rest : List (ℕ × ℕ)) (begun ahead offset b : ℕ)
    → possible ≡ true → ahead ≡ 0 → bytes ≡ (offset, b) ∷ rest
    → bits_to_come possible bytes begun ahead
    ≡ (b / 2 ^ 7 % 2 == 1) ∷ bits_to_come possible rest b 7
unfolding low_bits
next_byte true bytes rest begun ahead offset b p none first =
    ap (λ n. bits_to_come true bytes begun n) none ∙ none_ahead bytes begun
    ∙ ap (λ l. bits_of (bytes_to_come l)) first ∙ bits_cons b (bytes_to_come rest)
next_byte false bytes rest begun ahead offset b p none first = absurd (cc)

pub last_bit : (possible : Bool) (bytes : List (ℕ × ℕ)) (begun ahead : ℕ) → ahead ≡ 0
    → bytes ≡ [] → bits_to_come possible bytes begun ahead ≡ []
last_bit true bytes begun ahead none nothing =
    ap (λ n. bits_to_come true bytes begun n) none ∙ none_ahead bytes begun
    ∙ ap (λ l. bits_of (bytes_to_come l)) nothing ∙ bits_nil
last_bit false bytes begun ahead none nothing = refl

-- the bits after some of the first byte
pub first_begun : (bytes rest : List (ℕ × ℕ)) (offset b read : ℕ) → read < 8
    → bytes ≡ (offset, b) ∷ rest
    → bits_to_come true rest b (8 - read) ≡ drop read (bits_of (bytes_to_come bytes))
first_begun bytes rest offset b read inside first =
    let there : read ≤ length (low_bits 8 b) = omega (arith, inside, length_low 8 b) in
    let parts : 8 ≡ read + (8 - read) = omega (arith, inside) in
    sym (ap (λ l. drop read (bits_of (bytes_to_come l))) first
    ∙ ap (λ l. drop read l) (bits_cons b (bytes_to_come rest))
    ∙ drop-append-le read (low_bits 8 b) (bits_of (bytes_to_come rest)) there
    ∙ ap (λ n. drop read (low_bits n b) ++ bits_of (bytes_to_come rest)) parts
    ∙ ap (λ l. drop read l ++ bits_of (bytes_to_come rest)) (low_split read (8 - read) b)
    ∙ ap (λ l. l ++ bits_of (bytes_to_come rest))
    (drop_at (low_bits read (b / 2 ^ (8 - read))) (low_bits (8 - read) b) read
    (length_low read (b / 2 ^ (8 - read)))))

-- `IsTokenAt all before start offset t`: in `all`, `t` follows the tokens of `before`. Its offset
-- is
-- `offset`, counted from `start`.
pub record IsTokenAt {T : Type 0} (all : List T) (before : List (ℕ × T)) (start offset : ℕ) (t : T)
    : Type 0 where
  pub rest : List T
  pub splits : all ≡ map (λ x. x.1) before ++ t ∷ rest
  pub at : offset ≡ start + length (map (λ (x : ℕ × T). x.1) before)

pub stands_at : {T : Type 0} (start : ℕ) (all : List T) (before : List (ℕ × T)) (offset : ℕ)
    (t : T) (behind : List (ℕ × T))
    → with_offsets length start all ≡ before ++ (offset, t) ∷ behind
    → IsTokenAt all before start offset t
stands_at start [] [] offset t behind e = absurd (cc)
stands_at start [] (b ∷ before) offset t behind e = absurd (cc)
stands_at start (x ∷ xs) [] offset t behind e =
    let first : ◌≡◌ {A = ℕ × _} (start, x) (offset, t) = same_first e in
    record {
      rest = xs;
      splits = ap (λ (p : ℕ × _). p.1 ∷ xs) first;
      at = omega (arith, ap (λ (p : ℕ × _). p.0) first);
    }
stands_at start (x ∷ xs) (b ∷ before) offset t behind e =
    let first : ◌≡◌ {A = ℕ × _} (start, x) b = same_first e in
    let inner = stands_at (start + 1) xs before offset t behind (same_others e) in
    record {
      rest = inner.rest;
      splits = ap (λ l. x ∷ l) inner.splits
          ∙ ap (λ (p : ℕ × _). p.1 ∷ (map (λ y. y.1) before ++ t ∷ inner.rest)) first;
      at = omega (arith, inner.at);
    }

-- where all are given, they are the tokens
pub tokens_given : {T : Type 0} (start : ℕ) (all : List T)
    → map (λ (x : ℕ × T). x.1) (with_offsets length start all) ≡ all
tokens_given start [] = refl
tokens_given start (x ∷ xs) = ap (λ l. x ∷ l) (tokens_given (start + 1) xs)

-- the same bits, from the start on
pub same_from_start : {T : Type 0} (bits others : List T) (offset : ℕ) → offset ≡ 0
    → bits ≡ others → with_offsets length offset bits ≡ with_offsets length 0 others
same_from_start bits others offset start same =
    ap (λ n. with_offsets length n bits) start ∙ ap (λ l. with_offsets length 0 l) same

-- an item of the stream inside is a byte with an offset
pub byte_given : (seen b offset : ℕ) (bytes rest : List (ℕ × ℕ)) → seen ≡ b
    → bytes ≡ (offset, seen) ∷ rest → bytes ≡ (offset, b) ∷ rest
byte_given seen b offset bytes rest is first = first ∙ ap (λ x. (offset, x) ∷ rest) is

-- one item more is given
pub given_more : {T : Type 0} (all before : List (ℕ × T)) (offset : ℕ) (t : T)
    (behind rest : List (ℕ × T)) → all ≡ before ++ behind → behind ≡ (offset, t) ∷ rest
    → all ≡ (before ++ (offset, t) ∷ []) ++ rest
given_more all before offset t behind rest splits first =
    splits ∙ ap (λ l. before ++ l) first ∙ sym (append_assoc before ((offset, t) ∷ []) rest)
