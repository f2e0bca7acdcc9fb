-- Lemmas about the calls of the parsers of a pair's line.
use Rattle.std.proofs.Common.{◌≡◌, ◌≢◌, ◌<◌, ◌+◌, ◌∙◌, ◌⊎◌, ℕ, Bool, true, false, List, []}
use Rattle.std.proofs.Common.{◌∷◌}
use Rattle.std.proofs.Common.{◌++◌, length, None, Some, refl, ap, subst, arith, inl, inr}
use Rattle.std.proofs.Common.{length-append}
use Rattle.std.specs.List.{All}
use Rattle.std.proofs.lemmas.List.{append-nil}
use Rattle.winnow.specs.Equal.{same_some}
use Rattle.winnow.specs.Kind.{Kind}
use Rattle.winnow.specs.Longest.{IsLongest}
use Rattle.winnow.specs.Inversion.Takes.{TooFew, Took, none_first, took_all, took_stops}
use Rattle.winnow.specs.Left.{Left}
use Rattle.readers.specs.Pair.{IsKeyByte, IsPairLine, IsRefusedPair}
use Rattle.readers.proofs.PairLemmas.{refused_after_key, refused_after_line}

-- The four parsers of a line succeeded: the bytes that they consumed, and the rest.
pub record LineTaken (input k v x left : List ℕ) : Type 0 where
  pub some : 0 < length k
  pub keys : All IsKeyByte k
  pub values : All (λ b. b ≢ 10) v
  -- a line feed, or none
  pub feed : (x ≡ []) ⊎ (x ≡ 10 ∷ [])
  pub splits : input ≡ k ++ (61 ∷ (v ++ (x ++ left)))

-- at most one line feed
feed_end : (feed_set : ℕ → Bool → Type 0) (c left x : List ℕ)
    → ((b : ℕ) → feed_set b true → b ≡ 10) → IsLongest feed_set (Some 1) c x left
    → (x ≡ []) ⊎ (x ≡ 10 ∷ [])
feed_end feed_set c left [] is_feed feeds = inl refl
feed_end feed_set c left (y ∷ []) is_feed feeds =
    inr (ap (λ z. z ∷ []) (is_feed y (feeds.members 0 y (omega arith))))
feed_end feed_set c left (y ∷ (z ∷ xs)) is_feed feeds =
    let within = feeds.within in absurd (omega (arith, within))

pub line_taken : {key_set value_set feed_set : ℕ → Bool → Type 0} {k v x : List ℕ}
    {w a b c j : Left ℕ} → Took key_set 1 None w k a → a.tokens ≡ 61 ∷ b.tokens
    → Took value_set 0 None b v c → Took feed_set 0 (Some 1) c x j
    → ((b : ℕ) → key_set b true → IsKeyByte b) → ((b : ℕ) → value_set b true → b ≢ 10)
    → ((b : ℕ) → feed_set b true → b ≡ 10) → LineTaken w.tokens k v x j.tokens
line_taken {feed_set = feed_set} {k} {v} {x} {c = c} {j} keys mark values feeds is_key is_value
    is_feed = record {
      some = keys.enough;
      keys = took_all IsKeyByte is_key keys;
      values = took_all (λ y. y ≢ 10) is_value values;
      feed = feed_end feed_set c.tokens j.tokens x is_feed feeds.longest;
      splits = keys.longest.splits
          ∙ ap (λ l. k ++ l)
          (mark ∙ ap (λ l. 61 ∷ l)
          (values.longest.splits ∙ ap (λ l. v ++ l) feeds.longest.splits));
    }

-- the line was read to its end
pub line_read : (input k v x left : List ℕ) → LineTaken input k v x left → left ≡ []
    → IsPairLine input k v
line_read input k v x left line nothing = (
  x,
  line.some,
  line.keys,
  line.values,
  line.feed,
  line.splits
      ∙ ap (λ l. k ++ (61 ∷ (v ++ l))) (ap (λ l. x ++ l) nothing ∙ append-nil x),
)

pub line_stops : {value_set feed_set : ℕ → Bool → Type 0} {v x : List ℕ} {b c j : Left ℕ}
    → Took value_set 0 None b v c → Took feed_set 0 (Some 1) c x j
    → ((b : ℕ) → value_set b false → b ≡ 10) → ((b : ℕ) → feed_set b false → b ≢ 10)
    → (y : ℕ) (more : List ℕ) → j.tokens ≡ y ∷ more → x ≡ [] → ⊥
line_stops {j = j} values feeds not_value not_feed y more e none =
    elim (feeds.longest.stops y more e) [
      | inl stranger ↦ not_feed y stranger
          (took_stops (λ z. z ≡ 10) not_value values y more
          (feeds.longest.splits ∙ ap (λ l. l ++ j.tokens) none ∙ e))
      | inr full ↦ absurd (omega (arith, same_some full, ap (λ l. length l) none))
    ]

-- something follows the line
pub line_left : (input k v x left : List ℕ) (n : ℕ) → LineTaken input k v x left
    → ((y : ℕ) (more : List ℕ) → left ≡ y ∷ more → x ≡ [] → ⊥) → (left ≡ [] → ⊥)
    → n + length left ≡ length input → IsRefusedPair input n
line_left input k v x [] n line stops something at = absurd (something refl)
line_left input k v x (y ∷ more) n line stops something at = by_feed line.feed
  where
    by_feed : (x ≡ []) ⊎ (x ≡ 10 ∷ []) → IsRefusedPair input n
    by_feed (inl none) = absurd (stops y more refl none)
    by_feed (inr feed) =
        let split : input ≡ k ++ (61 ∷ (v ++ (10 ∷ (y ∷ more)))) =
        line.splits ∙ ap (λ l. k ++ (61 ∷ (v ++ (l ++ (y ∷ more))))) feed in
        let n_is : length (k ++ (61 ∷ (v ++ (10 ∷ [])))) ≡ n =
        omega (
          arith,
          at,
          ap (λ l. length l) split,
          length-append k (61 ∷ (v ++ (10 ∷ []))),
          length-append k (61 ∷ (v ++ (10 ∷ (y ∷ more)))),
          length-append v (10 ∷ []),
          length-append v (10 ∷ (y ∷ more)),
        ) in
        let P : ℕ → Type 0 = λ m. IsRefusedPair input m in
        subst P n_is (refused_after_line input k v more y split line.some line.keys line.values)

pub no_key : {key_set : ℕ → Bool → Type 0} {w left : Left ℕ} {k : Kind} {n : ℕ}
    → TooFew key_set 1 None w k left → n + length left.tokens ≡ length w.tokens
    → ((b : ℕ) → key_set b false → IsKeyByte b → ⊥) → IsRefusedPair w.tokens n
no_key {w = w} {n = n} few at not_key =
    let zero_at : 0 ≡ n = omega (arith, at, ap (λ l. length l.tokens) few.stays) in
    let P : ℕ → Type 0 = λ m. IsRefusedPair w.tokens m in
    subst P zero_at (refused_after_key w.tokens [] w.tokens refl (λ k d h. absurd (omega arith))
    (λ y more e. (none_first (λ b. IsKeyByte b → ⊥) not_key few y more e, inl refl)))

-- no mark follows the key
pub no_mark : {key_set : ℕ → Bool → Type 0} {k : List ℕ} {w a left : Left ℕ} {n : ℕ}
    → Took key_set 1 None w k a → ((rest : List ℕ) → a.tokens ≡ 61 ∷ rest → ⊥) → left ≡ a
    → n + length left.tokens ≡ length w.tokens → ((b : ℕ) → key_set b true → IsKeyByte b)
    → ((b : ℕ) → key_set b false → IsKeyByte b → ⊥) → IsRefusedPair w.tokens n
no_mark {k = k} {w} {a} {n = n} keys missing stays at is_key not_key =
    let n_is : length k ≡ n =
    omega (
      arith,
      at,
      ap (λ l. length l.tokens) stays,
      ap (λ l. length l) keys.longest.splits,
      length-append k a.tokens,
    ) in
    let P : ℕ → Type 0 = λ m. IsRefusedPair w.tokens m in
    subst P n_is (refused_after_key w.tokens k a.tokens keys.longest.splits
    (took_all IsKeyByte is_key keys)
    (λ y more e. (
      took_stops (λ b. IsKeyByte b → ⊥) not_key keys y more e,
      inr (λ is_mark. missing more (e ∙ ap (λ z. z ∷ more) is_mark)),
    )))
