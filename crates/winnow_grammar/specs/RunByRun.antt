-- Runs, which are maximal sequences of tokens of a set, and functions that read consecutive runs.
use Rattle.std.specs.Prelude.{◌≡◌, ◌⊎◌, ◌<◌, ℕ, Bool, true, false, List, [], ◌∷◌, ◌++◌, length}
use Rattle.std.specs.Prelude.{None, Some, Ok, Err}
use Rattle.std.specs.List.{All}
use Rattle.std.proofs.Common.{refl, sym, ap, subst, inl, inr, arith, length-append}
use Rattle.std.proofs.lemmas.List.Elements.{All-cons, All-head, All-nil, All-tail, All-weaker}
use Rattle.streams.specs.Equal.{none_is_some}
use Rattle.streams.specs.Input.{Input, IsEndOf}
use Rattle.streams.specs.Kind.{Kind, memory}
use Rattle.streams.specs.Reading.{Reading}
use Rattle.streams.specs.Stream.{AnswersSeen}
use Rattle.stream_sets.specs.Range.{from_to}
use Rattle.grammars.specs.Grammar.{Each, Gathered, Grammar, Longest, Many, NoMatch}
use Rattle.grammars.specs.Grammar.Same.{Same}
use Rattle.grammars.specs.Texts.{Divides, MayStartWith, Members}
use Rattle.grammars.specs.Texts.Tokens.{longest_of}
use Rattle.winnow_core.specs.Exact.{Reads}

-- As many tokens of `these` as there are, shown by a slice. The rest is empty or starts with a
-- token of `those`.
abbrev pub RunOf : {T L : Type 0} → Reading T L → (these those : T → Type 0) → Grammar T L
RunOf {T} reading these those tokens slice rest =
    (front : List T) × All these front × (tokens ≡ front ++ rest) × reading.shows slice front
    × MayStartWith those rest

-- ---- what parsers of members read

module _ {X K T L : Type 0} (reading : Reading T L) (seen : K → T)
    (tells : X → K → Bool → Type 0) (set : X) (these those : T → Type 0)
    (divides : Divides (AnswersSeen seen (tells set)) these those) where
  ended : (n : ℕ) (rest : List T) → ((t : T) (more : List T) → rest ≡ t ∷ more
      → AnswersSeen seen (tells set) t false ⊎ (None ≡ Some n)) → MayStartWith those rest
  ended n [] stops = tt
  ended n (t ∷ more) stops = elim (stops t more refl) [
    | inl it ↦ (divides.lacks t).0 it
    | inr full ↦ none_is_some full
  ]

  -- the longest prefix of members is a run
  pub run_same : Same (Longest reading seen tells set (from_to 0 None))
      (RunOf reading these those)
  unfolding Longest Members
  run_same = record {
    there = λ tokens slice rest (front, longest, enough, shown). (
      front,
      All-weaker (λ t. AnswersSeen seen (tells set) t true) these
          (λ t is. (divides.has t).0 is) front longest.members,
      longest.splits,
      shown,
      ended (length front) rest longest.stops,
    );
    back = λ tokens slice rest (front, all, split, shown, ends).
        let P : List T → Type 0 =
        λ l. Longest reading seen tells set (from_to 0 None) l slice rest in
        subst P (sym split) ((longest_of reading seen tells set (from_to 0 None) 0 refl
        divides).back slice front rest (all, omega arith, shown) ends);
  }

-- ---- parsers of runs only fail with out of memory

module _ {T L : Type 0} (reading : Reading T L) (these those : T → Type 0)
    (shown_by : (xs : List T) → (slice : L) × reading.shows slice xs)
    (or_not : (t : T) → these t ⊎ those t) where
  -- any tokens start with a run
  pub run_stands : (tokens : List T) → (slice : L) × (rest : List T)
      × RunOf reading these those tokens slice rest
  run_stands tokens =
      let (front, rest, all, split, ends) = by tokens in
      let (slice, shown) = shown_by front in
      (slice, rest, (front, all, split, shown, ends))
    where
      Splits : List T → Type 0
      Splits tokens = (front : List T) × (rest : List T) × All these front
          × (tokens ≡ front ++ rest) × MayStartWith those rest

      more : (t : T) (tokens : List T) → Splits tokens → these t ⊎ those t → Splits (t ∷ tokens)
      more t tokens (front, rest, all, split, ends) (inl is) =
          (t ∷ front, rest, All-cons these t front is all, ap (λ l. t ∷ l) split, ends)
      more t tokens split (inr not) = ([], t ∷ tokens, All-nil these, refl, not)

      by : (tokens : List T) → Splits tokens
      by [] = ([], [], All-nil these, refl, tt)
      by (t ∷ tokens) = more t tokens (by tokens) (or_not t)

  -- so a parser of runs only fails with out of memory
  pub run_wants : {E : Type 0} {kind : E → Kind} {e : E} (i j : Input T)
      → i.status.cut ≡ false → Reads reading kind (RunOf reading these those) i (Err e) j
      → kind e ≡ memory
  run_wants i j whole r = elim (r.none whole) [
    | inl want ↦ want
    | inr (b, none) ↦
        let (slice, rest, x) = run_stands i.left.tokens in absurd (none slice rest x)
  ]

-- ---- consecutive items

-- items followed by more items
pub each_more : {T O : Type 0} (g : Grammar T O) (os ps : List O) (start mid rest : List T)
    → Each g start os mid → Each g mid ps rest → Each g start (os ++ ps) rest
each_more {T} g [] ps start mid rest e more =
    let P : List T → Type 0 = λ l. Each g l ps rest in subst P e more
each_more g (o ∷ os) ps start mid rest (next, x, each) more =
    (next, x, each_more g os ps next mid rest each more)

-- items followed by one more
pub each_one : {T O : Type 0} (g : Grammar T O) (os : List O) (o : O) (start mid rest : List T)
    → Each g start os mid → g mid o rest → Each g start (os ++ o ∷ []) rest
each_one g os o start mid rest each x =
    each_more g os (o ∷ []) start mid rest each (rest, x, refl)

module _ {T : Type 0} (g : Grammar T T) (these : T → Type 0)
    (stands : (t : T) (rest : List T) → these t → g (t ∷ rest) t rest) where
  -- tokens of a run are items
  pub each_run : (front rest : List T) → All these front → Each g (front ++ rest) front rest
  each_run [] rest all = refl
  each_run (t ∷ ts) rest all = (
    ts ++ rest,
    stands t (ts ++ rest) (All-head these t ts all),
    each_run ts rest (All-tail these t ts all),
  )

  -- and follow items
  pub each_behind : (os front start mid rest : List T) → Each g start os mid → All these front
      → mid ≡ front ++ rest → Each g start (os ++ front) rest
  each_behind os front start mid rest each all split =
      let P : List T → Type 0 = λ l. Each g l front rest in
      each_more g os front start mid rest each (subst P (sym split) (each_run front rest all))

-- a match after a run that consumes tokens leaves fewer than there were before the run
pub run_takes : {T L : Type 0} (reading : Reading T L) (these those : T → Type 0)
    (start mid rest : List T) (slice : L) → RunOf reading these those start slice mid
    → length rest < length mid → length rest < length start
run_takes reading these those start mid rest slice (front, all, split, shown, ends) fewer =
    omega (arith, ap (λ l. length l) split, length-append front mid, fewer)

-- If the parser after the runs fails because the rest does not match, and thus no item follows,
-- then the items so far are all items.
pub all_read : {T L O U C E : Type 0} {reading : Reading T L} {kind : E → Kind} {e : E}
    (holds : C → List O → Type 0) (g : Grammar T O) (h : Grammar T U) (i j now : Input T)
    (all : C) (os : List O) → IsEndOf reading j i → j.status.cut ≡ false
    → Each g i.left.tokens os j.left.tokens → holds all os
    → (NoMatch h j.left.tokens → NoMatch g j.left.tokens) → (kind e ≡ memory → ⊥)
    → Reads reading kind h j (Err e) now
    → Reads reading kind (Gathered holds (Many g (from_to 0 None))) i (Ok all) j
unfolding Gathered Many
all_read holds g h i j now all os ends uncut each held none_of other r = record {
  ends = ends;
  stands = λ whole. elim (r.none uncut) [
    | inl want ↦ absurd (other want)
    | inr (b, none) ↦ (os, held, (each, omega arith, inr (tt, none_of none)))
  ];
  none = λ whole. tt;
}
