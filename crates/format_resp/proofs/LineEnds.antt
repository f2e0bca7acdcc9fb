-- Lemmas about the end of a line, which is at the first byte of a line ending, and about texts on
-- lines of their own.
use Rattle.std.specs.Prelude.{◌≡◌, ◌≤◌, ◌<◌, ◌+◌, ℕ, zero, suc, List, [], ◌∷◌, ◌++◌, length, take}
use Rattle.std.specs.Prelude.{drop, ◌-◌, ◌⊎◌, slice_index, true}
use Rattle.std.specs.List.{AllByRecursion}
use Rattle.std.proofs.Common.{refl, sym, ap, subst, inl, inr, ◌∙◌, arith, append_assoc, get_or}
use Rattle.std.proofs.Common.{length-append, length-drop}
use Rattle.std.proofs.Math.Seq.{take-add, take-append_seam}
use Rattle.std.proofs.lemmas.Bool.Decides.{nat_tests}
use Rattle.std.proofs.lemmas.List.{append-nil, get_or-drop, take-append-drop, take_all}
use Rattle.memchr.specs.Find.{is_byte2}
use Rattle.streams.specs.Equal.{same_first, same_others, true_is_false}
use Rattle.format_resp.specs.Lines.{EndsLine, IsOpen}
use Rattle.format_resp.specs.Resp.{IsLineByte, line_end, WithLineEnd, LineText}
use Rattle.std.specs.Borrow.{Bor}
use Rattle.std.proofs.lemmas.List.Elements.{All-from_recursion, recursion_from_All}
use Rattle.streams.specs.Bytes.{bytes_follow, bytes_reading}
use Rattle.grammars.specs.Grammar.Inversion.{slice_for}
use Rattle.winnow_grammar.specs.InTurn.{Failed, First, Splits, MatchesEachCompletion, failed_as}
use Rattle.winnow_grammar.specs.InTurn.{stood_as}
use Rattle.streams.specs.Input.{Input}
use Rattle.streams.specs.Kind.{Kind, backtrack}
use Rattle.grammars.specs.Texts.{Members, Text}

pub all_append : (xs ys : List ℕ) → AllByRecursion IsLineByte xs → AllByRecursion IsLineByte ys
    → AllByRecursion IsLineByte (xs ++ ys)
all_append [] ys a b = b
all_append (x ∷ xs) ys a b = (a.0, all_append xs ys a.1 b)

-- bytes without a byte of a line ending
none_plain : (ys : List ℕ) (k : ℕ)
    → ((j : ℕ) → j < k → is_byte2 13 10 (slice_index ys j) ≡ true → ⊥)
    → AllByRecursion IsLineByte (take k ys)
none_plain [] zero f = tt
none_plain [] (suc k) f = tt
none_plain (y ∷ ys) zero f = tt
none_plain (y ∷ ys) (suc k) f = (
  (
    (λ e. f 0 (omega arith) (subst P (sym e) refl)),
    (λ e. f 0 (omega arith) (subst P (sym e) refl)),
  ),
  none_plain ys k (λ j less. f (suc j) (omega (arith, less))),
)
  where
    P : ℕ → Type 0
    P z = is_byte2 13 10 z ≡ true

-- and the bytes before them have none either
plain_before : (xs unseen : List ℕ) (n k : ℕ) → unseen ≡ drop n xs
    → AllByRecursion IsLineByte (take n xs)
    → ((j : ℕ) → j < k → is_byte2 13 10 (slice_index unseen j) ≡ true → ⊥)
    → AllByRecursion IsLineByte (take (n + k) xs)
plain_before xs unseen n k e all none =
    subst (AllByRecursion IsLineByte) (sym (take-add n k xs))
    (all_append (take n xs) (take k (drop n xs)) all (rw e at (none_plain unseen k none)))

-- no line ends in a line
pub plain_none : (xs line rest : List ℕ) → AllByRecursion IsLineByte xs
    → xs ≡ line ++ (13 ∷ rest) → ⊥
plain_none [] [] rest a e = cc
plain_none [] (l ∷ line) rest a e = cc
plain_none (x ∷ xs) [] rest a e = a.0.0 (let d : x ≡ 13 = cc in d)
plain_none (x ∷ xs) (l ∷ line) rest a e =
    plain_none xs line rest a.1 (let d : xs ≡ line ++ (13 ∷ rest) = cc in d)

-- a line ends at the first byte that is in none
pub until_end : (c d : ℕ) (xs ys rest other : List ℕ) → AllByRecursion IsLineByte xs
    → AllByRecursion IsLineByte ys → (IsLineByte c → ⊥) → (IsLineByte d → ⊥)
    → xs ++ (c ∷ rest) ≡ ys ++ (d ∷ other) → (xs ≡ ys) × (c ≡ d) × (rest ≡ other)
until_end c d [] [] rest other a b m n e = (refl, cc, cc)
until_end c d [] (y ∷ ys) rest other a b m n e =
    absurd (m (subst IsLineByte (sym (same_first e)) b.0))
until_end c d (x ∷ xs) [] rest other a b m n e = absurd (n (subst IsLineByte (same_first e) a.0))
until_end c d (x ∷ xs) (y ∷ ys) rest other a b m n e =
    let (same, first, left) = until_end c d xs ys rest other a.1 b.1 m n (same_others e) in
    (let f : x ∷ xs ≡ y ∷ ys = cc in f, first, left)

pub return_ends : IsLineByte 13 → ⊥
return_ends a = a.0 refl

-- lines at the start of the same tokens are equal
pub one_line : (tokens front back xs ys rest other : List ℕ) → AllByRecursion IsLineByte xs
    → AllByRecursion IsLineByte ys → front ≡ xs ++ line_end → tokens ≡ front ++ rest
    → back ≡ ys ++ line_end → tokens ≡ back ++ other → (xs ≡ ys) × (rest ≡ other)
one_line tokens front back xs ys rest other a b e d f h =
    let split = sym (append_assoc xs line_end rest) ∙ ap (λ l. l ++ rest) (sym e) ∙ sym d ∙ h
    ∙ ap (λ l. l ++ other) f ∙ append_assoc ys line_end other in
    let (same, first, left) =
    until_end 13 13 xs ys (10 ∷ rest) (10 ∷ other) a b return_ends return_ends split in
    (same, same_others left)

-- a carriage return without a line feed does not end a line
pub open_none : (xs line rest : List ℕ) → AllByRecursion IsLineByte xs
    → EndsLine (xs ++ (13 ∷ [])) line rest
    → ⊥
open_none xs line rest a (b, e) =
    let (same, first, left) =
    until_end 13 13 xs line [] (10 ∷ rest) a b return_ends return_ends e in
    cc

pub open_endless : (tokens : List ℕ) → IsOpen tokens → (line rest : List ℕ)
    → EndsLine tokens line rest → ⊥
open_endless tokens (xs, all, inl e) line rest (a, f) =
    plain_none xs line (10 ∷ rest) all (sym e ∙ f)
open_endless tokens (xs, all, inr e) line rest (a, f) =
    open_none xs line rest all (a, sym e ∙ f)

-- ---- the bytes after a line, where a line ending is or not

module _ (xs line behind : List ℕ) (split : xs ≡ line ++ behind)
    (all : AllByRecursion IsLineByte line) where
  pub ended_whole : (left : List ℕ) → behind ≡ line_end ++ left → EndsLine xs line left
  ended_whole left e = (all, split ∙ ap (λ l. line ++ l) e)

  pub ended_open : (x : ℕ) (more : List ℕ) → line_end ≡ behind ++ (x ∷ more)
      → (length line ≤ length xs) × AllByRecursion IsLineByte (take (length line) xs) × IsOpen xs
  ended_open x more e = rw split (
    omega (arith, length-append line behind),
    subst (AllByRecursion IsLineByte) (sym (take-append_seam line behind)) all,
    (line, all, part behind e),
  )
    where
      part : (ys : List ℕ) → line_end ≡ ys ++ (x ∷ more)
          → (line ++ ys ≡ line) ⊎ (line ++ ys ≡ line ++ (13 ∷ []))
      part [] e = inl (append-nil line)
      part (b ∷ []) e = let f : b ≡ 13 = cc in inr (ap (λ c. line ++ c ∷ []) f)
      part (b ∷ c ∷ []) e = absurd cc
      part (b ∷ c ∷ d ∷ ys) e = absurd cc

  -- the first byte after the line is of a line ending, which never is there
  pub ended_never : is_byte2 13 10 (slice_index behind 0) ≡ true
      → ((more left : List ℕ) → behind ++ more ≡ line_end ++ left → ⊥)
      → (more other rest : List ℕ) → EndsLine (xs ++ more) other rest → ⊥
  ended_never test none more other rest (each, e) = none more rest (starts behind test
      (sym (append_assoc line behind more) ∙ ap (λ l. l ++ more) (sym split) ∙ e))
    where
      stops : (c : ℕ) → is_byte2 13 10 c ≡ true → IsLineByte c → ⊥
      stops c is (no_return, no_feed) = grind (arith, nat_tests)

      starts : (ys : List ℕ) → is_byte2 13 10 (slice_index ys 0) ≡ true
          → line ++ (ys ++ more) ≡ other ++ (13 ∷ 10 ∷ rest) → ys ++ more ≡ line_end ++ rest
      starts [] test f = true_is_false (sym test)
      starts (c ∷ ys) test f =
          let (same, first, left) = until_end c 13 line other (ys ++ more) (10 ∷ rest) all each
          (stops c test) return_ends f in cc

-- ---- bytes that were searched before

-- all of it
pub open_all : (xs : List ℕ) → AllByRecursion IsLineByte xs → (length xs ≤ length xs)
    × AllByRecursion IsLineByte (take (length xs) xs) × IsOpen xs
open_all xs all = (
  omega arith,
  subst (AllByRecursion IsLineByte) (sym (take_all (length xs) xs (omega arith))) all,
  (xs, all, inl refl),
)

-- more than there is
pub open_past : (xs : List ℕ) (n : ℕ) → (length xs < n) ⊎ (length xs < length xs)
    → AllByRecursion IsLineByte (take n xs) → AllByRecursion IsLineByte xs
open_past xs n (inl less) all =
    subst (AllByRecursion IsLineByte) (take_all n xs (omega (arith, less))) all
open_past xs n (inr less) all = absurd (omega (arith, less))

-- the bytes not searched yet are the rest
pub unseen_rest : (xs unseen : List ℕ) (n : ℕ) → unseen ≡ take (length xs - n) (drop n xs)
    → unseen ≡ drop n xs
unseen_rest xs unseen n e =
    e ∙ take_all (length xs - n) (drop n xs) (omega (arith, length-drop n xs))

pub open_rest : (xs unseen : List ℕ) (n : ℕ) → unseen ≡ take (length xs - n) (drop n xs)
    → AllByRecursion IsLineByte (take n xs)
    → ((k : ℕ) → 0 ≤ k → k < length unseen → is_byte2 13 10 (slice_index unseen k) ≡ true → ⊥)
    → AllByRecursion IsLineByte xs
open_rest xs unseen n e all none =
    let d = unseen_rest xs unseen n e in
    subst (AllByRecursion IsLineByte) (take_all (n + length unseen) xs
    (omega (arith, ap (λ l. length l) d, length-drop n xs)))
    (plain_before xs unseen n (length unseen) d all (λ j less. none j (omega arith) less))

-- the first byte that is in no line
found_first : (xs unseen : List ℕ) (n k : ℕ) → unseen ≡ take (length xs - n) (drop n xs)
    → is_byte2 13 10 (slice_index unseen k) ≡ true
    → is_byte2 13 10 (slice_index (drop (n + k) xs) 0) ≡ true
found_first xs unseen n k e test =
    let d = unseen_rest xs unseen n e in
    let same : get_or unseen k 0 ≡ get_or (drop (n + k) xs) 0 0 =
    ap (λ l. get_or l k 0) d ∙ get_or-drop n xs k 0
    ∙ ap (λ j. get_or xs j 0) (let z : n + k ≡ n + k + 0 = omega arith in z)
    ∙ sym (get_or-drop (n + k) xs 0 0) in
    let P : ℕ → Type 0 = λ b. is_byte2 13 10 b ≡ true in subst P same test

-- a line that is found, and what is behind it
pub found_line : (xs unseen line behind : List ℕ) (n k : ℕ)
    → unseen ≡ take (length xs - n) (drop n xs) → AllByRecursion IsLineByte (take n xs)
    → ((j : ℕ) → j < k → is_byte2 13 10 (slice_index unseen j) ≡ true → ⊥)
    → is_byte2 13 10 (slice_index unseen k) ≡ true → line ≡ take (n + k) xs
    → behind ≡ drop (n + k) xs → (xs ≡ line ++ behind) × AllByRecursion IsLineByte line
    × (is_byte2 13 10 (slice_index behind 0) ≡ true)
found_line xs unseen line behind n k is all none test front back =
    let T : List ℕ → Type 0 = λ l. is_byte2 13 10 (slice_index l 0) ≡ true in (
      sym (ap (λ l. l ++ behind) front ∙ ap (λ l. take (n + k) xs ++ l) back
          ∙ take-append-drop (n + k) xs),
      subst (AllByRecursion IsLineByte) (sym front)
          (plain_before xs unseen n k (unseen_rest xs unseen n is) all none),
      subst T (sym back) (found_first xs unseen n k is test),
    )

-- Texts without bytes of a line ending.
pub record IsPlain {O : Type 0} (text : Text ℕ O) : Type 0 where
  pub plain : (o : O) (xs : List ℕ) → text o xs → AllByRecursion IsLineByte xs

module _ {O : Type 0} (text : Text ℕ O) (p : IsPlain text) where
  -- where each is of one value
  pub ended_splits : ((o q : O) (xs : List ℕ) → text o xs → text q xs → o ≡ q)
      → Splits (WithLineEnd text)
  unfolding First WithLineEnd
  ended_splits one = record {
    one = λ o q tokens rest other (front, (xs, a, e), d) (back, (ys, b, f), h).
        let (same, left) = one_line tokens front back xs ys rest other (p.plain o xs a)
        (p.plain q ys b) e d f h in
        (one o q xs a (subst (text q) (sym same) b), left);
  }

  module _ {i j : Input ℕ} where
    -- if there is no line, there is no line with this text either
    pub ended_none : {k : Kind} → Failed bytes_reading bytes_follow (First LineText) i k j
        → Failed bytes_reading bytes_follow (First (WithLineEnd text)) i k j
    unfolding First LineText WithLineEnd Members
    ended_none = failed_as (λ tokens none o rest (front, (xs, a, e), d).
        let (line, shown) = slice_for xs in
        none line rest (
          front,
          (xs, (All-from_recursion IsLineByte xs (p.plain o xs a), omega arith, shown), e),
          d,
        ))

    -- all of a line
    pub ended_stood : (line : Bor (List ℕ)) (o : O)
        → (AllByRecursion IsLineByte line.now → text o line.now)
        → MatchesEachCompletion bytes_reading bytes_follow (First LineText) i line j
        → MatchesEachCompletion bytes_reading bytes_follow (First (WithLineEnd text)) i o j
    unfolding First LineText WithLineEnd Members
    ended_stood line o is = stood_as (λ tokens rest (front, (xs, (all, enough, shown), e), d).
        let plain = subst (AllByRecursion IsLineByte) (sym shown)
        (recursion_from_All IsLineByte xs all) in
        (front, (xs, subst (text o) shown (is plain), e), d))

    -- a line that is none
    pub ended_failed : (line : Bor (List ℕ)) {k : Kind} → k ≡ backtrack
        → ((o : O) → text o line.now → ⊥)
        → MatchesEachCompletion bytes_reading bytes_follow (First LineText) i line j
        → Failed bytes_reading bytes_follow (First (WithLineEnd text)) i k j
    unfolding First LineText WithLineEnd Members
    ended_failed line b never s = record {
      ends = s.ends;
      none = inr (inr (λ more c. (
        b,
        λ o rest (front, (xs, a, e), d).
            let (back, (ys, (all, enough, shown), f), h) = s.stands more c in
            let (same, left) = one_line (i.left.tokens ++ more) front back xs ys rest
            (j.left.tokens ++ more) (p.plain o xs a) (recursion_from_All IsLineByte ys all)
            e d f h in
            never o (subst (text o) (same ∙ sym shown) a),
      )));
    }
