-- The text before an offset, character by character.
use Rattle.std.proofs.Common.{◌≡◌, ◌∙◌, ◌+◌, ℕ, List, [], ◌∷◌, ◌++◌, length, refl, sym, ap, arith}
use Rattle.std.proofs.Common.{append_assoc, suc}
use Rattle.std.specs.List.{All, flat_map}
use Rattle.std.proofs.lemmas.List.Concat.{flat_map-cons}
use Rattle.std.proofs.lemmas.List.{append-nil, flat_map_more, length_push}
use Rattle.std.proofs.lemmas.List.Elements.{All-head, All-nil, All-push, All-tail}
use Rattle.text_positions.specs.Position.{IsPosition, IsWithinLine, ended}

-- after one more character of the line
pub within_line : (before : List ℕ) (line column c : ℕ) → IsWithinLine c
    → IsPosition before line column → IsPosition (before ++ c ∷ []) line (column + 1)
within_line before line column c within it = record {
  lines = it.lines;
  begun = it.begun ++ c ∷ [];
  splits = ap (λ l. l ++ c ∷ []) it.splits
      ∙ append_assoc (flat_map ended it.lines) it.begun (c ∷ []);
  are_lines = it.are_lines;
  is_one = All-push IsWithinLine it.begun c it.is_one within;
  line_is = it.line_is;
  column_is = omega (arith, it.column_is, length_push it.begun c);
}

-- after the line feed
pub behind_line : (before : List ℕ) (line column c : ℕ) → c ≡ 10
    → IsPosition before line column → IsPosition (before ++ c ∷ []) (line + 1) 1
behind_line before line column c feed it = record {
  lines = it.lines ++ it.begun ∷ [];
  begun = [];
  splits = ap (λ x. before ++ x ∷ []) feed ∙ ap (λ l. l ++ 10 ∷ []) it.splits
      ∙ append_assoc (flat_map ended it.lines) it.begun (10 ∷ [])
      ∙ flat_map_more ended [] it.lines it.begun
      ∙ sym (append-nil (flat_map ended (it.lines ++ it.begun ∷ [])));
  are_lines = All-push (All IsWithinLine) it.lines it.begun it.are_lines it.is_one;
  is_one = All-nil IsWithinLine;
  line_is = omega (arith, it.line_is, length_push it.lines it.begun);
  column_is = refl;
}

behind_first : (xs ys a b : List ℕ) → All IsWithinLine xs → All IsWithinLine ys
    → xs ++ 10 ∷ a ≡ ys ++ 10 ∷ b → a ≡ b
behind_first [] [] a b p q e = cc
behind_first [] (y ∷ ys) a b p q e =
    let feed : y ≡ 10 = cc in absurd (All-head IsWithinLine y ys q feed)
behind_first (x ∷ xs) [] a b p q e =
    let feed : x ≡ 10 = cc in absurd (All-head IsWithinLine x xs p feed)
behind_first (x ∷ xs) (y ∷ ys) a b p q e =
    behind_first xs ys a b (All-tail IsWithinLine x xs p) (All-tail IsWithinLine y ys q) cc

no_feed : (xs ys b : List ℕ) → All IsWithinLine xs → xs ≡ ys ++ 10 ∷ b → ⊥
no_feed [] [] b p e = cc
no_feed [] (y ∷ ys) b p e = cc
no_feed (x ∷ xs) [] b p e = All-head IsWithinLine x xs p cc
no_feed (x ∷ xs) (y ∷ ys) b p e = no_feed xs ys b (All-tail IsWithinLine x xs p) cc

-- the first of some lines, and then the others
first_line : (line : List ℕ) (lines : List (List ℕ)) (a : List ℕ)
    → flat_map ended (line ∷ lines) ++ a ≡ line ++ 10 ∷ (flat_map ended lines ++ a)
first_line line lines a =
    ap (λ l. l ++ a) (flat_map-cons ended line lines)
    ∙ append_assoc (line ++ 10 ∷ []) (flat_map ended lines) a
    ∙ append_assoc line (10 ∷ []) (flat_map ended lines ++ a)

-- texts that are the same have as many lines, and as many characters after them
same_lines : (xs ys : List (List ℕ)) (a b : List ℕ) → All (All IsWithinLine) xs
    → All (All IsWithinLine) ys → All IsWithinLine a → All IsWithinLine b
    → flat_map ended xs ++ a ≡ flat_map ended ys ++ b
    → (length xs ≡ length ys) × (length a ≡ length b)
same_lines [] [] a b p q pa qb e = (refl, ap (λ l. length l) e)
same_lines [] (y ∷ ys) a b p q pa qb e =
    absurd (no_feed a y (flat_map ended ys ++ b) pa (e ∙ first_line y ys b))
same_lines (x ∷ xs) [] a b p q pa qb e =
    absurd (no_feed b x (flat_map ended xs ++ a) qb (sym e ∙ first_line x xs a))
same_lines (x ∷ xs) (y ∷ ys) a b p q pa qb e =
    let both = same_lines xs ys a b (All-tail (All IsWithinLine) x xs p)
    (All-tail (All IsWithinLine) y ys q) pa qb
    (behind_first x y _ _ (All-head (All IsWithinLine) x xs p)
    (All-head (All IsWithinLine) y ys q)
    (sym (first_line x xs a) ∙ (e ∙ first_line y ys b))) in
    (ap (λ n. suc n) both.0, both.1)

pub one_place : (before : List ℕ) (line column line' column' : ℕ) → IsPosition before line column
    → IsPosition before line' column' → (line ≡ line') × (column ≡ column')
one_place before line column line' column' p q =
    let both = same_lines p.lines q.lines p.begun q.begun p.are_lines q.are_lines p.is_one q.is_one
    (sym p.splits ∙ q.splits) in
    (omega (arith, p.line_is, q.line_is, both.0), omega (arith, p.column_is, q.column_is, both.1))
