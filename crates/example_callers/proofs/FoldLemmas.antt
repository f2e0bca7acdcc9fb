-- Lemmas about folds of bytes with commas between them.
use Rattle.std.specs.Prelude.{◌≡◌, ℕ, List, [], ◌∷◌, max, ⊤}
use Rattle.std.specs.Borrow.{Bor}
use Rattle.std.proofs.Common.{refl, sym, ap, subst, ◌∙◌, arith}
use Rattle.winnow.specs.Bytes.{bytes_reading}
use Rattle.winnow.specs.FoldLaws.{DecidesOutputs, FoldTheSameIf}
use Rattle.winnow.specs.Any.{AnyDoes}
use Rattle.winnow.specs.Inversion.Tokens.{any_ok, literal_taken}
use Rattle.winnow.specs.Left.{Left}
use Rattle.winnow.specs.LiteralDefinition.{LiteralDoes}
use Rattle.winnow.specs.Outcome.{Does, Setting, took}
use Rattle.winnow.specs.SeparatedFold.{SeparatedFoldl1Does, SeparatedFoldr1Does}
use Rattle.winnow.specs.SeparatedFoldl1.{FoldsLeft}
use Rattle.winnow.specs.SeparatedFoldr1.{FoldsRight}

abbrev any_byte : Does ⊤ ℕ ℕ
any_byte = AnyDoes (λ x. x) bytes_reading

abbrev one_byte : Does ℕ ℕ ℕ
one_byte = LiteralDoes bytes_reading (λ s xs. xs ≡ s ∷ []) (λ s (_ : Bor (List ℕ)). s)

any_decides : (at : Setting) → DecidesOutputs any_byte at tt
any_decides at t reaches w o p a b ran also =
    let same = sym (any_ok at ran).tokens ∙ (any_ok at also).tokens in cc

one_decides : (at : Setting) (b : ℕ) → DecidesOutputs one_byte at b
one_decides at b t reaches w o p x y ran also =
    (literal_taken at {Spelled = λ xs. xs ≡ t ∷ []} {output = λ (_ : Bor (List ℕ)). t} ran).5
    ∙ sym (literal_taken at {Spelled = λ xs. xs ≡ t ∷ []} {output = λ (_ : Bor (List ℕ)). t} also).5

max_three : (a b c : ℕ) → max (max a b) c ≡ max a (max b c)
max_three a b c = omega arith

-- the greatest of the elements
greatest : ℕ → List (ℕ × ℕ) → ℕ
greatest first [] = first
greatest first (link ∷ links) = max first (greatest link.1 links)

greatest_more : (a b : ℕ) (links : List (ℕ × ℕ))
    → greatest (max a b) links ≡ max a (greatest b links)
unfolding greatest
greatest_more a b [] = refl
greatest_more a b (link ∷ links) = max_three a b (greatest link.1 links)

module _ {H : Type 0} (step : H → ℕ → ℕ → ℕ → ℕ → H → Type 0)
    (is : (p q : H) (a d b c : ℕ) → step p a d b c q → c ≡ max a b) where
  left_is : (p q : H) (first value : ℕ) (links : List (ℕ × ℕ))
      → FoldsLeft step p first links value q → value ≡ greatest first links
  unfolding greatest
  left_is p q first value [] (e, f) = e
  left_is p q first value (link ∷ links) (more, c, stepped, folds) =
      left_is c q more value links folds
      ∙ ap (λ m. greatest m links) (is p c first link.0 link.1 more stepped)
      ∙ greatest_more first link.1 links

  right_is : (p q : H) (first value : ℕ) (links : List (ℕ × ℕ))
      → FoldsRight step p first links value q → value ≡ greatest first links
  unfolding greatest
  right_is p q first value [] (e, f) = e
  right_is p q first value (link ∷ links) (right, c, folds, stepped) =
      is c q first link.0 right value stepped
      ∙ ap (λ m. max first m) (right_is p c link.1 right links folds)

  pub both_same : (p q r : H) (first left right : ℕ) (links : List (ℕ × ℕ))
      → FoldsLeft step p first links left q → FoldsRight step p first links right r
      → left ≡ right
  both_same p q r first left right links one other =
      left_is p q first left links one ∙ sym (right_is p r first right links other)

module _ {H : Type 0} (A : Type 0) (step : H → ℕ → ℕ → ℕ → ℕ → H → Type 0) (op : H) where
  abbrev to_left : Does (⊤ × ℕ × H) ℕ ℕ
  to_left = SeparatedFoldl1Does step any_byte one_byte

  abbrev to_right : Does (⊤ × ℕ × H) ℕ ℕ
  to_right = SeparatedFoldr1Does A step any_byte one_byte

  pub folds_both : FoldTheSameIf ⊤ ⊤ step any_byte one_byte to_left to_right
      → (at : Setting) (w : Left ℕ) (left right b d : ℕ) (f h : H)
      (t u : ⊤ × ℕ × H) (j k : Left ℕ) → b ≡ 44 → f ≡ op → d ≡ 44 → h ≡ op
      → to_left at (tt, b, f) w (took left (t, j)) → to_right at (tt, d, h) w (took right (u, k))
      → (first : ℕ) × (links : List (ℕ × ℕ)) × (p : H) × (q : H)
      × FoldsLeft step op first links left p × FoldsRight step op first links right q
  folds_both agree at w left right b d f h t u j k is so are too ran also =
      let L : ℕ → H → Type 0 = λ x y. to_left at (tt, x, y) w (took left (t, j)) in
      let R : ℕ → H → Type 0 = λ x y. to_right at (tt, x, y) w (took right (u, k)) in
      let (start, places, first, links, one, others, x, turns, ls, y, more, rs, e, g, l, same) =
      agree tt tt at (tt, 44, op) w left right t u j k
      (subst (L 44) so (subst (λ z. L z f) is ran)) (subst (R 44) too (subst (λ z. R z h) are also))
      in
      let both = same (any_decides at) (one_decides at 44) in
      let P : ℕ → Type 0 = λ x. FoldsRight step op x others right u.2 in
      let Q : List (ℕ × ℕ) → Type 0 = λ x. FoldsRight step op first x right u.2 in
      (first, links, t.2, u.2, ls, subst Q (sym both.1) (subst P (sym both.0) rs))
