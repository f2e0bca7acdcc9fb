-- Lemmas about encodings of parts of replies, and the rests after them.
use Rattle.std.specs.Prelude.{◌≡◌, ℕ, List, [], ◌∷◌, ◌++◌, Some, Result, Ok, Err, IfOk}
use Rattle.std.specs.Prelude.{if◌then◌else◌, length}
use Rattle.std.specs.Result.{is_ok}
use Rattle.std.specs.declared.vec.Vec.{Vec}
use Rattle.std.proofs.Common.{refl, sym, ap, subst, ◌∙◌, append_assoc, arith}
use Rattle.streams.specs.Equal.{none_is_some, same_others, same_some}
use Rattle.stream_errors.specs.Growth.{grown}
use Rattle.grammars.specs.Grammar.Lengths.{same_beginnings}
use Rattle.winnow_grammar.specs.InTurn.{First, Led, Splits}
use Rattle.grammars.specs.Texts.{CountedText, EachText, Text}
use Rattle.format_resp.specs.Resp.{DataText, WithLineEnd, line_end, Shown}
use Rattle.std.specs.Borrow.{Bor}
use Rattle.grammars.specs.Pairwise.{ArePairwise}

-- ---- lists

-- what a list holds that had room for one more
pub pushed : {T U E : Type 0} {list more : List T} (less : List T) (r : Result U E) {u : U}
    → list ≡ (if is_ok r then more else less) → grown r ≡ Some u → list ≡ more
pushed less (Ok v) e is = e
pushed less (Err f) e is = none_is_some is

-- and that had room made for it: nothing yet
pub roomy : {T A E : Type 0} (r : Result (Vec T A) E) {list : Vec T A}
    → IfOk r (λ made. made.items ≡ []) → grown r ≡ Some list → list.items ≡ []
roomy {T} {A} (Ok made) e is =
    let P : Vec T A → Type 0 = λ l. l.items ≡ [] in subst P (same_some is) e
roomy (Err f) e is = none_is_some is

-- ---- encodings at the start of the same tokens

-- Two values whose encodings start the same tokens are equivalent, and are followed by the same.
abbrev pub Determined : {O : Type 0} → (O → O → Type 0) → Text ℕ O → Type 0
Determined {O} alike text =
    (v w : O) (tokens rest other : List ℕ) → First text tokens v rest → First text tokens w other
    → alike v w × (rest ≡ other)

pub led_determined : {X O : Type 0} (first : Text ℕ X) (behind : X → Text ℕ O)
    (alike : O → O → Type 0) → Splits first → ((x : X) → Determined alike (behind x))
    → Determined alike (Led first behind)
unfolding First Led
led_determined {X} first behind alike splits each v w tokens rest other
    (front, (m, xs, ys, t, a, d), e) (back, (n, us, vs, u, b, f), h) =
    let (same, left) = splits.one m n tokens (ys ++ rest) (vs ++ other)
    (xs, t, e ∙ ap (λ l. l ++ rest) d ∙ append_assoc xs ys rest)
    (us, u, h ∙ ap (λ l. l ++ other) f ∙ append_assoc us vs other) in
    let P : X → Type 0 = λ z. behind z w vs in
    each m v w (ys ++ rest) rest other (ys, a, refl) (vs, subst P (sym same) b, left)

pub data_determined : (n : ℕ) → Determined (λ (x y : Bor (List ℕ)). x.now ≡ y.now) (DataText n)
unfolding First DataText WithLineEnd CountedText
data_determined n x y tokens rest other (front, (xs, (many, shown), e), d)
    (back, (ys, (also, see), f), h) =
    let (same, left) = same_beginnings xs ys (line_end ++ rest) (line_end ++ other)
    (many ∙ sym also) (sym (append_assoc xs line_end rest) ∙ ap (λ l. l ++ rest) (sym e) ∙ sym d
    ∙ h ∙ ap (λ l. l ++ other) f ∙ append_assoc ys line_end other) in
    (shown ∙ same ∙ sym see, same_others (same_others left))

pub nothing_left : {front back tokens rest other : List ℕ} → front ≡ [] → back ≡ []
    → tokens ≡ front ++ rest → tokens ≡ back ++ other → rest ≡ other
nothing_left {rest = rest} {other = other} a b d h =
    ap (λ l. l ++ rest) (sym a) ∙ sym d ∙ h ∙ ap (λ l. l ++ other) b

-- and the same of lists of the same length
abbrev pub Pairs : {O : Type 0} → (O → O → Type 0) → Text ℕ (List O) → Type 0
Pairs {O} alike elements =
    (os ps : List O) (xs ys rest other : List ℕ) → elements os xs → elements ps ys
    → xs ++ rest ≡ ys ++ other → length os ≡ length ps
    → ArePairwise alike os ps × (rest ≡ other)

pub rows_determined : {O : Type 0} (text : Text ℕ O) (alike : O → O → Type 0)
    → Determined alike text → Pairs alike (EachText text)
unfolding First EachText
rows_determined text alike each [] [] xs ys rest other a b e n =
    (tt, ap (λ l. l ++ rest) (sym a) ∙ e ∙ ap (λ l. l ++ other) b)
rows_determined text alike each [] (p ∷ ps) xs ys rest other a b e n = absurd (omega (arith, n))
rows_determined text alike each (o ∷ os) [] xs ys rest other a b e n = absurd (omega (arith, n))
rows_determined text alike each (o ∷ os) (p ∷ ps) xs ys rest other (us, vs, a, more, d)
    (ws, zs, b, also, f) e n =
    let (one, left) = each o p (us ++ (vs ++ rest)) (vs ++ rest) (zs ++ other) (us, a, refl) (
      ws,
      b,
      sym (append_assoc us vs rest) ∙ ap (λ l. l ++ rest) (sym d) ∙ e
          ∙ ap (λ l. l ++ other) f ∙ append_assoc ws zs other,
    ) in
    let (others, last) = rows_determined text alike each os ps vs zs rest other more also left
    (omega (arith, n)) in ((one, others), last)

-- a slice shows its bytes
pub shown_is : (these : List ℕ → Type 0) (slice : Bor (List ℕ)) → these slice.now
    → Shown these slice slice.now
unfolding Shown
shown_is these slice is = (is, refl)

pub shown_are : (these : List ℕ → Type 0) (slice : Bor (List ℕ)) (tokens : List ℕ)
    → Shown these slice tokens → these tokens
unfolding Shown
shown_are these slice tokens (is, shown) = is
