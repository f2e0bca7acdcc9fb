-- Laws of elements that are folded.
use Rattle.std.specs.Prelude.{◌≡◌, List, [], ◌∷◌, ⊤}
use Rattle.parser_definitions.specs.Left.{End, Left}
use Rattle.parser_definitions.specs.Outcome.{Alike, Does, Outcome, Setting, took}
use Rattle.winnow_separated.specs.SeparatedFoldl1.{FoldsLeft}
use Rattle.winnow_separated.specs.SeparatedFoldr1.{FoldsRight}

-- `Reaches does at s t`: zero or more calls that succeed lead from the state `s` to `t`.
pub data Reaches {S T O : Type 0} (does : Does S T O) (at : Setting) (s : S) : S → Type 0 where
  here : Reaches does at s s
  onward : {t u : S} {w m : Left T} {o : O} → Reaches does at s t
      → does at t w (took o (u, m)) → Reaches does at s u

-- Each state that `s` reaches and the input determine whether a call succeeds, the kind of its
-- error, its new state and the rest, unless it is out of memory. Its outputs may differ.
abbrev pub Decides : {S T O : Type 0} → Does S T O → Setting → S → Type 0
Decides {S} {T} {O} does at s =
    (t : S) → Reaches does at s t → (w : Left T) (x y : Outcome (End S T) O) → does at t w x
    → does at t w y → Alike (λ o p. ⊤) x y

-- Each state that `s` reaches and the input determine the output of a call that succeeds.
abbrev pub DecidesOutputs : {S T O : Type 0} → Does S T O → Setting → S → Type 0
DecidesOutputs {S} {T} {O} does at s =
    (t : S) → Reaches does at s t → (w : Left T) (o p : O) (a b : End S T)
    → does at t w (took o a) → does at t w (took p b) → o ≡ p

-- A separator and the element after it, from a place to another, with their outputs.
abbrev pub IsTurn : {S W T O D : Type 0} → Does S T O → Does W T D → Setting → End (S × W) T
    → D × O → End (S × W) T → Type 0
IsTurn {T = T} element separator at p link q =
    (m : Left T) × separator at p.0.1 p.1 (took link.0 (q.0.1, m))
    × element at p.0.0 m (took link.1 (q.0.0, q.1))

-- Separators and elements, each where the one before it ended: from a place through places.
abbrev pub Turns : {S W T O D : Type 0} → Does S T O → Does W T D → Setting → End (S × W) T
    → List (D × O) → List (End (S × W) T) → Type 0
Turns element separator at p [] [] = ⊤
Turns element separator at p [] (q ∷ places) = ⊥
Turns element separator at p (link ∷ links) [] = ⊥
Turns element separator at p (link ∷ links) (q ∷ places) =
    IsTurn element separator at p link q × Turns element separator at q links places

-- Two calls that fold elements, from one state and input, where both succeed: the elements
-- and separators of both are the outputs of one list of calls, the first folded to the left and the
-- second to the right, and both leave the same. Where outputs are decided too, these are the same
-- elements and separators.
abbrev pub SameFolds : {S W H T O D : Type 0} → (H → O → D → O → O → H → Type 0) → Does S T O
    → Does W T D → Does (S × W × H) T O → Does (S × W × H) T O → Setting → S × W × H → Type 0
SameFolds {S} {W} {H} {T} {O} {D} step element separator to_left to_right at s =
    (w : Left T) (left right : O) (t u : S × W × H) (j k : Left T)
    → to_left at s w (took left (t, j)) → to_right at s w (took right (u, k))
    → (start : End S T) × (places : List (End (S × W) T))
    × (first : O) × (links : List (D × O)) × (one : O) × (others : List (D × O))
    × element at s.0 w (took first start)
    × Turns element separator at ((start.0, s.1), start.1) links places
    × FoldsLeft step s.2 first links left t.2
    × element at s.0 w (took one start)
    × Turns element separator at ((start.0, s.1), start.1) others places
    × FoldsRight step s.2 one others right u.2
    × (t.0 ≡ u.0) × (t.1 ≡ u.1) × (j ≡ k)
    × (DecidesOutputs element at s.0 → DecidesOutputs separator at s.1
    → (first ≡ one) × (links ≡ others))

-- From a state from which state and input determine how elements and separators end.
abbrev pub FoldTheSame : {S W H T O D : Type 0} → (H → O → D → O → O → H → Type 0) → Does S T O
    → Does W T D → Does (S × W × H) T O → Does (S × W × H) T O → Type 0
FoldTheSame {S} {W} {H} step element separator to_left to_right =
    (at : Setting) (s : S × W × H) → Decides element at s.0 → Decides separator at s.1
    → SameFolds step element separator to_left to_right at s

-- The same under premises of the definitions of its element and its separator, by which state and
-- input determine the outcomes of both.
abbrev pub FoldTheSameIf : {S W H T O D : Type 0} → Type 0 → Type 0
    → (H → O → D → O → O → H → Type 0) → Does S T O → Does W T D → Does (S × W × H) T O
    → Does (S × W × H) T O → Type 0
FoldTheSameIf {S} {W} {H} premise between step element separator to_left to_right =
    premise → between → (at : Setting) (s : S × W × H)
    → SameFolds step element separator to_left to_right at s
