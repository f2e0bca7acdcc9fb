-- Lemmas about the element in a part of a list.
use Rattle.std.specs.Prelude.{◌≡◌, ◌++◌, ℕ, List, [], ◌∷◌, length}
use Rattle.std.specs.List.{All}
use Rattle.std.proofs.Common.{refl, sym, ap, subst, ◌∙◌, arith, append_assoc, length-append}
use Rattle.std.proofs.lemmas.List.Elements.{All-append, All-cons, All-head, All-nil}
use Rattle.streams.specs.Equal.{same_first}
use Rattle.format_http.specs.Bodies.Lists.{IsElement}
use Rattle.format_http.specs.Heads.Bytes.{IsWhite}
use Rattle.format_http.specs.Heads.FieldLine.{IsTrimmed}
use Rattle.format_http.proofs.OneLemmas.Values.{value_one}

-- a part has one element
pub one_element : (e f part : List ℕ) → IsElement e part → IsElement f part → e ≡ f
one_element e f part x y = value_one x.before e x.behind y.before f y.behind x.white_before
    x.white_behind y.white_before y.white_behind x.begins_bare x.ends_bare y.begins_bare
    y.ends_bare (sym x.splits ∙ y.splits)

-- Whitespace was taken off the beginning so far.
pub record IsDropped (left part : List ℕ) : Type 0 where
  pub before : List ℕ
  pub splits : part ≡ before ++ left
  pub white : All IsWhite before

pub none_dropped : (part : List ℕ) → IsDropped part part
none_dropped part = record { before = []; splits = refl; white = All-nil IsWhite }

pub more_dropped : (b : ℕ) (more left part : List ℕ) → IsDropped left part → left ≡ b ∷ more
    → IsWhite b → IsDropped more part
more_dropped b more left part is e white = record {
  before = is.before ++ b ∷ [];
  splits = is.splits ∙ ap (λ l. is.before ++ l) e ∙ sym (append_assoc is.before (b ∷ []) more);
  white = All-append IsWhite is.before (b ∷ []) is.white
      (All-cons IsWhite b [] white (All-nil IsWhite));
}

-- what begins with no whitespace and is trimmed is the element
pub found_element : (b : ℕ) (more left part value : List ℕ) → IsDropped left part
    → left ≡ b ∷ more → (IsWhite b → ⊥) → IsTrimmed value left → IsElement value part
found_element b more left part [] is e not trimmed =
    let Q : List ℕ → Type 0 = λ l. All IsWhite l in
    absurd (not (All-head IsWhite b more
    (subst Q (sym trimmed.splits ∙ e) trimmed.white_behind)))
found_element b more left part (v ∷ value) is e not trimmed = record {
  before = is.before;
  behind = trimmed.behind;
  splits = is.splits ∙ ap (λ l. is.before ++ l) trimmed.splits;
  white_before = is.white;
  white_behind = trimmed.white_behind;
  begins_bare = λ c front f white.
      not (subst IsWhite (sym (same_first f) ∙ same_first (sym trimmed.splits ∙ e)) white);
  ends_bare = trimmed.ends_bare;
}

all_dropped : (left part : List ℕ) → IsDropped left part → length left ≡ 0 → All IsWhite part
all_dropped [] part is none =
    subst (λ l. All IsWhite l) (sym is.splits)
    (All-append IsWhite is.before [] is.white (All-nil IsWhite))
all_dropped (x ∷ left) part is none = absurd (omega (arith, none))

-- without its whitespace the rest is the element
pub empty_element : (left part : List ℕ) → IsDropped left part → length left ≡ 0
    → IsElement left part
empty_element [] part is none = record {
  before = [];
  behind = part;
  splits = refl;
  white_before = All-nil IsWhite;
  white_behind = all_dropped [] part is none;
  begins_bare = λ b more e white. omega (arith, ap (λ l. length l) e);
  ends_bare = λ b front e white.
      omega (arith, ap (λ l. length l) e, length-append front (b ∷ []));
}
empty_element (x ∷ left) part is none = absurd (omega (arith, none))
