-- How the text of a string is compared with a name, piece by piece.
use Rattle.std.proofs.Common.{◌++◌, ◌-◌, ◌∙◌, ◌∷◌, ◌≡◌, [], ℕ, Bool, List, ap, append_assoc, arith}
use Rattle.std.proofs.Common.{false, inr, length, length-append, refl, subst, sym, take, true}
use Rattle.std.proofs.lemmas.List.{append-nil, append_cancel_left}
use Rattle.std.proofs.lemmas.Bool.{true≢false}
use Rattle.std.specs.Char.{encode_utf8}
use Rattle.std.specs.List.{All}
use Rattle.format_json_extents.proofs.Scanning.{take_prefix_by_rest}
use Rattle.format_json_extents.proofs.Matching.{heads_equal}
use Rattle.format_json_extents.proofs.Unescaping.{means_end, means_run}
use Rattle.format_json_extents.specs.Names.{IsEqualIf, IsTailCompared, Remains, name_text}
use Rattle.format_json_extents.specs.Strings.{IsEscape, IsUnescaped}
use Rattle.format_json_extents.specs.Texts.{NoByte, RestAfter}
use Rattle.format_json_extents.specs.Unescaped.{Means, means_nothing}
use Rattle.format_json_texts.specs.Strings.{EscapeText}

-- ---- one name, byte by byte

-- `passed` was removed from the text and from the name
pub record Passed (token : Bool) (name text left wanted : List ℕ) : Type 0 where
  pub passed : List ℕ
  pub splits : text ≡ passed ++ wanted
  pub said_so : name_text token name ≡ passed ++ name_text token left

pub passed_nothing : (token : Bool) (name text : List ℕ) → Passed token name text name text
passed_nothing token name text = record { passed = []; splits = refl; said_so = refl }

module _ {token : Bool} {name text left wanted : List ℕ}
    (it : Passed token name text left wanted) where
  pub passed_more : {more others : List ℕ} {b c : ℕ} → wanted ≡ b ∷ others
      → name_text token left ≡ c ∷ name_text token more → c ≡ b → Passed token name text more others
  passed_more {more} {others} {b} e f same = record {
    passed = it.passed ++ b ∷ [];
    splits = simp (it.splits, e, append_assoc);
    said_so = simp (it.said_so, f, same, append_assoc);
  }

  module _ {same : Bool} {whole meant : List ℕ} (is : same ≡ true)
      (from : Remains token whole meant same name) (rest : List ℕ) where
    strip_none : ((more : List ℕ) → name_text token left ≡ wanted ++ more → ⊥)
        → Remains token whole (meant ++ text) false rest
    strip_none none = record {
      yes = λ e. absurd (true≢false (sym e));
      no = λ e more f.
          none more (append_cancel_left it.passed (name_text token left) (wanted ++ more)
          (sym it.said_so
          ∙ append_cancel_left meant (name_text token name) (text ++ more)
          (sym (from.yes is) ∙ f ∙ append_assoc meant text more)
          ∙ ap (λ l. l ++ more) it.splits ∙ append_assoc it.passed wanted more));
    }

    -- another byte follows
    pub strip_other : (more : List ℕ) {others : List ℕ} {b c : ℕ} → wanted ≡ b ∷ others
        → name_text token left ≡ c ∷ name_text token more → (c ≡ b → ⊥)
        → Remains token whole (meant ++ text) false rest
    strip_other more e f not =
        strip_none (λ tail g. not (heads_equal (sym f ∙ g ∙ ap (λ l. l ++ tail) e)))

    -- or none does
    pub strip_ends : {others : List ℕ} {b : ℕ} → wanted ≡ b ∷ others → name_text token left ≡ []
        → Remains token whole (meant ++ text) false rest
    strip_ends e f =
        strip_none (λ tail g. omega (
          arith,
          ap (λ l. length l) (sym f ∙ g ∙ ap (λ l. l ++ tail) e),
        ))

pub all_passed : (token : Bool) (name text left wanted whole meant : List ℕ)
    → Passed token name text left wanted → whole ≡ meant ++ name_text token name → wanted ≡ []
    → whole ≡ (meant ++ text) ++ name_text token left
all_passed token name text left wanted whole meant it from e =
    from ∙ ap (λ l. meant ++ l) it.said_so
    ∙ sym (append_assoc meant it.passed (name_text token left))
    ∙ ap (λ l. (meant ++ l) ++ name_text token left)
    (sym (it.splits ∙ ap (λ l. it.passed ++ l) e ∙ append-nil it.passed))

-- ---- at the end of the text

module _ {token same : Bool} {left whole meant : List ℕ}
    (from : Remains token whole meant same left) where
  pub is_over : name_text token left ≡ [] → same ≡ true → meant ≡ whole
  is_over e is = sym (from.yes is ∙ ap (λ l. meant ++ l) e ∙ append-nil meant)

  pub not_same : same ≡ false → meant ≡ whole → ⊥
  not_same other is = from.no other [] (sym is ∙ sym (append-nil meant))

-- more of the name follows
pub not_over : (token same : Bool) {left whole meant rest : List ℕ} {b : ℕ}
    → name_text token left ≡ b ∷ rest → Remains token whole meant same left → meant ≡ whole → ⊥
not_over token true {left} {meant = meant} e from is =
    omega (
      arith,
      ap (λ l. length l) is,
      ap (λ l. length l) (from.yes refl),
      length-append meant (name_text token left),
      ap (λ l. length l) e,
    )
not_over token false e from is = not_same from refl is

-- ---- in a string

-- the pieces so far denote `meant`, which was removed from the name
pub record Compared (token : Bool) (whole bytes rest : List ℕ) (same : Bool) (left : List ℕ)
    : Type 0 where
  pub text : List ℕ
  pub meant : List ℕ
  pub means : Means text meant
  pub splits : bytes ≡ text ++ rest
  pub remains : Remains token whole meant same left

pub compared_nothing : (token : Bool) (name bytes : List ℕ)
    → Compared token (name_text token name) bytes bytes true name
compared_nothing token name bytes = record {
  text = [];
  meant = [];
  means = means_nothing [] [] refl refl;
  splits = refl;
  remains = record { yes = λ same. refl; no = λ other. absurd (true≢false other) };
}

-- the bytes are removed from the name
abbrev Strips : Bool → Bool → List ℕ → List ℕ → Bool → List ℕ → Type 0
Strips token same left one now after =
    (whole meant : List ℕ) → Remains token whole meant same left
    → Remains token whole (meant ++ one) now after

pub compared_run : {token : Bool} {whole bytes rest ahead run left after : List ℕ}
    {same now : Bool} → Compared token whole bytes rest same left
    → RestAfter (All IsUnescaped) IsUnescaped rest ahead
    → run ≡ take (length rest - length ahead) rest → Strips token same left run now after
    → Compared token whole bytes ahead now after
compared_run {whole = whole} {ahead = ahead} {run = run} it leaves is strips =
    let e = is ∙ take_prefix_by_rest leaves.stands.text ahead leaves.stands.splits in
    record {
      text = it.text ++ run;
      meant = it.meant ++ run;
      means = means_run run (subst (All IsUnescaped) (sym e) leaves.stands.is) it.means;
      splits = simp (it.splits, leaves.stands.splits, e, append_assoc);
      remains = strips whole it.meant it.remains;
    }

pub compared_escape : {token : Bool} {whole bytes ahead escape next between left after : List ℕ}
    {same now : Bool} → Compared token whole bytes ahead same left → ahead ≡ 92 ∷ escape
    → RestAfter IsEscape NoByte escape next
    → between ≡ take (length escape - length next) escape
    → (char : ℕ) × EscapeText char (92 ∷ between)
    × Strips token same left (encode_utf8 char) now after
    → Compared token whole bytes next now after
compared_escape {whole = whole} {next = next} {between = between} it e leaves is
    (char, text, strips) =
    let f = is ∙ take_prefix_by_rest leaves.stands.text next leaves.stands.splits in
    record {
      text = it.text ++ 92 ∷ between;
      meant = it.meant ++ encode_utf8 char;
      means = means_end it.means (inr (char, text, refl));
      splits = simp (it.splits, e, leaves.stands.splits, f, append_assoc);
      remains = strips whole it.meant it.remains;
    }

pub tail_compared : {token : Bool} {whole bytes ahead end left : List ℕ} {same is : Bool}
    → Compared token whole bytes ahead same left → ahead ≡ 34 ∷ end
    → ((w meant : List ℕ) → Remains token w meant same left → IsEqualIf is w meant)
    → IsTailCompared is whole bytes end
tail_compared {whole = whole} it e over = record {
  text = it.text;
  meant = it.meant;
  means = it.means;
  splits = simp (it.splits, e);
  is_whole = over whole it.meant it.remains;
}
