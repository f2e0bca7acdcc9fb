-- Runs of bytes, part by part.
use Rattle.std.proofs.Common.{◌≡◌, ◌∙◌, ◌≤◌, ◌<◌, ◌+◌, ◌++◌, ap, ℕ, List, length}
use Rattle.std.proofs.Common.{take, drop, sym, subst, arith}
use Rattle.std.proofs.Common.{length-drop, get_or}
use Rattle.std.proofs.Math.Seq.{take-add}
use Rattle.std.proofs.lemmas.List.{drop-drop, drop_more, take-append-drop}
use Rattle.std.proofs.lemmas.List.Elements.{All-append, All-more}
use Rattle.std.specs.List.{All}
use Rattle.format_http_places.specs.Grammar.{Differs}
use Rattle.format_http_places.specs.Runs.{FirstAre, NotFirst, SoMany, SoManyOf16}

pub first_more : (P : ℕ → Type 0) (bytes rest : List ℕ) (at n : ℕ) → FirstAre P bytes at
    → rest ≡ drop at bytes → FirstAre P rest n → FirstAre P bytes (at + n)
first_more P bytes rest at n (within, all) is (room, more) =
    let Q : List ℕ → Type 0 = λ l. All P l in
    let R : List ℕ → Type 0 = λ l. All P (take n l) in (
      omega (arith, within, room, subst (λ l. n ≤ length l) is room, length-drop at bytes),
      subst Q (sym (take-add at n bytes)) (All-append P (take at bytes) (take n (drop at bytes)) all
          (subst R is more)),
    )

-- and then it ends
pub first_ends : (P : ℕ → Type 0) (bytes rest : List ℕ) (at n : ℕ) → FirstAre P bytes at
    → rest ≡ drop at bytes → SoManyOf16 P rest n → n < 16 → SoMany P bytes (at + n)
first_ends P bytes rest at n before is (few, some, ends) short =
    let Q : List ℕ → Type 0 = λ l. NotFirst P l in (
      first_more P bytes rest at n before is some,
      subst Q (drop-drop n at bytes) (subst (λ l. NotFirst P (drop n l)) is (ends short)),
    )

-- one more
pub first_one : (P : ℕ → Type 0) (bytes : List ℕ) (at : ℕ) → FirstAre P bytes at
    → at < length bytes → P (get_or bytes at 0) → FirstAre P bytes (at + 1)
first_one P bytes at (within, all) less is =
    (omega (arith, less), All-more P bytes at 0 less all is)

-- bytes are the first of a text, and its next one is not there
pub differs_at : (text bytes rest : List ℕ) (at left : ℕ) → at < length text
    → bytes ≡ take at text ++ rest → NotFirst (λ b. b ≡ get_or text at 0) rest
    → left ≡ length rest → Differs text bytes left
differs_at text bytes rest at left less e other size = record {
  front = take at text;
  byte = get_or text at 0;
  more = drop (at + 1) text;
  back = rest;
  text_is = sym (take-append-drop at text) ∙ ap (λ l. take at text ++ l) (drop_more text at 0 less);
  splits = e;
  other = other;
  size = sym size;
}
