-- Lemmas about calls that take letters.
use Rattle.std.proofs.Common.{ℕ, List, Ok, Err}
use Rattle.std.specs.Prelude.{◌≡◌, ◌<◌, ◌++◌, length, ⊤, Result, IfOk}
use Rattle.std.specs.Borrow.{Bor}
use Rattle.std.specs.List.{All}
use Rattle.winnow.specs.AsChar.{IsAlpha}
use Rattle.winnow.specs.ClassDefinition.{ClassDoes}
use Rattle.winnow.specs.Counted.{counted_reading}
use Rattle.winnow.specs.Does.{Ran}
use Rattle.winnow.specs.Form.{answer_by, plain}
use Rattle.winnow.specs.Input.{Input}
use Rattle.winnow.specs.Inversion.Takes.{took_all, took_counted, tells_of}
use Rattle.winnow.specs.Kind.{Kind}
use Rattle.winnow.specs.Outcome.{setting_of}

-- A word of letters, at least one, was taken.
pub record TookLetters (i j : Input ℕ) (word : List ℕ) : Type 0 where
  pub some : 0 < length word
  pub letters : All IsAlpha word
  pub splits : i.left.tokens ≡ word ++ j.left.tokens

pub word_told : {E : Type 0} (kind : E → Kind) (i j : Input ℕ)
    (result : Result (Bor (List ℕ)) E)
    → Ran {S = ⊤} counted_reading (ClassDoes IsAlpha 1 (λ b. b) (λ b. b) counted_reading) plain tt
    i (answer_by kind result) tt j → IfOk result (λ word. TookLetters i j word.now)
word_told kind i j (Ok word) ran =
    let taken = took_counted (setting_of plain i) ran.3 in
    record {
      some = taken.enough;
      letters = took_all IsAlpha (tells_of IsAlpha).yes taken;
      splits = taken.longest.splits;
    }
word_told kind i j (Err e) ran = tt

pub letters_told : {E : Type 0} (kind : E → Kind) (i j : Input ℕ)
    (result : Result (Bor (List ℕ)) E)
    → Ran {S = ⊤} counted_reading (ClassDoes IsAlpha 1 (λ b. b) (λ b. b) counted_reading) plain tt
    i (answer_by kind result) tt j → IfOk result (λ word. All IsAlpha word.now)
letters_told kind i j (Ok word) ran = (word_told kind i j (Ok word) ran).letters
letters_told kind i j (Err e) ran = tt
