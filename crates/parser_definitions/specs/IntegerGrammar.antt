-- Grammars of integers.
use Rattle.std.specs.Prelude.{◌≡◌, ◌<◌, ℕ, List, ◌++◌, length}
use Rattle.std.proofs.Common.{sym, ap, ◌∙◌, arith, length-append}
use Rattle.grammars.specs.Grammar.{Grammar, IsUnique, TakesTokens}
use Rattle.grammars.specs.Grammar.Lengths.{SaysOne, same_beginnings}
use Rattle.parser_definitions.specs.Integer.{AreBytes}

-- The tokens start with `width` bytes, and their value is the output.
unfoldable pub Integer : {O : Type 0} → ℕ → (List ℕ → O) → Grammar ℕ O
Integer width value tokens o rest =
    (bytes : List ℕ) × (length bytes ≡ width) × AreBytes bytes × (tokens ≡ bytes ++ rest)
    × (o ≡ value bytes)

module _ {O : Type 0} (width : ℕ) (value : List ℕ → O) where
  pub integer_unique : IsUnique (Integer width value)
  unfolding Integer
  integer_unique = record {
    ends = λ tokens o rest (bytes, many, are, e, is). (bytes, e);
    one = λ tokens o p rest other (xs, n, are, e, is) (ys, m, are2, f, is2).
        (same_beginnings xs ys rest other (n ∙ sym m) (sym e ∙ f)).1;
  }

  pub integer_takes : 0 < width → TakesTokens (Integer width value)
  unfolding Integer
  integer_takes some = record {
    fewer = λ tokens o rest (bytes, many, are, e, is).
        omega (arith, ap (λ l. length l) e, length-append bytes rest, many, some);
  }

  -- so an integer is one length
  pub integer_says : (number : O → ℕ) → SaysOne number (Integer width value)
  unfolding Integer
  integer_says number tokens o p rest other (xs, n, are, e, is) (ys, m, are2, f, is2) =
      let same = (same_beginnings xs ys rest other (n ∙ sym m) (sym e ∙ f)).0 in
      ap number is ∙ ap (λ l. number (value l)) same ∙ sym (ap number is2)
