-- The statements of the laws of integers.
use Rattle.std.specs.Prelude.{◌≡◌, ⊤, ℕ, List, ◌++◌, length, reverse}
use Rattle.std.proofs.Common.{refl, sym, ap, ◌∙◌, arith, inl, inr, length-append}
use Rattle.std.proofs.lemmas.List.{length-reverse, reverse-reverse}
use Rattle.streams.specs.ByteStream.{CountsBytes}
use Rattle.streams.specs.Reading.{Reading}
use Rattle.parser_definitions.specs.Integer.{IntegerDoes}
use Rattle.parser_definitions.specs.Left.{End, Left}
use Rattle.parser_definitions.specs.Outcome.{Outcome, Setting}
use Rattle.winnow_integers.specs.Integer.Reads.{same_fronts}
use Rattle.winnow_integers.specs.Integer.Values.{reverse_are_bytes}
use Rattle.winnow_integers.specs.IntegerLaws.{with_tokens, ReadsReversed}

module _ {S O : Type 0} (width : ℕ) (reading : Reading ℕ S) (counts : CountsBytes reading) where
  turned : (v u : List ℕ → O) → ((bytes : List ℕ) → v bytes ≡ u (reverse bytes))
      → (at : Setting) (w k : Left ℕ) (bytes rest : List ℕ) (x : Outcome (End ⊤ ℕ) O)
      → w.tokens ≡ bytes ++ rest → k.tokens ≡ reverse bytes ++ rest → k.place ≡ w.place
      → k.recorded ≡ w.recorded → length bytes ≡ width
      → IntegerDoes width (λ (_ : ⊤). v) reading at tt w x
      → IntegerDoes width (λ (_ : ⊤). u) reading at tt k x
  turned v u same at w k bytes rest x at_w at_k place recorded as_many
      (inl (o, end, (taken, many, are, passed, is), e)) =
      let fronts = same_fronts bytes taken rest end.tokens (sym at_w ∙ passed.tokens)
      (as_many ∙ sym many) in
      inl (
        o,
        end,
        (
          reverse taken,
          length-reverse taken ∙ many,
          reverse_are_bytes taken are,
          record {
            tokens = at_k ∙ ap (λ l. reverse l ++ rest) (sym fronts.0)
                ∙ ap (λ l. reverse taken ++ l) (sym fronts.1);
            place = passed.place
                ∙ ap (λ p. reading.advance p (reading.units taken)) (sym place)
                ∙ ap (λ n. reading.advance k.place n) (counts.units taken
                ∙ sym (length-reverse taken) ∙ sym (counts.units (reverse taken)));
            recorded = passed.recorded ∙ sym recorded;
          },
          is ∙ same taken,
        ),
        e,
      )
  turned v u same at w k bytes rest x at_w at_k place recorded as_many (inr (few, e)) =
      let total = length-append bytes rest in
      absurd (omega (arith, few, as_many, ap (λ l. length l) at_w, total))

  -- a value of the bytes in the other order is read so
  pub reads_reversed : (value : List ℕ → O)
      → ReadsReversed width
      (IntegerDoes width (λ (_ : ⊤). λ bytes. value (reverse bytes)) reading)
      (IntegerDoes width (λ (_ : ⊤). value) reading)
  reads_reversed value at w bytes rest x begins as_many =
      let k = with_tokens (reverse bytes ++ rest) w in (
        λ d. turned (λ l. value (reverse l)) value (λ l. refl) at w k bytes rest x begins refl
            refl refl as_many d,
        λ d. turned value (λ l. value (reverse l)) (λ l. ap value (sym (reverse-reverse l))) at k w
            (reverse bytes) rest x refl
            (begins ∙ ap (λ l. l ++ rest) (sym (reverse-reverse bytes))) refl refl
            (length-reverse bytes ∙ as_many) d,
      )
