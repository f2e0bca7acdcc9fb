-- A number as a part of an expression: its definition keeps the state.
use Rattle.std.specs.Prelude.{◌≡◌, ℕ, Some, Bool, List}
use Rattle.std.proofs.Common.{refl, ap, ◌∙◌, inl, inr}
use Rattle.streams.specs.Reading.{Reading}
use Rattle.stream_errors.specs.Form.{ErrorForm, modal, plain}
use Rattle.parser_definitions.specs.Left.{Left}
use Rattle.parser_definitions.specs.Number.{NumberDoes, Numbers}
use Rattle.parser_definitions.specs.Numeral.{HasDigits, HasSign, LacksMore, is_none, left_for}
use Rattle.parser_definitions.specs.Outcome.{Setting}
use Rattle.winnow_expression_trees.specs.Premises.Decided.{StaysBy, leaves_by, leaves_lacks}

left_kept : {T : Type 0} (form : ErrorForm) (w passed : Left T) → passed.recorded ≡ w.recorded
    → (left_for form w passed).recorded ≡ w.recorded
left_kept plain w passed e = refl
left_kept modal w passed e = e

module _ {K T L : Type 0} (seen : K → T) (code : K → ℕ) (reading : Reading T L) where
  sign_kept : (signed : Bool) (w mid : Left T) (sign : List ℕ)
      → HasSign seen code reading signed w sign mid → mid.recorded ≡ w.recorded
  sign_kept signed w mid sign (inl (x, is, has, passed, e)) = passed.recorded
  sign_kept signed w mid sign (inr (none, e, same)) = ap (λ l. l.recorded) same

  digits_kept : (zero : Bool) (at : Setting) (w rest : Left T) (digits : List ℕ)
      → HasDigits seen code reading zero at w digits rest → rest.recorded ≡ w.recorded
  digits_kept zero at w rest digits (inl (x, is, c, passed, e)) = passed.recorded
  digits_kept zero at w rest digits
      (inr (front, first, others, e, leads, all, passed, chars, none, cut)) =
      passed.recorded

  lacks_kept : (w passed : Left T) → LacksMore seen code reading w passed
      → passed.recorded ≡ w.recorded
  lacks_kept w passed (inl (none, same)) = ap (λ l. l.recorded) same
  lacks_kept w passed (inr (x, leads, p, more)) = p.recorded

  module _ {N V : Type 0} (g : Numbers N V) where
    pub number_stays : {S : Type 0} (s : S) → StaysBy (NumberDoes g seen code reading) s
    number_stays s at w y (inl (n, rest, (sign, digits, (mid, signs, has), fits, is), ends)) =
        leaves_by s w.recorded ends (
          refl,
          digits_kept (is_none sign) at mid rest digits has ∙ sign_kept g.signed w mid sign signs,
        )
    number_stays s at w y (inr (inl (misfit, ends))) = leaves_by s w.recorded ends (refl, refl)
    number_stays s at w y
        (inr (inr (inl (place, (sign, mid, passed, signs, lacks, more, is), ends)))) =
        leaves_by s w.recorded ends (leaves_lacks N s w.recorded at.form at.more (Some 1)
        (s, place) (
          refl,
          ap (λ l. l.recorded) is
              ∙ left_kept at.form w passed (lacks_kept mid passed lacks
              ∙ sign_kept g.signed w mid sign signs),
        ))
    number_stays s at w y (inr (inr (inr (none, ends)))) = leaves_by s w.recorded ends (refl, refl)
