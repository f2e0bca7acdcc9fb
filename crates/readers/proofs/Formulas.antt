-- Statements about a text, restated for its bytes.
use Rattle.std.proofs.Common.{◌≡◌, ℕ, List, inr, subst, sym}
use Rattle.std.specs.Prelude.{ℤ, Result, Ok, Err, IfOk}
use Rattle.std.specs.Str.{IsUtf8}
use Rattle.readers.specs.declared.program.Verdict.{Verdict}
use Rattle.readers.specs.declared.program.Verdict.TheVariants.{Accepted, Invalid}
use Rattle.readers.specs.declared.program.Format.TheVariants.{Calc}
use Rattle.readers.specs.Program.{IsAnswerText, IsRefusedFormula, number_line, refused_line}
use Rattle.format_calculator.specs.Calculator.{IsFormulaFault, IsValue}
use Rattle.format_calculator.specs.declared.fault.ReadError.TheVariants.{Invalid as refused_at}

pub formula_value : (bytes text : List ℕ) (v : ℤ) (line : List ℕ) → text ≡ bytes → IsUtf8 bytes
    → IsValue text v → line ≡ number_line v → IsAnswerText Calc bytes Accepted line
unfolding IsAnswerText
formula_value bytes text v line same utf8 is e =
    (utf8, (v, subst (λ z. IsValue z v) same is, e))

pub formula_fault : (bytes text : List ℕ) (n : ℕ) → text ≡ bytes → IsUtf8 bytes
    → IsFormulaFault text (refused_at n) → IsRefusedFormula bytes n
formula_fault bytes text n same utf8 is =
    inr (utf8, subst (λ z. IsFormulaFault z (refused_at n)) same is)

pub formula_refused : {X E : Type 0} (verdict : X → Verdict) (line : X → List ℕ) (r : Result X E)
    (bytes : List ℕ) (n : ℕ)
    → IfOk r (λ a. (verdict a ≡ Invalid) × (line a ≡ refused_line n)) → IsRefusedFormula bytes n
    → IfOk r (λ a. IsAnswerText Calc bytes (verdict a) (line a))
unfolding IsAnswerText
formula_refused verdict line (Ok a) bytes n (is, e) refused =
    subst (λ z. IsAnswerText Calc bytes z (line a)) (sym is) (n, refused, e)
formula_refused verdict line (Err x) bytes n is refused = tt
