-- Lemmas about the integer of a number.
use Rattle.std.proofs.Common.{◌∙◌, FitsSigned, List, Some, subst, sym, ℕ, ℤ}
use Rattle.std.specs.Int.{w64}
use Rattle.std.proofs.lemmas.Int.{to_z-of_z}
use mir.Val.{of_z, to_z}
use Rattle.format_json_extents.specs.Integer.{IsInteger}
use Rattle.format_json_extents.specs.Number.{IsNumber}
use Rattle.format_json_extents.specs.Texts.{IsLongest}
use Rattle.exported.specs.JsonInteger.{ShowsInteger}

pub integer_shown : (bytes text rest : List ℕ) (n : ℤ) → IsLongest IsNumber text bytes rest
    → IsInteger text (Some n) → ShowsInteger bytes (to_z w64 (of_z w64 n))
integer_shown bytes text rest n long is =
    let fits : FitsSigned w64 n = subst (FitsSigned w64) (sym is.1) is.0.1 in
    (text, rest, long, (is.0, to_z-of_z w64 n fits ∙ is.1))
