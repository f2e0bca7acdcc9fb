-- Text with escapes: its control, and its slices.
use Rattle.std.specs.Prelude.{◌≡◌, ℕ, List, [], ◌∷◌, length}
use Rattle.std.specs.Borrow.{Bor}
use Rattle.std.proofs.Common.{refl, sym, ap, ◌∙◌, arith, length-append}
use Rattle.winnow.specs.Controls.{NeverShort}
use Rattle.winnow.specs.Counted.{counted_reading}
use Rattle.winnow.specs.Spelled.{ShowSame}

-- A byte is one token, so it is never cut off.
pub byte_never_short : NeverShort (λ (b : ℕ) xs. xs ≡ b ∷ [])
byte_never_short b [] some short = some refl
byte_never_short b (t ∷ rest) some (x, more, e) =
    absurd (omega (arith, ap (λ l. length l) e, length-append rest (x ∷ more)))

-- slices that show the same bytes have the same bytes
pub same_bytes : (v w : Bor (List ℕ)) → ShowSame counted_reading v w → v.now ≡ w.now
same_bytes v w (front, shown, also) = shown ∙ sym also
