-- Lemmas about the text of a string.
use Rattle.std.proofs.Common.{◌≡◌, ◌∙◌, ◌-◌, ◌≤◌, ◌++◌, ◌∷◌, ℕ, List, ap, arith, drop, length}
use Rattle.std.proofs.Common.{length-append}
use Rattle.format_json_extents.specs.Unescaped.{IsStringWritten}
use Rattle.exported.specs.JsonString.{IsText}
use Rattle.exported.specs.declared.json.string.JsonText.{JsonText}

string_lengths : (count : ℕ) (bytes rest old new : List ℕ)
    → IsStringWritten count bytes rest old new → length rest ≤ length bytes
string_lengths count bytes rest old new (inside, e, it) =
    omega (
      arith,
      ap (λ l. length l) e,
      ap (λ l. length l) it.splits,
      length-append it.text (34 ∷ rest),
    )

pub text_shown : (count : ℕ) (bytes rest old new : List ℕ) (found : JsonText)
    → IsStringWritten count bytes rest old new → found.text ≡ count
    → found.length ≡ length bytes - length rest
    → (meant : List ℕ) × IsText bytes found meant
    × (count ≤ length old → new ≡ meant ++ drop count old)
text_shown count bytes rest old new found (inside, e, it) text ends = (
  it.meant,
  record {
    text = it.text;
    rest = rest;
    splits = e ∙ ap (λ l. 34 ∷ l) it.splits;
    means = it.means;
    counts = text ∙ it.counts;
    ends = omega (arith, ends, string_lengths count bytes rest old new (inside, e, it));
  },
  it.written,
)
