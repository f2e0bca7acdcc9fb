-- Tokens and slices that are equal.
use Rattle.std.specs.Prelude.{◌≡◌, List, [], ◌∷◌, length}
use Rattle.std.proofs.Common.{sym, subst, ◌∙◌}
use Rattle.streams.specs.Equal.{same_front}
use Rattle.streams.specs.Reading.{Reading}
use Rattle.parser_definitions.specs.Left.{Left}
use Rattle.parser_definitions.specs.Passed.{Passed, same_passed}
use Rattle.parser_definitions.specs.Spelled.{ShowSame}

-- Tokens with the same view.
abbrev pub SeenSame : {K T : Type 0} → (K → T) → K → K → Type 0
SeenSame seen k l = seen k ≡ seen l

-- no token is the first of an empty list
pub first_of_none : {P T : Type 0} {x : T} {tokens rest : List T} → tokens ≡ []
    → tokens ≡ x ∷ rest → P
first_of_none e f = absurd (cc)

module _ {T L : Type 0} {reading : Reading T L} where
  -- calls that pass equally many tokens pass the same ones
  pub passed_as_many : {f g : List T} {start rest end : Left T} → length f ≡ length g
      → Passed reading f start rest → Passed reading g start end → (f ≡ g) × (rest ≡ end)
  passed_as_many {f} {g} {rest = rest} {end} many p q =
      let same = same_front f g rest.tokens end.tokens many (sym p.tokens ∙ q.tokens) in
      (same, same_passed same p q)

-- slices that show equal lists
pub show_same : {T L : Type 0} (reading : Reading T L) {f g : List T} {v w : L} → f ≡ g
    → reading.shows v f → reading.shows w g → ShowSame reading v w
show_same {T} reading {f} {w = w} same shown shows =
    let P : List T → Type 0 = λ l. reading.shows w l in
    (f, shown, subst P (sym same) shows)
