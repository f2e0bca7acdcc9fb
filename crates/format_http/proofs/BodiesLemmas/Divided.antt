-- A list has one division into transfer codings: commas outside quoted strings are between them.
use Rattle.std.specs.Prelude.{◌≡◌, ◌==◌, ◌⊎◌, ◌↔◌, ◌<◌, ◌++◌, ℕ, zero, suc, List, [], ◌∷◌}
use Rattle.std.specs.Prelude.{Bool, cond, false, length, true}
use Rattle.std.specs.List.{All, AllByRecursion, onto_first}
use Rattle.std.proofs.Common.{ap, arith, inl, inr, refl, subst, sym, ◌∙◌}
use Rattle.std.proofs.lemmas.Bool.Decides.{nat_tests}
use Rattle.std.proofs.lemmas.Grind.{common_steps}
use Rattle.std.proofs.lemmas.List.Elements.{All-head, All-tail}
use Rattle.format_http.specs.Bodies.Codings.{AreParts, AtEnd, IsCoding, IsPart, Parameter}
use Rattle.format_http.specs.Bodies.Codings.{Parameters}
use Rattle.format_http.specs.Bodies.Lists.{after, parts_from, quoted_parts_of, separates}
use Rattle.format_http.specs.Heads.Bytes.{IsTokenByte, IsWhite}
use Rattle.format_http.specs.declared.bodies.lists.Quoting.{Quoting}
use Rattle.format_http.specs.declared.bodies.lists.Quoting.TheVariants.{Escaped, Inside, Outside}
use Rattle.format_http_chunked.specs.Bodies.{QuotedByte, Spaced, Value}
use Rattle.format_http_chunked.specs.Words as words
use Rattle.format_http_chunked.specs.Words.{Byte, Many, One, Times}

-- ---- the division at commas

-- a byte before the first part
onto_parts : (b : ℕ) (more : List ℕ) (parts : List (List ℕ)) → AreParts parts more
    → AreParts (onto_first b parts) (b ∷ more)
onto_parts b more [] x = absurd x
onto_parts b more (part ∷ []) e = ap (λ l. b ∷ l) e
onto_parts b more (part ∷ (next ∷ parts)) (rest, e, x) = (rest, ap (λ l. b ∷ l) e, x)

-- a comma before the first part
comma_parts : (more : List ℕ) (parts : List (List ℕ)) → AreParts parts more
    → AreParts ([] ∷ parts) (44 ∷ more)
comma_parts more [] x = absurd x
comma_parts more (part ∷ parts) x = (more, refl, x)

is_comma : (at : Quoting) (b : ℕ) → separates at b ≡ true → b ≡ 44
is_comma Outside b e = grind (arith, nat_tests, e)
is_comma Inside b e = absurd (cc)
is_comma Escaped b e = absurd (cc)

module _ (at : Quoting) (b : ℕ) (more : List ℕ)
    (outside : AreParts (parts_from Outside more) more)
    (others : AreParts (parts_from (after at b) more) more) where
  by_test : (here : Bool) → separates at b ≡ here
      → AreParts (cond here ([] ∷ parts_from Outside more)
      (onto_first b (parts_from (after at b) more))) (b ∷ more)
  by_test true e =
      let P : ℕ → Type 0 = λ c. AreParts ([] ∷ parts_from Outside more) (c ∷ more) in
      subst P (sym (is_comma at b e)) (comma_parts more (parts_from Outside more) outside)
  by_test false e = onto_parts b more (parts_from (after at b) more) others

divided : (at : Quoting) (list : List ℕ) → AreParts (parts_from at list) list
divided at [] = refl
divided at (b ∷ more) = by_test at b more (divided Outside more) (divided (after at b) more)
    (separates at b) refl

pub list_divides : (list : List ℕ) → AreParts (quoted_parts_of list) list
list_divides list = divided Outside list

-- ---- texts without a comma outside quoted strings

-- `Passes at bytes`: from this state no byte is a comma outside quoted strings, and all of them are
-- closed at the end.
abbrev Passes : Quoting → List ℕ → Type 0
Passes at [] = at ≡ Outside
Passes at (b ∷ more) = (separates at b ≡ false) × Passes (after at b) more

module _ (b : ℕ) (more : List ℕ) where
  -- outside
  plain : (b ≡ 44 → ⊥) → (b ≡ 34 → ⊥) → Passes Outside more → Passes Outside (b ∷ more)
  plain comma quote p =
      let P : Quoting → Type 0 = λ at. Passes at more in
      let same : Outside ≡ after Outside b = grind (arith, nat_tests, common_steps, quote) in
      (grind (arith, nat_tests, comma), subst P same p)

  opens : b ≡ 34 → Passes Inside more → Passes Outside (b ∷ more)
  opens e p =
      let P : ℕ → Type 0 = λ c. Passes Outside (c ∷ more) in
      let here : P 34 = (refl, p) in subst P (sym e) here

  -- inside
  quoted : (b ≡ 34 → ⊥) → (b ≡ 92 → ⊥) → Passes Inside more → Passes Inside (b ∷ more)
  quoted quote slash p =
      let P : Quoting → Type 0 = λ at. Passes at more in
      let same : Inside ≡ after Inside b = grind (arith, nat_tests, common_steps, quote, slash) in
      (refl, subst P same p)

  closes : b ≡ 34 → Passes Outside more → Passes Inside (b ∷ more)
  closes e p =
      let P : ℕ → Type 0 = λ c. Passes Inside (c ∷ more) in
      let here : P 34 = (refl, p) in subst P (sym e) here

  escapes : b ≡ 92 → Passes Escaped more → Passes Inside (b ∷ more)
  escapes e p =
      let P : ℕ → Type 0 = λ c. Passes Inside (c ∷ more) in
      let here : P 92 = (refl, p) in subst P (sym e) here

-- ---- codings

-- where `next` holds, nothing separates
abbrev Quiet : (List ℕ → Type 0) → Type 0
Quiet next = (bytes : List ℕ) → next bytes → Passes Outside bytes

many : (these : ℕ → Type 0) (next : List ℕ → Type 0)
    → ((b : ℕ) → these b → (b ≡ 44 → ⊥) × (b ≡ 34 → ⊥)) → Quiet next → Quiet (Many these next)
many these next bare quiet [] x = quiet [] x
many these next bare quiet (b ∷ bytes) (inl x) = quiet (b ∷ bytes) x
many these next bare quiet (b ∷ bytes) (inr (is, x)) =
    plain b bytes (bare b is).0 (bare b is).1 (many these next bare quiet bytes x)

one : (these : ℕ → Type 0) (next : List ℕ → Type 0)
    → ((b : ℕ) → these b → (b ≡ 44 → ⊥) × (b ≡ 34 → ⊥)) → Quiet next → Quiet (One these next)
one these next bare quiet [] x = absurd x
one these next bare quiet (b ∷ bytes) (is, x) =
    plain b bytes (bare b is).0 (bare b is).1 (quiet bytes x)

token_bare : (b : ℕ) → IsTokenByte b → (b ≡ 44 → ⊥) × (b ≡ 34 → ⊥)
token_bare b t = grind (arith, t)

white_bare : (b : ℕ) → IsWhite b → (b ≡ 44 → ⊥) × (b ≡ 34 → ⊥)
white_bare b t = grind (arith, t)

token : (next : List ℕ → Type 0) → Quiet next → Quiet (words.Some IsTokenByte next)
token next quiet = one IsTokenByte (Many IsTokenByte next) token_bare
    (many IsTokenByte next token_bare quiet)

spaced : (mark : ℕ) (next : List ℕ → Type 0) → (mark ≡ 44 → ⊥) → (mark ≡ 34 → ⊥) → Quiet next
    → Quiet (Spaced mark next)
spaced mark next comma quote quiet =
    many IsWhite (Byte mark (Many IsWhite next)) white_bare
    (one (λ c. c ≡ mark) (Many IsWhite next)
    (λ c e. (λ d. comma (sym e ∙ d), λ d. quote (sym e ∙ d)))
    (many IsWhite next white_bare quiet))

quotes : (next : List ℕ → Type 0) → Quiet next → (n : ℕ) (bytes : List ℕ)
    → Times n QuotedByte (Byte 34 next) bytes → Passes Inside bytes
quotes next quiet zero [] x = absurd x
quotes next quiet zero (b ∷ bytes) (e, x) = closes b bytes e (quiet bytes x)
quotes next quiet (suc n) [] (inl x) = absurd x
quotes next quiet (suc n) [] (inr x) = absurd x
quotes next quiet (suc n) (b ∷ bytes) (inl (is, x)) =
    let bare : (b ≡ 34 → ⊥) × (b ≡ 92 → ⊥) = grind (arith, is) in
    quoted b bytes bare.0 bare.1 (quotes next quiet n bytes x)
quotes next quiet (suc n) (b ∷ []) (inr (e, x)) = absurd x
quotes next quiet (suc n) (b ∷ (c ∷ bytes)) (inr (e, (is, x))) =
    escapes b (c ∷ bytes) e (refl, quotes next quiet n bytes x)

value : (next : List ℕ → Type 0) → Quiet next → Quiet (Value next)
value next quiet bytes (inl x) = token next quiet bytes x
value next quiet [] (inr x) = absurd x
value next quiet (b ∷ bytes) (inr (e, (n, x))) =
    opens b bytes e (quotes next quiet n bytes x)

parameters : (next : List ℕ → Type 0) → Quiet next → (n : ℕ)
    → Quiet (Times n (λ more. Spaced 59 (Parameter more)) next)
parameters next quiet zero = quiet
parameters next quiet (suc n) =
    let more : List ℕ → Type 0 = Times n (λ more. Spaced 59 (Parameter more)) next in
    spaced 59 (Parameter more) (λ e. omega (arith, e)) (λ e. omega (arith, e))
    (token (Spaced 61 (Value more)) (spaced 61 (Value more) (λ e. omega (arith, e))
    (λ e. omega (arith, e)) (value more (parameters next quiet n))))

coding_passes : Quiet IsCoding
coding_passes = token (Parameters AtEnd) (λ bytes (n, x). parameters AtEnd ended n bytes x)
  where
    ended : Quiet AtEnd
    ended bytes e = subst (λ l. Passes Outside l) (sym e) refl

-- ---- parts

white_passes : (white more : List ℕ) → All IsWhite white → Passes Outside more
    → Passes Outside (white ++ more)
white_passes [] more all p = p
white_passes (b ∷ white) more all p =
    let bare = white_bare b (All-head IsWhite b white all) in
    plain b (white ++ more) bare.0 bare.1
    (white_passes white more (All-tail IsWhite b white all) p)

both_pass : (at : Quoting) (xs ys : List ℕ) → Passes at xs → Passes Outside ys
    → Passes at (xs ++ ys)
both_pass at [] ys e p = subst (λ q. Passes q ys) (sym e) p
both_pass at (b ∷ xs) ys (not, x) p = (not, both_pass (after at b) xs ys x p)

part_passes : (part : List ℕ) → IsPart part → Passes Outside part
part_passes part (element, is, valid) =
    let P : List ℕ → Type 0 = λ l. Passes Outside l in
    let white : Passes Outside (is.behind ++ []) =
    white_passes is.behind [] is.white_behind refl in
    subst P (sym is.splits) (white_passes is.before (element ++ is.behind) is.white_before
    (both_pass Outside element is.behind (by element valid) (behind is.behind is.white_behind)))
  where
    by : (l : List ℕ) → (length l ≡ 0) ⊎ IsCoding l → Passes Outside l
    by [] x = refl
    by (b ∷ l) (inl e) = absurd (omega (arith, e))
    by (b ∷ l) (inr x) = coding_passes (b ∷ l) x

    behind : (l : List ℕ) → All IsWhite l → Passes Outside l
    behind [] all = refl
    behind (b ∷ l) all =
        let bare = white_bare b (All-head IsWhite b l all) in
        plain b l bare.0 bare.1 (behind l (All-tail IsWhite b l all))

-- ---- one division

goes_on : (at : Quoting) (b : ℕ) (xs : List ℕ) (parts : List (List ℕ)) → separates at b ≡ false
    → parts_from (after at b) xs ≡ parts → parts_from at (b ∷ xs) ≡ onto_first b parts
goes_on at b xs parts not e =
    ap (λ t. cond t ([] ∷ parts_from Outside xs) (onto_first b (parts_from (after at b) xs))) not
    ∙ ap (λ l. onto_first b l) e

first_part : (at : Quoting) (xs rest : List ℕ) → Passes at xs
    → parts_from at (xs ++ 44 ∷ rest) ≡ xs ∷ parts_from Outside rest
first_part at [] rest e =
    let P : Quoting → Type 0 = λ q.
    parts_from q (44 ∷ rest) ≡ [] ∷ parts_from Outside rest in
    let here : P Outside = refl in subst P (sym e) here
first_part at (b ∷ xs) rest (not, x) =
    goes_on at b (xs ++ 44 ∷ rest) (xs ∷ parts_from Outside rest) not
    (first_part (after at b) xs rest x)

last_part : (at : Quoting) (xs : List ℕ) → Passes at xs → parts_from at xs ≡ xs ∷ []
last_part at [] e = refl
last_part at (b ∷ xs) (not, x) =
    goes_on at b xs (xs ∷ []) not (last_part (after at b) xs x)

pub one_division : (list : List ℕ) (parts : List (List ℕ)) → AreParts parts list
    → AllByRecursion IsPart parts → parts ≡ quoted_parts_of list
one_division list [] x all = absurd x
one_division list (part ∷ []) e (is, all) =
    sym (ap quoted_parts_of e ∙ last_part Outside part (part_passes part is))
one_division list (part ∷ (next ∷ parts)) (rest, e, x) (is, all) =
    ap (λ l. part ∷ l) (one_division rest (next ∷ parts) x all)
    ∙ sym (ap quoted_parts_of e ∙ first_part Outside part rest (part_passes part is))
