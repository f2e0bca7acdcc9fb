-- Proofs that each JSON text has steps by the grammar, and that successive calls return them.
use Rattle.std.proofs.Common.{◌++◌, ◌∙◌, ◌∷◌, ◌≡◌, ◌⊎◌, [], ℕ, Bool, List, ap, append_assoc, arith}
use Rattle.std.proofs.Common.{false, inl, inr, length, refl, subst, suc, sym, true, zero}
use Rattle.std.proofs.lemmas.List.{append-nil}
use Rattle.std.proofs.lemmas.List.Elements.{All-head, All-weaker}
use Rattle.format_json_extents.proofs.Matching.{byte_matches, first_byte_of_match}
use Rattle.format_json_extents.proofs.Matching.{given_byte_then_is_cons, heads_equal}
use Rattle.format_json_extents.proofs.Matching.{rest_after_all, then_matches, then_of_parts}
use Rattle.format_json_extents.proofs.Scanning.{rest_after_unique}
use Rattle.format_json_extents.proofs.StepCalls.{Follows, Leading, Stops, Told}
use Rattle.format_json_extents.proofs.StepCalls.{follows_no_colon, follows_stops, gap_leads}
use Rattle.format_json_extents.proofs.StepCalls.{lead_longest, mark_leads, scalar_step}
use Rattle.format_json_extents.proofs.StepCalls.{space_no_number, tells_bracket, tells_scalar}
use Rattle.format_json_extents.proofs.Walks.{token_starts}
use Rattle.format_json_extents.specs.Number.{ExtendsNumber}
use Rattle.format_json_extents.specs.Steps.{IsBeforeColon}
use Rattle.format_json_extents.specs.StepLists.{InTurn, IsScalarOf, StepList, StepsOfElement}
use Rattle.format_json_extents.specs.StepLists.{StepsOfItem, StepsOfList, StepsOfMember}
use Rattle.format_json_extents.specs.StepLists.{StepsOfNested, StepsOfScalar, StepsOfText}
use Rattle.format_json_extents.specs.StepLists.{StepsOfValue, begin_of, end_of}
use Rattle.format_json_extents.specs.StepLists.{tells_before, tells_last}
use Rattle.format_json_extents.specs.Texts.{CommaSeparated, IsByte, Then, before, last}
use Rattle.format_json_extents.specs.Value.{IsElement, IsItem, IsMember, IsNestedTail, IsScalar}
use Rattle.format_json_extents.specs.Value.{IsText, IsValue, IsWhitespace, IsWhitespaceByte}
use Rattle.format_json_extents.specs.Value.{closing_bracket, opening_bracket}
use Rattle.format_json_extents.specs.Walk.{ExtendsSeparator, IsClosingByte, IsSeparator}
use Rattle.format_json_extents.specs.declared.steps.Step.{Step}
use Rattle.format_json_extents.specs.declared.steps.Step.TheVariants as steps

-- ---- values

-- Each text in `P` has steps, which calls return wherever a value may occur.
abbrev Walks : (List ℕ → Type 0) → (StepList → List ℕ → Type 0) → Type 0
Walks P tells =
    (text : List ℕ) → P text → (told : StepList) × tells told text × ((lead rest : List ℕ)
    (more : StepList) → IsSeparator lead → Follows rest → Told more rest
    → Told (told ++ more) (lead ++ (text ++ rest)))

-- The same of texts with whitespace around them.
abbrev Arrives : (List ℕ → Type 0) → (StepList → List ℕ → Type 0) → Type 0
Arrives P tells =
    (text : List ℕ) → P text → (told : StepList) × tells told text × ((front tail : List ℕ)
    (more : StepList) → Leading front → Stops tail
    → ((gap : List ℕ) → IsWhitespace gap → Told more (gap ++ tail))
    → Told (told ++ more) (front ++ (text ++ tail)))

told_from : {told : StepList} {start other : List ℕ} → start ≡ other → Told told other
    → Told told start
told_from {told} e it = let P : List ℕ → Type 0 = λ l. Told told l in subst P (sym e) it

told_as : {told other : StepList} (start : List ℕ) → told ≡ other → Told other start
    → Told told start
told_as start e it =
    let P : StepList → Type 0 = λ l. Told l start in subst P (sym e) it

scalar_walks : Walks IsScalar StepsOfScalar
scalar_walks text is = elim is [
  | inl it ↦ one_step steps.String it
  | inr (inl it) ↦ one_step steps.Number it
  | inr (inr (inl it)) ↦ one_step steps.Null it
  | inr (inr (inr (inl it))) ↦ one_step steps.True it
  | inr (inr (inr (inr it))) ↦ one_step steps.False it
]
  where
    one_step : (step : Step) → IsScalarOf step text → (told : StepList)
        × StepsOfScalar told text × ((lead rest : List ℕ) (more : StepList) → IsSeparator lead
        → Follows rest → Told more rest → Told (told ++ more) (lead ++ (text ++ rest)))
    one_step step is = (
      (step, text) ∷ [],
      record { step = step; is_scalar = is; alone = refl },
      λ lead rest more leads follows.
          tells_scalar step text (lead ++ (text ++ rest)) rest (record {
            lead = lead;
            is_lead = leads;
            splits = refl;
            is_step = scalar_step step text rest is (follows_no_colon rest follows);
          }) (follows_stops rest follows),
    )

list_arrives : {P : List ℕ → Type 0} {tells : StepList → List ℕ → Type 0} → Arrives P tells
    → Arrives (CommaSeparated P) (StepsOfList tells)
list_arrives item _ (last text is) =
    let (told, it, calls) = item text is in (told, tells_last told text it, calls)
list_arrives item _ (before first others text is items e) =
    let (one, it, head) = item first is in
    let (rest, list, behind) = list_arrives item others items in (
      one ++ rest,
      tells_before one rest (one ++ rest) first others text it list e refl,
      λ front tail more leads stops ends.
          told_as _ (append_assoc one rest more) (told_from (simp (e, append_assoc))
          (head front (44 ∷ (others ++ tail)) (rest ++ more) leads (inl refl) (λ gap all.
          told_from (sym (append_assoc gap (44 ∷ []) (others ++ tail)))
          (behind (gap ++ 44 ∷ []) tail more (mark_leads gap 44 all (inl refl)) stops ends)))),
    )

colon_after : (gap more : List ℕ) → IsWhitespace gap → IsBeforeColon (gap ++ 58 ∷ more)
colon_after gap more all = (
  more,
  then_matches {mid = 58 ∷ more} (record { text = gap; is = all; splits = refl })
      (byte_matches refl refl),
)

colon_stops : (gap more : List ℕ) → IsWhitespace gap → (b : ℕ) (others : List ℕ)
    → gap ++ 58 ∷ more ≡ b ∷ others → ExtendsNumber b → ⊥
colon_stops [] more all b others e number =
    let is = heads_equal e in grind (arith, is, number)
colon_stops (g ∷ gap) more all b others e number =
    space_no_number b
    (subst IsWhitespaceByte (heads_equal e) (All-head IsWhitespaceByte g gap all)) number

begin_here : (keyed : Bool) (lead rest : List ℕ) {told : StepList} → IsSeparator lead
    → Told told rest
    → Told ((begin_of keyed, opening_bracket keyed ∷ []) ∷ told)
    (lead ++ opening_bracket keyed ∷ rest)
begin_here true lead rest is =
    tells_bracket steps.BeginObject 123 (lead ++ 123 ∷ rest) rest
    (record { lead = lead; is_lead = is; splits = refl; is_step = refl }) (inl (inr refl))
begin_here false lead rest is =
    tells_bracket steps.BeginArray 91 (lead ++ 91 ∷ rest) rest
    (record { lead = lead; is_lead = is; splits = refl; is_step = refl }) (inl (inl refl))

end_here : (keyed : Bool) (gap rest : List ℕ) {told : StepList} → IsWhitespace gap → Told told rest
    → Told ((end_of keyed, closing_bracket keyed ∷ []) ∷ told) (gap ++ closing_bracket keyed ∷ rest)
end_here true gap rest all =
    tells_bracket steps.EndObject 125 (gap ++ 125 ∷ rest) rest
    (record { lead = gap; is_lead = gap_leads gap all; splits = refl; is_step = refl })
    (inr (inr refl))
end_here false gap rest all =
    tells_bracket steps.EndArray 93 (gap ++ 93 ∷ rest) rest
    (record { lead = gap; is_lead = gap_leads gap all; splits = refl; is_step = refl })
    (inr (inl refl))

closing_byte : (keyed : Bool) → IsClosingByte (closing_bracket keyed)
closing_byte true = inr refl
closing_byte false = inl refl

module _ (V : List ℕ → Type 0) (tells : StepList → List ℕ → Type 0) (walks : Walks V tells) where
  element_arrives : Arrives (IsElement V) (StepsOfElement tells)
  element_arrives text is =
      let v = is.is_second in
      let (told, it, calls) = walks v.first v.is_first in (
        told,
        then_of_parts is.first is.second is.is_first
            (then_of_parts v.first v.second it v.is_second v.joins) is.joins,
        λ front tail more leads stops ends.
            let e : front ++ (text ++ tail)
            ≡ (front ++ is.first) ++ (v.first ++ (v.second ++ tail)) =
            simp (is.joins, v.joins, append_assoc) in
            told_from e (calls (front ++ is.first) (v.second ++ tail) more
            (leads is.first is.is_first) (v.second, tail, v.is_second, refl, stops)
            (ends v.second v.is_second)),
      )

  member_arrives : Arrives (IsMember V) (StepsOfMember tells)
  member_arrives text is =
      let key = is.is_first in
      let named = key.is_second in
      let colon = named.is_second in
      let (told, it, calls) = element_arrives is.second is.is_second in (
        (steps.Name, named.first) ∷ told,
        record {
          name = named.first;
          others = told;
          is_name = named.is_first;
          is_member = then_of_parts is.first is.second
              (then_of_parts key.first key.second key.is_first
              (then_of_parts named.first named.second refl named.is_second named.joins)
              key.joins) it
              is.joins;
          in_turn = refl;
        },
        λ front tail more leads stops ends.
            let after = is.second ++ tail in
            let rest = colon.first ++ 58 ∷ after in
            let start = (front ++ key.first) ++ (named.first ++ rest) in
            let mark = colon.is_second.alone ∙ ap (λ b. b ∷ []) colon.is_second.is_byte in
            let e : front ++ (text ++ tail) ≡ start =
            simp (is.joins, key.joins, named.joins, colon.joins, mark, append_assoc) in
            told_from e (tells_scalar steps.Name named.first start rest (record {
              lead = front ++ key.first;
              is_lead = leads key.first key.is_first;
              splits = refl;
              is_step = (named.is_first, colon_after colon.first after colon.is_first);
            }) (colon_stops colon.first after colon.is_first)
            (told_from (sym (append_assoc colon.first (58 ∷ []) after))
            (calls (colon.first ++ 58 ∷ []) tail more
            (mark_leads colon.first 58 colon.is_first (inr refl)) stops ends))),
      )

  item_arrives : (keyed : Bool) → Arrives (IsItem keyed V) (StepsOfItem keyed tells)
  item_arrives true = member_arrives
  item_arrives false = element_arrives

  nested_walks : (keyed : Bool)
      → Walks (Then (IsByte (λ b. b ≡ opening_bracket keyed)) (IsNestedTail keyed V))
      (StepsOfNested keyed tells)
  nested_walks keyed text is = by is.is_second
    where
      walked : (inner : StepList) (inside end : List ℕ)
          → (IsWhitespace inside × (inner ≡ []))
          ⊎ StepsOfList (StepsOfItem keyed tells) inner inside
          → IsByte (λ b. b ≡ closing_bracket keyed) end → is.second ≡ inside ++ end
          → ((rest : List ℕ) (more : StepList) → ((gap : List ℕ) → IsWhitespace gap
          → Told more (gap ++ closing_bracket keyed ∷ rest))
          → Told (inner ++ more) (inside ++ closing_bracket keyed ∷ rest))
          → (told : StepList) × StepsOfNested keyed tells told text × ((lead rest : List ℕ)
          (more : StepList) → IsSeparator lead → Follows rest → Told more rest
          → Told (told ++ more) (lead ++ (text ++ rest)))
      walked inner inside end items bracket e calls =
          let joins : text ≡ opening_bracket keyed ∷ (inside ++ closing_bracket keyed ∷ []) =
          given_byte_then_is_cons (opening_bracket keyed) is
          ∙ ap (λ l. opening_bracket keyed ∷ l) (e ∙ ap (λ l. inside ++ l) (bracket.alone
          ∙ ap (λ b. b ∷ []) bracket.is_byte)) in
          let begun : Step × List ℕ = (begin_of keyed, opening_bracket keyed ∷ []) in
          let ended : Step × List ℕ = (end_of keyed, closing_bracket keyed ∷ []) in (
            begun ∷ (inner ++ ended ∷ []),
            record {
              inner = inner;
              inside = inside;
              is_inside = items;
              joins = joins;
              in_turn = refl;
            },
            λ lead rest more leads follows on.
                told_as _ (ap (λ l. begun ∷ l) (append_assoc inner (ended ∷ []) more))
                (told_from (simp (joins, append_assoc))
                (begin_here keyed lead (inside ++ closing_bracket keyed ∷ rest) leads
                (calls rest (ended ∷ more) (λ gap all. end_here keyed gap rest all on)))),
          )

      by : IsNestedTail keyed V is.second → (told : StepList) × StepsOfNested keyed tells told text
          × ((lead rest : List ℕ) (more : StepList) → IsSeparator lead → Follows rest
          → Told more rest
          → Told (told ++ more) (lead ++ (text ++ rest)))
      by (inl it) =
          walked [] it.first it.second (inl (it.is_first, refl)) it.is_second it.joins
          (λ rest more ends. ends it.first it.is_first)
      by (inr it) =
          let (inner, list, calls) = list_arrives (item_arrives keyed) it.first it.is_first in
          walked inner it.first it.second (inr list) it.is_second it.joins
          (λ rest more. calls [] (closing_bracket keyed ∷ rest) more gap_leads
          (inr (closing_byte keyed)))

value_walks : (level : ℕ) → Walks (IsValue level) (StepsOfValue level)
value_walks zero text is = scalar_walks text is
value_walks (suc level) text (inl is) =
    let (told, it, calls) = scalar_walks text is in (told, inl it, calls)
value_walks (suc level) text (inr (inl is)) =
    let (told, it, calls) =
    nested_walks (IsValue level) (StepsOfValue level) (value_walks level) false text is in
    (told, inr (inl it), calls)
value_walks (suc level) text (inr (inr is)) =
    let (told, it, calls) =
    nested_walks (IsValue level) (StepsOfValue level) (value_walks level) true text is in
    (told, inr (inr it), calls)

-- ---- texts

gap_told : (gap : List ℕ) → IsWhitespace gap → Told [] gap
unfolding InTurn
gap_told gap all [] rest e = inl (refl, subst IsWhitespace e all)
gap_told gap all ((s, t) ∷ found) rest (mid, next, others) =
    let first = first_byte_of_match token_starts
    (record { text = t; is = next.longest.is; splits = next.longest.splits }) in
    let none : next.start ≡ [] =
    rest_after_unique {S = ExtendsSeparator}
    (rest_after_all gap {rest = []}
    (All-weaker IsWhitespaceByte ExtendsSeparator (λ b s. inl s) gap all)
    (sym (append-nil gap)) (λ b more e s. omega (arith, ap (λ l. length l) e)))
    (lead_longest next.lead next.is_lead next.splits first) in
    absurd (omega (arith, ap (λ l. length l) none, ap (λ l. length l) first.begins))

pub text_tells : (level : ℕ) (bytes : List ℕ) → IsText level bytes
    → (told : StepList) × StepsOfText level told bytes × Told told bytes
text_tells level bytes is =
    let (told, it, calls) = element_arrives (IsValue level) (StepsOfValue level)
    (value_walks level) bytes is in (
      told,
      it,
      told_as _ (sym (append-nil told)) (told_from (sym (append-nil bytes))
          (calls [] [] [] gap_leads tt (λ gap all. told_from (append-nil gap) (gap_told gap all)))),
    )
