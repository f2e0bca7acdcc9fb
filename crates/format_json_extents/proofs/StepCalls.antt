-- Lemmas about the result of one call of `read_step`, and of successive calls.
use Rattle.std.proofs.Common.{◌++◌, ◌∙◌, ◌∷◌, ◌≡◌, ◌⊎◌, [], ℕ, List, ap, append_assoc, arith, cond}
use Rattle.std.proofs.Common.{inl, inr, nat_lt, refl, subst, sym}
use Rattle.std.specs.Prelude.{⊤}
use Rattle.std.proofs.lemmas.List.{append-nil, append_cancel_right}
use Rattle.std.proofs.lemmas.List.Elements.{All-append, All-cons, All-head, All-nil, All-weaker}
use Rattle.format_json_extents.proofs.Matching.{FirstByteIs, first_byte_of_match, heads_equal}
use Rattle.format_json_extents.proofs.Matching.{no_given_byte, no_match_of_second, one_byte_text}
use Rattle.format_json_extents.proofs.Matching.{rest_after_all, then_of_parts}
use Rattle.format_json_extents.proofs.Scanning.{rest_after_unique}
use Rattle.format_json_extents.proofs.Values.{colon_bars}
use Rattle.format_json_extents.proofs.Walks.{IsFirstOfToken, lead_no_token, token_bracket}
use Rattle.format_json_extents.proofs.Walks.{token_starts}
use Rattle.format_json_extents.specs.Number.{ExtendsNumber}
use Rattle.format_json_extents.specs.Steps.{IsBeforeColon, IsBracket, IsNextStep, IsOfStep, IsToken}
use Rattle.format_json_extents.specs.StepLists.{InTurn, IsScalarOf, StepList, StepsResult}
use Rattle.format_json_extents.specs.Texts.{IsByte, MatchesAtStart, Maybe, RestAfter, Then}
use Rattle.format_json_extents.specs.Value.{IsWhitespace, IsWhitespaceByte}
use Rattle.format_json_extents.specs.Walk.{ExtendsSeparator, IsClosingByte, IsCommaOrColon}
use Rattle.format_json_extents.specs.Walk.{IsSeparator}
use Rattle.format_json_extents.specs.declared.steps.Step.{Step}
use Rattle.format_json_extents.specs.declared.steps.Step.TheVariants as steps
use Rattle.std.specs.List.{All}
use Rattle.std.proofs.lemmas.Bool.Decides.{nat_tests}
use Rattle.format_json_extents.proofs.Scalars.{IsFirstOfNumber, number_starts, string_starts}
use Rattle.format_json_extents.specs.Strings.{IsString}

-- ---- the bytes before a step

lead_all : (lead : List ℕ) → IsSeparator lead → All ExtendsSeparator lead
lead_all lead is =
    subst (All ExtendsSeparator) (sym is.joins)
    (All-append ExtendsSeparator is.first is.second
    (All-weaker IsWhitespaceByte ExtendsSeparator (λ b s. inl s) is.first is.is_first)
    (marked is.second is.is_second))
  where
    marked : (text : List ℕ) → Maybe (Then (IsByte IsCommaOrColon) IsWhitespace) text
        → All ExtendsSeparator text
    marked text (inl e) = subst (All ExtendsSeparator) (sym e) (All-nil ExtendsSeparator)
    marked text (inr m) =
        subst (All ExtendsSeparator) (sym (m.joins ∙ ap (λ l. l ++ m.second) m.is_first.alone))
        (All-cons ExtendsSeparator m.is_first.byte m.second (inr (inr m.is_first.is_byte))
        (All-weaker IsWhitespaceByte ExtendsSeparator (λ b s. inl s) m.second m.is_second))

pub lead_longest : (lead : List ℕ) {bytes start : List ℕ} → IsSeparator lead → bytes ≡ lead ++ start
    → FirstByteIs IsFirstOfToken start
    → RestAfter (All ExtendsSeparator) ExtendsSeparator bytes start
lead_longest lead is e first =
    rest_after_all lead (lead_all lead is) e
    (λ b more f l. lead_no_token b l
    (subst IsFirstOfToken (heads_equal (sym first.begins ∙ f)) first.is))

-- ---- which step a text is

-- the step of a text that starts with this byte, where a string is not a name
abbrev step_at : ℕ → Step
step_at b =
    cond (nat_lt b 45) steps.String (cond (nat_lt b 58) steps.Number
    (cond (nat_lt b 92) steps.BeginArray (cond (nat_lt b 94) steps.EndArray
    (cond (nat_lt b 103) steps.False (cond (nat_lt b 111) steps.Null (cond (nat_lt b 117) steps.True
    (cond (nat_lt b 124) steps.BeginObject steps.EndObject)))))))

abbrev unnamed : Step → Step
unnamed steps.Name = steps.String
unnamed step = step

unnamed_same : (s : Step) → (unnamed s ≡ s) ⊎ (s ≡ steps.Name)
unnamed_same steps.String = inl refl
unnamed_same steps.Name = inr refl
unnamed_same steps.Number = inl refl
unnamed_same steps.BeginArray = inl refl
unnamed_same steps.EndArray = inl refl
unnamed_same steps.False = inl refl
unnamed_same steps.Null = inl refl
unnamed_same steps.True = inl refl
unnamed_same steps.BeginObject = inl refl
unnamed_same steps.EndObject = inl refl

number_step : (b : ℕ) → IsFirstOfNumber b → step_at b ≡ steps.Number
number_step b is = grind (arith, nat_tests, is)

string_step : (b : ℕ) (more : List ℕ) → IsString (b ∷ more) → step_at b ≡ steps.String
string_step b more is =
    let first = string_starts (b ∷ more) is in ap step_at (heads_equal first.begins ∙ first.is)

first_step : (s : Step) (b : ℕ) (more rest : List ℕ) → IsOfStep s (b ∷ more) rest
    → step_at b ≡ unnamed s
first_step steps.Null b more rest is = ap step_at (heads_equal is)
first_step steps.False b more rest is = ap step_at (heads_equal is)
first_step steps.True b more rest is = ap step_at (heads_equal is)
first_step steps.Number b more rest is =
    let first = number_starts (b ∷ more) is in
    number_step b (subst IsFirstOfNumber (sym (heads_equal first.begins)) first.is)
first_step steps.String b more rest is = string_step b more is.0
first_step steps.Name b more rest is = string_step b more is.0
first_step steps.BeginArray b more rest is = ap step_at (heads_equal is)
first_step steps.EndArray b more rest is = ap step_at (heads_equal is)
first_step steps.BeginObject b more rest is = ap step_at (heads_equal is)
first_step steps.EndObject b more rest is = ap step_at (heads_equal is)

is_token : (s : Step) (text rest : List ℕ) → IsOfStep s text rest → IsToken text
is_token steps.Null text rest is = inr (inr (inr (inl is)))
is_token steps.False text rest is = inr (inr (inr (inr (inr is))))
is_token steps.True text rest is = inr (inr (inr (inr (inl is))))
is_token steps.Number text rest is = inr (inr (inl is))
is_token steps.String text rest is = inr (inl is.0)
is_token steps.Name text rest is = inr (inl is.0)
is_token steps.BeginArray text rest is = inl (one_byte_text (inl (inl refl)) is)
is_token steps.EndArray text rest is = inl (one_byte_text (inr (inl refl)) is)
is_token steps.BeginObject text rest is = inl (one_byte_text (inl (inr refl)) is)
is_token steps.EndObject text rest is = inl (one_byte_text (inr (inr refl)) is)

-- a text is one step
step_same : (s t : Step) (text rest : List ℕ) → IsOfStep s text rest → IsOfStep t text rest
    → s ≡ t
step_same s t text rest is also =
    let first = token_starts text (is_token s text rest is) in
    let P : Step → List ℕ → Type 0 = λ u l. IsOfStep u l rest in
    by (unnamed_same s) (unnamed_same t)
    (sym (first_step s first.byte first.more rest (subst (P s) first.begins is))
    ∙ first_step t first.byte first.more rest (subst (P t) first.begins also))
  where
    no_name : (u v : Step) → IsOfStep u text rest → IsOfStep v text rest → u ≡ steps.Name
        → unnamed v ≡ v → unnamed u ≡ unnamed v → ⊥
    no_name u v x y name e same =
        let P : Step → Type 0 = λ w. IsOfStep w text rest in
        (subst P (sym e ∙ sym same ∙ ap unnamed name) y).1 (subst P name x).1

    by : (unnamed s ≡ s) ⊎ (s ≡ steps.Name) → (unnamed t ≡ t) ⊎ (t ≡ steps.Name)
        → unnamed s ≡ unnamed t → s ≡ t
    by (inl x) (inl y) same = sym x ∙ same ∙ y
    by (inr x) (inr y) same = x ∙ sym y
    by (inr x) (inl y) same = absurd (no_name s t is also x y same)
    by (inl x) (inr y) same = absurd (no_name t s also is y x (sym same))

-- ---- one call

-- `Here step text bytes rest`: after whitespace and separators, `bytes` starts with `text`, which
-- is of kind `step`; `rest` follows.
pub record Here (step : Step) (text bytes rest : List ℕ) : Type 0 where
  pub lead : List ℕ
  pub is_lead : IsSeparator lead
  pub splits : bytes ≡ lead ++ (text ++ rest)
  pub is_step : IsOfStep step text rest

module _ (bytes mid : List ℕ) (s : Step) (t : List ℕ) (next : IsNextStep s t bytes mid)
    (step : Step) (text rest : List ℕ) (here : Here step text bytes rest) where
  matches_here : MatchesAtStart IsToken (text ++ rest) rest
  matches_here = record { text = text; is = is_token step text rest here.is_step; splits = refl }

  matches_next : MatchesAtStart IsToken next.start mid
  matches_next = record { text = t; is = next.longest.is; splits = next.longest.splits }

  -- the call begins here
  begins_here : next.start ≡ text ++ rest
  begins_here =
      rest_after_unique
      (lead_longest here.lead here.is_lead here.splits
      (first_byte_of_match token_starts matches_here))
      (lead_longest next.lead next.is_lead next.splits
      (first_byte_of_match token_starts matches_next))

  -- where it leaves the same rest it returns this step
  told_here : mid ≡ rest → ◌≡◌ {A = Step × List ℕ} (s, t) (step, text)
  told_here same =
      let is : t ≡ text = append_cancel_right t text mid
      (sym next.longest.splits ∙ begins_here ∙ ap (λ l. text ++ l) (sym same)) in
      let P : List ℕ → Type 0 = λ l. IsOfStep s l mid in
      let Q : List ℕ → Type 0 = λ l. IsOfStep s text l in
      let X : Step → Step × List ℕ = λ u. (u, t) in
      let Y : List ℕ → Step × List ℕ = λ l. (step, l) in
      ap X (step_same s step text rest (subst Q same (subst P is next.is_step)) here.is_step)
      ∙ ap Y is

  pub leaves_scalar : ((b : ℕ) (more : List ℕ) → rest ≡ b ∷ more → ExtendsNumber b → ⊥)
      → mid ≡ rest
  leaves_scalar stops =
      elim (next.others rest (record {
        text = text;
        is = is_token step text rest here.is_step;
        splits = begins_here;
      })) [
        | inl same ↦ sym same
        | inr goes ↦ absurd (stops goes.byte goes.tail goes.begins goes.is_byte)
      ]

  pub leaves_bracket : (b : ℕ) → IsBracket b → text ≡ b ∷ [] → mid ≡ rest
  leaves_bracket b is alone =
      rest_after_unique (token_bracket (begins_here ∙ ap (λ l. l ++ rest) alone) is)
      (record { stands = matches_next; only = next.others })

-- ---- successive calls

-- `Told told start`: successive calls from `start` return `told`, or a prefix of it.
abbrev pub Told : StepList → List ℕ → Type 0
Told told start = (found : StepList) (rest : List ℕ) → InTurn start found rest
    → StepsResult told found rest

tells_of : (step : Step) (text bytes rest : List ℕ) (told : StepList) → Here step text bytes rest
    → ((mid : List ℕ) (s : Step) (t : List ℕ) → IsNextStep s t bytes mid → mid ≡ rest)
    → Told told rest → Told ((step, text) ∷ told) bytes
unfolding InTurn
tells_of step text bytes rest told here leaves more [] last e =
    inr (
      (step, text),
      told,
      refl,
      (
        rest,
        record {
          text = here.lead ++ text;
          is = then_of_parts here.lead text here.is_lead (is_token step text rest here.is_step)
              refl;
          splits = sym e ∙ here.splits ∙ sym (append_assoc here.lead text rest);
        },
      ),
    )
tells_of step text bytes rest told here leaves more ((s, t) ∷ found) last (mid, next, others) =
    let same = leaves mid s t next in
    let P : List ℕ → Type 0 = λ l. InTurn l found last in
    let is = told_here bytes mid s t next step text rest here same in
    elim (more found last (subst P same others)) [
      | inl (all, gap) ↦ inl (ap (λ u. u ∷ found) is ∙ ap (λ l. (step, text) ∷ l) all, gap)
      | inr (it, behind, e, some) ↦
          inr (
            it,
            behind,
            ap (λ l. (step, text) ∷ l) e ∙ ap (λ u. u ∷ (found ++ it ∷ behind))
                (sym is),
            some,
          )
    ]

pub tells_scalar : (step : Step) (text bytes rest : List ℕ) {told : StepList}
    → Here step text bytes rest
    → ((b : ℕ) (more : List ℕ) → rest ≡ b ∷ more → ExtendsNumber b → ⊥) → Told told rest
    → Told ((step, text) ∷ told) bytes
tells_scalar step text bytes rest {told} here stops =
    tells_of step text bytes rest told here
    (λ mid s t next. leaves_scalar bytes mid s t next step text rest here stops)

pub tells_bracket : (step : Step) (b : ℕ) (bytes rest : List ℕ) {told : StepList}
    → Here step (b ∷ []) bytes rest → IsBracket b → Told told rest
    → Told ((step, b ∷ []) ∷ told) bytes
tells_bracket step b bytes rest {told} here is =
    tells_of step (b ∷ []) bytes rest told here
    (λ mid s t next. leaves_bracket bytes mid s t next step (b ∷ []) rest here b is refl)

-- ---- after a value

abbrev IsStop : ℕ → Type 0
IsStop b = (b ≡ 44) ⊎ IsClosingByte b

-- a comma or a closing bracket, or nothing
abbrev pub Stops : List ℕ → Type 0
Stops [] = ⊤
Stops (b ∷ more) = IsStop b

-- after whitespace
abbrev pub Follows : List ℕ → Type 0
Follows rest =
    (gap : List ℕ) × (tail : List ℕ) × IsWhitespace gap × (rest ≡ gap ++ tail) × Stops tail

stop_no_number : (b : ℕ) → IsStop b → ExtendsNumber b → ⊥
stop_no_number b is number = grind (arith, is, number)

pub space_no_number : (b : ℕ) → IsWhitespaceByte b → ExtendsNumber b → ⊥
space_no_number b is number = grind (arith, is, number)

stop_no_space : (b : ℕ) → IsStop b → IsWhitespaceByte b → ⊥
stop_no_space b is s = grind (arith, is, s)

stop_no_colon : IsStop 58 → ⊥
stop_no_colon is = grind (arith, is)

pub follows_stops : (rest : List ℕ) → Follows rest → (b : ℕ) (more : List ℕ) → rest ≡ b ∷ more
    → ExtendsNumber b → ⊥
follows_stops rest ([], tail, all, e, stops) b more f =
    stop_no_number b (subst Stops (sym e ∙ f) stops)
follows_stops rest (c ∷ gap, tail, all, e, stops) b more f =
    space_no_number b
    (subst IsWhitespaceByte (heads_equal (sym e ∙ f))
    (All-head IsWhitespaceByte c gap all))

pub follows_no_colon : (rest : List ℕ) → Follows rest → IsBeforeColon rest → ⊥
follows_no_colon rest (gap, tail, all, e, stops) (after, it) =
    no_match_of_second colon_bars
    (rest_after_all gap all e (λ b more f. stop_no_space b (subst Stops f stops)))
    (no_given_byte 58 (λ more f. stop_no_colon (subst Stops f stops))) after it

pub scalar_step : (step : Step) (text rest : List ℕ) → IsScalarOf step text
    → (IsBeforeColon rest → ⊥) → IsOfStep step text rest
scalar_step steps.Null text rest is not = is
scalar_step steps.False text rest is not = is
scalar_step steps.True text rest is not = is
scalar_step steps.Number text rest is not = is
scalar_step steps.String text rest is not = (is, not)
scalar_step step text rest is not = absurd is

-- ---- before a value

-- `front` followed by whitespace may precede a step.
abbrev pub Leading : List ℕ → Type 0
Leading front = (gap : List ℕ) → IsWhitespace gap → IsSeparator (front ++ gap)

pub gap_leads : (gap : List ℕ) → IsWhitespace gap → IsSeparator gap
gap_leads gap all = then_of_parts gap [] all (inl refl) (sym (append-nil gap))

pub mark_leads : (gap : List ℕ) (b : ℕ) → IsWhitespace gap → IsCommaOrColon b
    → Leading (gap ++ b ∷ [])
mark_leads gap b all is after also =
    then_of_parts gap (b ∷ after) all
    (inr (then_of_parts (b ∷ []) after (one_byte_text is refl) also refl))
    (append_assoc gap (b ∷ []) after)
