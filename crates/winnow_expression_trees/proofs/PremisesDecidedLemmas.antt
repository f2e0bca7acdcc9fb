-- Which parts of an expression consume.
use Rattle.std.specs.Prelude.{◌≡◌, ℕ, List, [], ◌∷◌, ◌++◌, length}
use Rattle.std.specs.Borrow.{Bor}
use Rattle.std.proofs.Common.{ap, ◌∙◌, subst, inl, inr, arith}
use Rattle.parser_definitions.specs.Alt.{AltDoes}
use Rattle.parser_definitions.specs.Does.{Ran}
use Rattle.parser_definitions.specs.Left.{Left, back, left_of}
use Rattle.parser_definitions.specs.Literal.{LiteralDoes}
use Rattle.parser_definitions.specs.Outcome.{Does, asks, backs, cuts, setting_of, took}
use Rattle.parser_definitions.specs.Outcome.{wants}
use Rattle.parser_definitions.specs.Moved.{moved}
use Rattle.parser_definitions.specs.TryMap.{ValueDoes}
use Rattle.stream_errors.specs.Form.{ErrorForm}
use Rattle.streams.specs.Bytes.{bytes_reading}
use Rattle.streams.specs.Reading.{Reading}
use Rattle.winnow_expression.specs.Did.{here}
use Rattle.winnow_expression_trees.specs.Premises.Decided.{ConsumesInput, lacks_none, rest_is}

-- a byte does
pub byte_moves : (spells : ℕ → List ℕ → Type 0)
    → ((b : ℕ) (xs : List ℕ) → spells b xs → xs ≡ b ∷ []) → (output : ℕ → Bor (List ℕ) → ℕ)
    → (form : ErrorForm) (b : ℕ)
    → ConsumesInput bytes_reading.units
    (Ran bytes_reading (LiteralDoes bytes_reading spells output) form) b
byte_moves spells one output form b i j o t
    (end, more, possible, inl (p, rest, (front, slice, is, shown, passed, e), ends)) =
    let splits : i.left.tokens ≡ b ∷ j.left.tokens =
    passed.tokens ∙ ap (λ f. f ++ rest.tokens) (one b front is)
    ∙ ap (λ l. b ∷ l.tokens) (rest_is ends) in
    omega (arith, ap (λ l. length l) splits)
byte_moves spells one output form b i j o t (end, more, possible, inr (inl (short, ends))) =
    lacks_none form i.status.cut _ _ _ ends
byte_moves spells one output form b i j o t (end, more, possible, inr (inr (other, ends))) =
    absurd (cc)

pub value_moves : {S T L O U : Type 0} (reading : Reading T L) (is_clone : U → U → Type 0)
    (always : U → Type 0) (does : Does S T O) (form : ErrorForm) (s : S) (x : U)
    → ConsumesInput reading.units (Ran reading does form) s
    → ConsumesInput reading.units (Ran reading (ValueDoes is_clone always does) form) (s, x)
value_moves {T = T} reading is_clone always does form s x moves i j o t
    (end, more, possible, (took p e, d, (z, inl (u, c, e1), is))) =
    let P : Left T → Type 0 = λ l. does (setting_of form i) s (left_of i) (took p (e.0, l)) in
    let same = rest_is
    (is ∙ ap (λ z. moved (λ g. ((e.0, g), e.1)) (λ g. ((e.0, g), back (left_of i) e.1)) z) e1) in
    moves i j p e.0 (end, more, possible, subst P same d)
value_moves reading is_clone always does form s x moves i j o t
    (end, more, possible, (took p e, d, (z, inr (refused, e1), is))) =
    never
    (is ∙ ap (λ z. moved (λ g. ((e.0, g), e.1)) (λ g. ((e.0, g), back (left_of i) e.1)) z) e1)
  where
    never : {L O X : Type 0} {o : O} {e : L} → took o e ≡ wants → X
    never is = absurd (cc)
value_moves reading is_clone always does form s x moves i j o t
    (end, more, possible, (backs e, d, is)) = absurd (cc)
value_moves reading is_clone always does form s x moves i j o t
    (end, more, possible, (cuts e, d, is)) = absurd (cc)
value_moves reading is_clone always does form s x moves i j o t
    (end, more, possible, (asks need e, d, is)) = absurd (cc)
value_moves reading is_clone always does form s x moves i j o t
    (end, more, possible, (wants, d, is)) = absurd (cc)

-- a choice of two that consume does
pub choice_moves : {S1 S2 T L O : Type 0} (reading : Reading T L) (one : Does S1 T O)
    (two : Does S2 T O) (form : ErrorForm) (s1 : S1) (s2 : S2)
    → ConsumesInput reading.units (Ran reading one form) s1
    → ConsumesInput reading.units (Ran reading two form) s2
    → ConsumesInput reading.units (Ran reading (AltDoes one two) form) (s1, s2)
choice_moves {T = T} reading one two form s1 s2 h1 h2 i j o t
    (end, more, possible, (took p e, d, is)) =
    let P : Left T → Type 0 = λ l. one (setting_of form i) s1 (left_of i) (took p (e.0, l)) in
    h1 i j p e.0 (end, more, possible, subst P (rest_is is) d)
choice_moves {T = T} reading one two form s1 s2 h1 h2 i j o t
    (end, more, possible, (backs e, d, (took p f, c, is))) =
    let start : Left T = back (left_of i) e.1 in
    let P : Left T → Type 0 = λ l. two (setting_of form i) s2 start (took p (f.0, l)) in
    h2 (here (setting_of form i) start) j p f.0
    (record { ends = end.ends; cut = end.cut }, more, possible, subst P (rest_is is) c)
choice_moves reading one two form s1 s2 h1 h2 i j o t
    (end, more, possible, (backs e, d, (backs f, c, is))) = absurd (cc)
choice_moves reading one two form s1 s2 h1 h2 i j o t
    (end, more, possible, (backs e, d, (cuts f, c, is))) = absurd (cc)
choice_moves reading one two form s1 s2 h1 h2 i j o t
    (end, more, possible, (backs e, d, (asks need f, c, is))) = absurd (cc)
choice_moves reading one two form s1 s2 h1 h2 i j o t
    (end, more, possible, (backs e, d, (wants, c, is))) = absurd (cc)
choice_moves reading one two form s1 s2 h1 h2 i j o t (end, more, possible, (cuts e, d, is)) =
    absurd (cc)
choice_moves reading one two form s1 s2 h1 h2 i j o t (end, more, possible, (asks need e, d, is)) =
    absurd (cc)
choice_moves reading one two form s1 s2 h1 h2 i j o t (end, more, possible, (wants, d, is)) =
    absurd (cc)
