-- The inputs of a call, by what is left of them.
use Rattle.std.specs.Prelude.{◌≡◌, Bool, List, ◌++◌, Err}
use Rattle.std.proofs.Common.{refl, sym, ap, subst, ◌∙◌, append_assoc}
use Rattle.streams.specs.Input.{Input, IsEndOf, Passes, Remaining, Status, back_at, is_end_of_refl}
use Rattle.streams.specs.Kind.{Kind, backtrack}
use Rattle.streams.specs.Reading.{Reading}
use Rattle.stream_errors.specs.Form.{ErrorForm}
use Rattle.parser_definitions.specs.Does.{Ran}
use Rattle.parser_definitions.specs.Left.{Left, left_of}
use Rattle.parser_definitions.specs.Outcome.{Does, backs, setting_of}
use Rattle.parser_definitions.specs.Passed.{Passed}
use Rattle.winnow_core.specs.Leaves.{passed_of}

-- the tokens that are passed
pub passes_from : {T S : Type 0} {reading : Reading T S} {front : List T} (i j : Input T)
    → Passed reading front (left_of i) (left_of j) → j.status.cut ≡ i.status.cut
    → j.left.possible ≡ i.left.possible → Passes reading front i j
passes_from i j p more possible =
    let make : Bool → List Kind → Status = λ b r. record { cut = b; recorded = r } in
    record {
      tokens = p.tokens;
      place = p.place;
      possible = possible;
      status = ap (λ b. make b j.status.recorded) more ∙ ap (λ r. make i.status.cut r) p.recorded;
    }

-- what is passed in two steps
pub passed_two : {T S : Type 0} {reading : Reading T S} {xs ys : List T} {w a rest : Left T}
    → Passed reading xs w a → Passed reading ys a rest → Passed reading (xs ++ ys) w rest
passed_two {reading = reading} {xs = xs} {ys = ys} {w = w} {rest = rest} p q = record {
  tokens = p.tokens ∙ ap (λ l. xs ++ l) q.tokens ∙ sym (append_assoc xs ys rest.tokens);
  place = q.place ∙ ap (λ x. reading.advance x (reading.units ys)) p.place
      ∙ reading.advance_add w.place (reading.units xs) (reading.units ys)
      ∙ ap (λ n. reading.advance w.place n) (sym (reading.units_add xs ys));
  recorded = q.recorded ∙ p.recorded;
}

pub passes_two : {T S : Type 0} {reading : Reading T S} {xs ys : List T} {i a j : Input T}
    → Passes reading xs i a → Passes reading ys a j → Passes reading (xs ++ ys) i j
passes_two {i = i} {j = j} p q =
    passes_from i j (passed_two (passed_of p) (passed_of q))
    (ap (λ x. x.cut) (q.status ∙ p.status)) (q.possible ∙ p.possible)

-- back at the start, if nothing was recorded
pub back_same : {T : Type 0} (i b : Input T) → b.status ≡ i.status → back_at i.left b ≡ i
back_same i b e = ap (λ s. record i { status = s }) e

pub back_to : {T : Type 0} (i b m : Input T) (start : Remaining T) → start ≡ i.left
    → b.status ≡ i.status → m ≡ back_at start b → m ≡ i
back_to i b m start at same back = back ∙ ap (λ x. back_at x b) at ∙ back_same i b same

pub end_same : {T S : Type 0} (reading : Reading T S) (i m : Input T) → m ≡ i
    → IsEndOf reading m i
end_same reading i m same =
    let P : Input _ → Type 0 = λ x. IsEndOf reading x i in
    subst P (sym same) (is_end_of_refl reading i)

-- a call that backtracks and consumes nothing
pub fails_back : {S T L O : Type 0} (reading : Reading T L) (does : Does S T O) (form : ErrorForm)
    (s : S) (i m : Input T) (k : Kind) → k ≡ backtrack → m ≡ i
    → does (setting_of form i) s (left_of i) (backs (s, left_of i))
    → Ran reading does form s i (Err k) s m
fails_back {O = O} reading does form s i m k kind same did =
    let P : Input _ → Type 0 = λ x. Ran reading does form s i (Err k) s x in
    let Q : Kind → Type 0 = λ l. Ran reading does form s i (Err l) s i in
    subst P (sym same) (subst Q (sym kind) (is_end_of_refl reading i, refl, refl, did))
