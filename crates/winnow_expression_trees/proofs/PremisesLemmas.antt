-- Parts made of stateless parts are stateless.
use Rattle.std.specs.Prelude.{◌≡◌, ◌⊎◌, ℕ, Ok, Err}
use Rattle.std.specs.declared.ops.Range.{Range}
use Rattle.std.proofs.Common.{refl, sym, subst, inl, inr, ◌∙◌}
use Rattle.streams.specs.Input.{Input, is_end_of_refl}
use Rattle.streams.specs.Kind.{Kind, backtrack, cut, incomplete, memory}
use Rattle.streams.specs.Reading.{Reading}
use Rattle.stream_errors.specs.Form.{Answer, ErrorForm}
use Rattle.winnow_core.specs.Decided.{EqualResults}
use Rattle.winnow_core.specs.Decided.Inputs.{both_err, both_ok}
use Rattle.winnow_core.specs.Runs.{Runs}
use Rattle.parser_definitions.specs.Does.{Ran}
use Rattle.parser_definitions.specs.Left.{End, left_of}
use Rattle.parser_definitions.specs.Outcome.{Does, Outcome, Setting, asks, backs, cuts, outcome_of}
use Rattle.parser_definitions.specs.Outcome.{setting_of, took, wants}
use Rattle.parser_definitions.specs.Outputs.{Makes, OutputDoes, SpanDoes, WithSpanDoes, made}
use Rattle.parser_definitions.specs.Outputs.{span_of}
use Rattle.parser_definitions.specs.Then.{ComesOf}
use Rattle.parser_definitions.specs.Then.Steps.{instead, where_took}
use Rattle.winnow_expression.specs.Did.{Came, came_by, came_run}
use Rattle.winnow_expression.specs.Ending.{LeavesEnd, ran_ending}
use Rattle.winnow_expression_trees.specs.Premises.{IsStateless, NotMemory}
use Rattle.winnow_expression_trees.specs.Premises.Laws.{AlikeWithSpan, stateless_within}
use Rattle.winnow_expression_trees.proofs.Plain.{not_memory}

-- ---- outputs made of another, and of where that was read

-- A call of a part, whose output is turned into another, by the inputs before and after it.
abbrev MakesOutput : {S T O U : Type 0} → (Input T → O → Input T → U → Type 0) → Runs S T O
    → Runs S T U
MakesOutput {O = O} {U} makes run s i answer t j =
    ((o : O) × (u : U) × run s i (Ok o) t j × makes i o j u × (answer ≡ Ok u))
    ⊎ ((k : Kind) × run s i (Err k) t j × (answer ≡ Err k))

module _ {S T O U : Type 0} {run : Runs S T O} {s : S} {alike : O → O → Type 0}
    {also : U → U → Type 0} (makes : Input T → O → Input T → U → Type 0)
    (made : (i j : Input T) (o p : O) (u v : U) → alike o p → makes i o j u → makes i p j v
    → also u v) where
  output_stateless : IsStateless alike run s → IsStateless also (MakesOutput makes run) s
  output_stateless c = record { keeps = keeps; decided = decided }
    where
      keeps : (i j : Input T) (a : Answer U) (t : S) → MakesOutput makes run s i a t j
          → NotMemory a → (t ≡ s) × (j.status ≡ i.status)
      keeps i j a t (inl (o, u, r, x, e)) n = c.keeps i j (Ok o) t r tt
      keeps i j a t (inr (k, r, e)) n = c.keeps i j (Err k) t r (subst (λ z. NotMemory z) e n)

      decided : (i j k : Input T) (a b : Answer U) (t u : S) → MakesOutput makes run s i a t j
          → MakesOutput makes run s i b u k → NotMemory a → NotMemory b
          → EqualResults also a b × (j ≡ k)
      decided i j k a b t u (inl (o, v, r, x, e)) (inl (p, w, q, y, f)) n m =
          let (like, place) = c.decided i j k (Ok o) (Ok p) t u r q tt tt in (
            both_ok also e f
                (made i j o p v w like x (subst (λ z. makes i p z w) (sym place) y)),
            place,
          )
      decided i j k a b t u (inl (o, v, r, x, e)) (inr (l, q, f)) n m =
          absurd (c.decided i j k (Ok o) (Err l) t u r q tt (subst (λ z. NotMemory z) f m)).0
      decided i j k a b t u (inr (l, r, e)) (inl (p, w, q, y, f)) n m =
          absurd (c.decided i j k (Err l) (Ok p) t u r q (subst (λ z. NotMemory z) e n) tt).0
      decided i j k a b t u (inr (l, r, e)) (inr (h, q, f)) n m =
          let (like, place) = c.decided i j k (Err l) (Err h) t u r q
          (subst (λ z. NotMemory z) e n) (subst (λ z. NotMemory z) f m) in
          (both_err also e f like, place)

-- a call with such an outcome
output_ran : {S T L O U : Type 0} (reading : Reading T L) (makes : Makes T O U) (does : Does S T O)
    (form : ErrorForm) (s : S) (i : Input T) (a : Answer U) (t : S) (j : Input T)
    → Ran reading (OutputDoes makes does) form s i a t j → NotMemory a
    → MakesOutput (λ i o j u. makes (left_of i) o (left_of j) u) (Ran reading does form) s i a t j
output_ran {S} {T} {O = O} {U} reading makes does form s i a t j ran other =
    let (u, k, run, same) = came_run at Made a t j ran.1 ran.2 (by ran.3.0 ran.3.1 ran.3.2) in
    let (e, f) = same (not_memory a other) in
    subst (λ z. Made a z j) e (subst (λ n. Made a u n) f run)
  where
    at : Setting
    at = setting_of form i

    Made : Answer U → S → Input T → Type 0
    Made a t j =
        MakesOutput (λ i o j u. makes (left_of i) o (left_of j) u) (Ran reading does form) s i a t
        j

    ends : {y : Outcome (End S T) U} → outcome_of a (t, left_of j) ≡ y
        → LeavesEnd reading at (left_of i) y
    ends is = subst (λ y. LeavesEnd reading at (left_of i) y) is
        (ran_ending reading (OutputDoes makes does) form s i a t j ran).1

    by : (x : Outcome (End S T) O) → does at s (left_of i) x
        → ComesOf {Q = S} (where_took instead (made makes)) at s (left_of i) x
        (outcome_of a (t, left_of j)) → Came at Made (outcome_of a (t, left_of j))
    by (took o e) d (u, m, is) =
        came_by at Made (Ok u) e is (inl (o, u, (ends is, refl, refl, d), m, refl))
    by (backs e) d is = came_by at Made (Err backtrack) e is
        (inr (backtrack, (ends is, refl, refl, d), refl))
    by (cuts e) d is = came_by at Made (Err cut) e is (inr (cut, (ends is, refl, refl, d), refl))
    by (asks need e) d is = came_by at Made (Err (incomplete need)) e is
        (inr (incomplete need, (ends is, refl, refl, d), refl))
    by wants d is = came_by at Made (Err memory) (s, left_of i) is
        (inr (memory, (is_end_of_refl reading i, refl, refl, d), refl))

module _ {S T L O : Type 0} (reading : Reading T L) (does : Does S T O) (form : ErrorForm) (s : S)
    (alike : O → O → Type 0) where
  pub span_stateless : IsStateless alike (Ran reading does form) s
      → IsStateless (λ u v. u ≡ v) (Ran reading (SpanDoes does) form) s
  span_stateless c =
      stateless_within (output_ran reading (λ w o end u. u ≡ span_of w end) does form s)
      (output_stateless (λ i (o : O) j span. span ≡ span_of (left_of i) (left_of j))
      (λ i j o p u v like x y. x ∙ sym y) c)

  pub with_span_stateless : IsStateless alike (Ran reading does form) s
      → IsStateless (AlikeWithSpan alike) (Ran reading (WithSpanDoes does) form) s
  with_span_stateless c =
      stateless_within
      (output_ran reading (λ w o end u. (u.0 ≡ o) × (u.1 ≡ span_of w end)) does form s)
      (output_stateless
      (λ i (o : O) j (both : O × Range ℕ). (both.0 ≡ o) ×
      (both.1 ≡ span_of (left_of i) (left_of j)))
      (λ i j o p u v like x y.
      let P : O → Type 0 = λ z. alike z v.0 in
      let Q : O → Type 0 = λ z. alike o z in
      (subst P (sym x.0) (subst Q (sym y.0) like), x.1 ∙ sym y.1)) c)
