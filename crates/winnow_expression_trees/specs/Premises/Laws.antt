-- Parts made of stateless parts are stateless.
use Rattle.std.specs.Prelude.{◌≡◌, ⊤, ℕ, Ok, Err}
use Rattle.std.specs.declared.ops.Range.{Range}
use Rattle.std.proofs.Common.{refl, sym, ap, ◌∙◌}
use Rattle.streams.specs.Input.{Input}
use Rattle.streams.specs.Kind.{backtrack, cut, incomplete, memory}
use Rattle.streams.specs.Reading.{Reading}
use Rattle.stream_errors.specs.Form.{Answer, ErrorForm}
use Rattle.parser_definitions.specs.Cases.{fails_law}
use Rattle.parser_definitions.specs.Does.{Lawful, Ran}
use Rattle.parser_definitions.specs.Eof.{FailDoes}
use Rattle.parser_definitions.specs.Left.{left_of}
use Rattle.parser_definitions.specs.Outcome.{Alike, Does, outcome_of, setting_of}
use Rattle.winnow_core.specs.Decided.{EqualResults}
use Rattle.winnow_core.specs.Runs.{Runs}
use Rattle.winnow_expression.specs.Did.{here, is_here}
use Rattle.winnow_expression_trees.specs.Premises.Decided.{KeepsState, did_stays, leaves_by}
use Rattle.winnow_expression_trees.specs.Premises.{IsStateless, NotMemory}

-- the results of equal outcomes, neither of which is out of memory
answers : {L O : Type 0} (alike : O → O → Type 0) (a b : Answer O) (rest end : L) → NotMemory a
    → NotMemory b → Alike alike (outcome_of a rest) (outcome_of b end)
    → EqualResults alike a b × (rest ≡ end)
answers alike (Ok o) (Ok p) rest end na nb is = is
answers alike (Ok o) (Err backtrack) rest end na nb is = absurd is
answers alike (Ok o) (Err cut) rest end na nb is = absurd is
answers alike (Ok o) (Err (incomplete need)) rest end na nb is = absurd is
answers alike a (Err memory) rest end na nb is = absurd (nb refl)
answers alike (Err memory) b rest end na nb is = absurd (na refl)
answers alike (Err backtrack) (Ok p) rest end na nb is = absurd is
answers alike (Err backtrack) (Err backtrack) rest end na nb is = (refl, is)
answers alike (Err backtrack) (Err cut) rest end na nb is = absurd is
answers alike (Err backtrack) (Err (incomplete need)) rest end na nb is = absurd is
answers alike (Err cut) (Ok p) rest end na nb is = absurd is
answers alike (Err cut) (Err backtrack) rest end na nb is = absurd is
answers alike (Err cut) (Err cut) rest end na nb is = (refl, is)
answers alike (Err cut) (Err (incomplete need)) rest end na nb is = absurd is
answers alike (Err (incomplete need)) (Ok p) rest end na nb is = absurd is
answers alike (Err (incomplete need)) (Err backtrack) rest end na nb is = absurd is
answers alike (Err (incomplete need)) (Err cut) rest end na nb is = absurd is
answers alike (Err (incomplete need)) (Err (incomplete other)) rest end na nb is =
    (ap (λ n. incomplete n) is.0, is.1)

-- a part whose calls are among stateless ones, unless memory runs out
pub stateless_within : {S T O : Type 0} {alike : O → O → Type 0} {run other : Runs S T O} {s : S}
    → ((i : Input T) (a : Answer O) (t : S) (j : Input T) → run s i a t j → NotMemory a
    → other s i a t j) → IsStateless alike other s → IsStateless alike run s
stateless_within within c = record {
  keeps = λ i j a t r n. c.keeps i j a t (within i a t j r n) n;
  decided = λ i j k a b t u r q na nb.
      c.decided i j k a b t u (within i a t j r na) (within i b u k q nb) na nb;
}

-- a part that the law of its definition makes deterministic, in a state that its calls keep
pub law_stateless : {S T L O : Type 0} (reading : Reading T L) {does : Does S T O} {stable : Type 0}
    {alike : O → O → Type 0} → Lawful stable alike does → (form : ErrorForm) (s : S)
    → KeepsState (Ran reading does form) s → IsStateless alike (Ran reading does form) s
law_stateless reading {alike = alike} law form s stays = record {
  keeps = stays;
  decided = λ i j k a b t u r q na nb.
      let at = setting_of form i in
      let both = answers alike a b (t, left_of j) (u, left_of k) na nb
      (law.one at s (left_of i) (outcome_of a (t, left_of j)) (outcome_of b (u, left_of k)) r.3
      q.3) in (
        both.0,
        is_here at r.1 r.2 ∙ ap (λ e. here at e.1) both.1 ∙ sym (is_here at q.1 q.2),
      );
}

-- the parser that fails, as where no operator was set
pub fail_stateless : {S T L O : Type 0} (reading : Reading T L) (alike : O → O → Type 0)
    (form : ErrorForm) (s : S) → IsStateless alike (Ran reading FailDoes form) s
fail_stateless reading alike form s =
    law_stateless reading
    (fails_law {stable = ⊤} {alike = alike} (λ s at w. ⊤) (λ is more flag s w a. tt)) form s
    (did_stays reading FailDoes form s (λ at w y (is, e). leaves_by s w.recorded e (refl, refl)))

-- ---- outputs made of another, and of where that was read

-- equivalent outputs with the same span
abbrev pub AlikeWithSpan : {O : Type 0} → (O → O → Type 0) → O × Range ℕ → O × Range ℕ → Type 0
AlikeWithSpan alike u v = alike u.0 v.0 × (u.1 ≡ v.1)
