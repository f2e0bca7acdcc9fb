-- The definitions of adapters that compute an output from the child's, and from where the child
-- began and ended.
use Rattle.std.specs.Prelude.{◌≡◌, ⊤, ℕ, List, ◌++◌, Option, Some}
use Rattle.std.proofs.Common.{refl, sym, ap, subst, ◌∙◌, append_assoc}
use Rattle.std.proofs.lemmas.List.{append_cancel_right}
use Rattle.std.specs.declared.ops.Range.{Range}
use Rattle.streams.specs.Reading.{Reading}
use Rattle.parser_definitions.specs.Does.{Lawful}
use Rattle.parser_definitions.specs.Equal.{AlikeOptions, AlikePairs}
use Rattle.parser_definitions.specs.Left.{Left, extend}
use Rattle.parser_definitions.specs.Outcome.{Does, as_longer, both, took}
use Rattle.parser_definitions.specs.Spelled.{ShowSame}
use Rattle.parser_definitions.specs.Then.{Comes, Then, then_law}
use Rattle.parser_definitions.specs.Then.Steps.{holds_where, instead, meets_where, same, where_took}

-- `makes start o end u`: the output `u`, of the child's output `o`, which the child returned
-- between `start` and `end`.
abbrev pub Makes : Type 0 → Type 0 → Type 0 → Type 1
Makes T O U = Left T → O → Left T → U → Type 0

-- Returns the output that is made.
abbrev pub made : {S T O U : Type 0} → Makes T O U → O → Comes S S T U
made {U = U} makes o at s w end y = (u : U) × makes w o end.1 u × (y ≡ took u end)

abbrev pub OutputDoes : {S T O U : Type 0} → Makes T O U → Does S T O → Does S T U
OutputDoes makes does = Then same does (where_took instead (made makes))

-- Equal outputs make equal outputs, and the same ones if more tokens follow.
pub record MakesAlike {T O U : Type 0} (makes : Makes T O U) (alike : O → O → Type 0)
    (also : U → U → Type 0) : Type 0 where
  pub one : (w end : Left T) (o p : O) (u v : U) → alike o p → makes w o end u → makes w p end v
      → also u v
  pub stays : (more : List T) (w end : Left T) (o : O) (u : U) → makes w o end u
      → makes (extend more w) o (extend more end) u

pub output_law : {S T O U : Type 0} {stable : Type 0} {alike : O → O → Type 0}
    {also : U → U → Type 0} {does : Does S T O} {makes : Makes T O U}
    → MakesAlike makes alike also → Lawful stable alike does
    → Lawful stable also (OutputDoes makes does)
output_law {also = also} m law = then_law law
    (meets_where instead (λ o p like. record {
      one = λ at s w end y z (u, x, e) (v, c, f).
          both also e f (m.one w end.1 o p u v like x c, refl);
    }))
    (holds_where instead (λ o. record {
      whole = λ at s w end need last is (u, x, e). absurd (cc);
      stays = λ is more flag s w end y final (u, x, e).
          (u, m.stays more w end.1 o u x, as_longer more e);
    })) (λ is. is)

-- ---- outputs of an output

-- Both are made of equal outputs.
abbrev pub OutputsMadeAlike : {O U : Type 0} → (O → O → Type 0) → (O → U → Type 0) → U → U → Type 0
OutputsMadeAlike {O = O} alike converts u v =
    (o : O) × (p : O) × alike o p × converts o u × converts p v

-- The output is what the child's output is converted to.
abbrev pub OutputIntoDoes : {S T O U : Type 0} → (O → U → Type 0) → Does S T O → Does S T U
OutputIntoDoes converts = OutputDoes (λ w o end u. converts o u)

pub output_into_law : {S T O U : Type 0} {stable : Type 0} {alike : O → O → Type 0}
    {does : Does S T O} (converts : O → U → Type 0) → Lawful stable alike does
    → Lawful stable (OutputsMadeAlike alike converts) (OutputIntoDoes converts does)
output_into_law {T = T} converts law = output_law {makes = λ (w : Left T) o end u. converts o u}
    (record {
      one = λ w end o p u v like x y. (o, p, like, x, y);
      stays = λ more w end o u x. x;
    }) law

-- The output is a default value.
abbrev pub DefaultValueDoes : {S T O U : Type 0} → (U → Type 0) → Does S T O → Does S T U
DefaultValueDoes default = OutputDoes (λ w o end u. default u)

-- The outputs are equal if there is one default value.
pub default_value_law : {S T O U : Type 0} {stable : Type 0} {alike : O → O → Type 0}
    {also : U → U → Type 0} {does : Does S T O} (default : U → Type 0)
    → ((u v : U) → default u → default v → also u v) → Lawful stable alike does
    → Lawful stable also (DefaultValueDoes default does)
default_value_law {T = T} {O = O} default one law =
    output_law {makes = λ (w : Left T) (o : O) end u. default u}
    (record {
      one = λ w end o p u v like x y. one u v x y;
      stays = λ more w end o u x. x;
    }) law

-- There is no output.
abbrev pub VoidDoes : {S T O : Type 0} → Does S T O → Does S T ⊤
VoidDoes = OutputDoes (λ w o end u. ⊤)

pub void_law : {S T O : Type 0} {stable : Type 0} {alike : O → O → Type 0} {does : Does S T O}
    → Lawful stable alike does → Lawful stable (λ u v. u ≡ v) (VoidDoes does)
void_law {T = T} {O = O} law = output_law {makes = λ (w : Left T) (o : O) end (u : ⊤). ⊤}
    (record {
      one = λ w end o p u v like x y. refl;
      stays = λ more w end o u x. x;
    }) law

-- The output is `Some` of the child's.
abbrev pub SomeDoes : {S T O : Type 0} → Does S T O → Does S T (Option O)
SomeDoes = OutputDoes (λ w o end u. u ≡ Some o)

pub some_law : {S T O : Type 0} {stable : Type 0} {alike : O → O → Type 0} {does : Does S T O}
    → Lawful stable alike does → Lawful stable (AlikeOptions alike) (SomeDoes does)
some_law {T = T} {O = O} {alike = alike} law =
    output_law {makes = λ (w : Left T) (o : O) end u. u ≡ Some o}
    (record {
      one = λ w end o p u v like x y. subst (λ z. AlikeOptions alike z v) (sym x)
          (subst (λ z. AlikeOptions alike (Some o) z) (sym y) like);
      stays = λ more w end o u x. x;
    }) law

-- ---- slices of the consumed tokens

-- A slice shows the tokens from `w` to `end`.
abbrev pub ShowsTaken : {T L : Type 0} → Reading T L → Left T → Left T → L → Type 0
ShowsTaken {T} reading w end slice =
    (front : List T) × (w.tokens ≡ front ++ end.tokens) × reading.shows slice front

pub shows_same : {T L : Type 0} (reading : Reading T L) (w end : Left T) (u v : L)
    → ShowsTaken reading w end u → ShowsTaken reading w end v → ShowSame reading u v
shows_same reading w end u v (f, e, shown) (g, d, also) = (
  f,
  shown,
  subst (λ l. reading.shows v l) (append_cancel_right g f end.tokens (sym d ∙ e)) also,
)

pub shows_longer : {T L : Type 0} (reading : Reading T L) (more : List T) (w end : Left T) (u : L)
    → ShowsTaken reading w end u → ShowsTaken reading (extend more w) (extend more end) u
shows_longer reading more w end u (f, e, shown) =
    (f, ap (λ l. l ++ more) e ∙ append_assoc f end.tokens more, shown)

-- The output is a slice of the consumed tokens.
abbrev pub TakeDoes : {S T L O : Type 0} → Reading T L → Does S T O → Does S T L
TakeDoes reading = OutputDoes (λ w o end u. ShowsTaken reading w end u)

pub take_law : {S T L O : Type 0} {stable : Type 0} {alike : O → O → Type 0} {does : Does S T O}
    (reading : Reading T L) → Lawful stable alike does
    → Lawful stable (ShowSame reading) (TakeDoes reading does)
take_law {O = O} reading law = output_law {makes = λ w (o : O) end u. ShowsTaken reading w end u}
    (record {
      one = λ w end o p u v like x y. shows_same reading w end u v x y;
      stays = λ more w end o u x. shows_longer reading more w end u x;
    }) law

-- ---- the child's output with another

-- The output, with another that is made.
abbrev pub WithDoes : {S T O U : Type 0} → Makes T O U → Does S T O → Does S T (O × U)
WithDoes makes = OutputDoes (λ w o end u. (u.0 ≡ o) × makes w o end u.1)

pub with_law : {S T O U : Type 0} {stable : Type 0} {alike : O → O → Type 0}
    {also : U → U → Type 0} {does : Does S T O} {makes : Makes T O U}
    → MakesAlike makes alike also → Lawful stable alike does
    → Lawful stable (AlikePairs alike also) (WithDoes makes does)
with_law {alike = alike} {makes = makes} m law =
    output_law {makes = λ w o end u. (u.0 ≡ o) × makes w o end u.1}
    (record {
      one = λ w end o p u v like x y. (
        subst (λ z. alike z v.0) (sym x.0) (subst (λ z. alike o z) (sym y.0) like),
        m.one w end o p u.1 v.1 like x.1 y.1,
      );
      stays = λ more w end o u x. (x.0, m.stays more w end o u.1 x.1);
    }) law

abbrev pub WithTakenDoes : {S T L O : Type 0} → Reading T L → Does S T O → Does S T (O × L)
WithTakenDoes reading = WithDoes (λ w o end u. ShowsTaken reading w end u)

pub with_taken_law : {S T L O : Type 0} {stable : Type 0} {alike : O → O → Type 0}
    {does : Does S T O} (reading : Reading T L) → Lawful stable alike does
    → Lawful stable (AlikePairs alike (ShowSame reading)) (WithTakenDoes reading does)
with_taken_law {O = O} reading law =
    with_law {makes = λ w (o : O) end u. ShowsTaken reading w end u}
    (record {
      one = λ w end o p u v like x y. shows_same reading w end u v x y;
      stays = λ more w end o u x. shows_longer reading more w end u x;
    }) law

-- ---- spans

-- The span from `w` to `end`, in units from the start of the stream.
abbrev pub span_of : {T : Type 0} → Left T → Left T → Range ℕ
span_of w end = record { start = w.place.passed; end = end.place.passed }

-- The output is the span of the consumed tokens.
abbrev pub SpanDoes : {S T O : Type 0} → Does S T O → Does S T (Range ℕ)
SpanDoes = OutputDoes (λ w o end u. u ≡ span_of w end)

pub span_law : {S T O : Type 0} {stable : Type 0} {alike : O → O → Type 0} {does : Does S T O}
    → Lawful stable alike does → Lawful stable (λ u v. u ≡ v) (SpanDoes does)
span_law {T = T} {O = O} law = output_law {makes = λ (w : Left T) (o : O) end u. u ≡ span_of w end}
    (record {
      one = λ w end o p u v like x y. x ∙ sym y;
      stays = λ more w end o u x. x;
    }) law

abbrev pub WithSpanDoes : {S T O : Type 0} → Does S T O → Does S T (O × Range ℕ)
WithSpanDoes = WithDoes (λ w o end u. u ≡ span_of w end)

pub with_span_law : {S T O : Type 0} {stable : Type 0} {alike : O → O → Type 0} {does : Does S T O}
    → Lawful stable alike does
    → Lawful stable (AlikePairs alike (λ u v. u ≡ v)) (WithSpanDoes does)
with_span_law {T = T} {O = O} law =
    with_law {makes = λ (w : Left T) (o : O) end u. u ≡ span_of w end}
    (record {
      one = λ w end o p u v like x y. x ∙ sym y;
      stays = λ more w end o u x. x;
    }) law
