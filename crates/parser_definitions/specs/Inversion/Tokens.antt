-- Calls of parsers of tokens: literals, `any`, `take`, and integers. `at` is the setting.
use Rattle.std.specs.Prelude.{◌≡◌, Bool, false, ℕ, List, [], ◌∷◌, ◌++◌, length, Option}
use Rattle.std.proofs.Common.{refl, sym, ap, subst, inl, inr, ◌∙◌}
use Rattle.streams.specs.Equal.{true_is_false}
use Rattle.streams.specs.Kind.{Kind, backtrack}
use Rattle.streams.specs.Reading.{Reading}
use Rattle.stream_searches.specs.Compare.{StartsWithSpelling}
use Rattle.stream_errors.specs.Form.{ErrorForm}
use Rattle.parser_definitions.specs.Any.{AnyDoes}
use Rattle.parser_definitions.specs.Integer.{AreBytes, IntegerDoes}
use Rattle.parser_definitions.specs.Left.{End, Left}
use Rattle.parser_definitions.specs.Literal.{LiteralDoes}
use Rattle.parser_definitions.specs.Outcome.{Setting, lacks_by, took}
use Rattle.parser_definitions.specs.Passed.{Passed}
use Rattle.parser_definitions.specs.Take.{TakeDoes}
use Rattle.parser_definitions.specs.Inversion.Outcomes.{FailsAt, Failing, fails_by, lacks_at}
use Rattle.parser_definitions.specs.Inversion.Outcomes.{lacks_none, same_took}

-- the output of a case that returns one
pub takes_ok : {S T O : Type 0} {So : O → Left T → Type 0} {s : S} {u : O} {e : End S T}
    → (o : O) × (rest : Left T) × So o rest × (took u e ≡ took o (s, rest)) → So u e.1
takes_ok {So = So} {u = u} (o, rest, so, same) =
    let told = same_took same in
    subst (λ l. So u l) (sym (ap (λ p. p.1) told.1)) (subst (λ x. So x rest) (sym told.0) so)

-- an error on complete input that keeps it
pub stays_at : {S T O : Type 0} {k : Kind} {left : Left T} (form : ErrorForm) (more : Bool)
    (need : Option ℕ) (s : S) (w : Left T) → more ≡ false
    → FailsAt k left (lacks_by {O = O} form more need (s, w)) → (k ≡ backtrack) × (left ≡ w)
stays_at form more need s w whole fails =
    let (kind, kept) = lacks_at form more need (s, w) fails in (
      elim kind [ inl (open_too, is) ↦ true_is_false (sym open_too ∙ whole) | inr (so, is) ↦ is ],
      sym kept,
    )

-- ---- literals

module _ {S T L O : Type 0} (at : Setting) {reading : Reading T L} {Spelled : List T → Type 0}
    {output : L → O} {s : S} {w : Left T} where
  -- The input starts with a spelling, and a slice shows it.
  pub literal_taken : {o : O} {e : End S T}
      → LiteralDoes reading (λ _. Spelled) (λ _. output) at s w (took o e)
      → (front : List T) × (slice : L) × Spelled front × reading.shows slice front
      × Passed reading front w e.1 × (o ≡ output slice)
  literal_taken (inl told) = takes_ok told
  literal_taken {o} (inr (inl (short, is))) = lacks_none at.form at.more _ _ _ o is
  literal_taken (inr (inr (other, is))) = absurd (cc)

  -- Complete input does not start with one, and is unchanged.
  pub literal_missing : {k : Kind} {left : Left T} → at.more ≡ false
      → Failing (LiteralDoes reading (λ _. Spelled) (λ _. output) at s w) k left
      → (k ≡ backtrack) × (left ≡ w) × (StartsWithSpelling Spelled w.tokens → ⊥)
  literal_missing whole (y, inl (o, rest, told, is), fails) = absurd ((fails_by is fails).is)
  literal_missing whole (y, inr (inl ((short, open_too), is)), fails) =
      true_is_false (sym open_too ∙ whole)
  literal_missing whole (y, inr (inr ((other, told), is)), fails) =
      let (kind, kept) = (fails_by is fails).is in (kind, sym kept, other)

-- a literal of one token
module _ {S T L O : Type 0} (at : Setting) {reading : Reading T L} {x : T} {output : L → O}
    {s : S} {w : Left T} where
  pub token_taken : {o : O} {e : End S T}
      → LiteralDoes reading (λ _ xs. xs ≡ x ∷ []) (λ _. output) at s w (took o e)
      → w.tokens ≡ x ∷ e.1.tokens
  token_taken {e = e} did =
      let (front, slice, is, shown, passed, made) = literal_taken at did in
      passed.tokens ∙ ap (λ l. l ++ e.1.tokens) is

  pub token_missing : {k : Kind} {left : Left T} → at.more ≡ false
      → Failing (LiteralDoes reading (λ _ xs. xs ≡ x ∷ []) (λ _. output) at s w) k left
      → (k ≡ backtrack) × (left ≡ w) × ((rest : List T) → w.tokens ≡ x ∷ rest → ⊥)
  token_missing whole failed =
      let (kind, kept, other) = literal_missing at whole failed in
      (kind, kept, λ rest e. other (x ∷ [], rest, refl, e))

-- ---- `any`, and `take`

-- the first token
pub any_ok : {S K T L : Type 0} (at : Setting) {seen : K → T} {reading : Reading T L} {s : S}
    {w : Left T} {x : K} {e : End S T} → AnyDoes seen reading at s w (took x e)
    → Passed reading (seen x ∷ []) w e.1
any_ok at (inl told) = takes_ok told
any_ok at {x = x} (inr (nothing, is)) = lacks_none at.form at.more _ _ _ x is

-- `count` tokens, which the slice shows
pub take_count_ok : {S T L : Type 0} (at : Setting) {reading : Reading T L} (counts : Bool)
    {count : ℕ} {s : S} {w : Left T} {slice : L} {e : End S T}
    → TakeDoes reading counts (λ _. count) at s w (took slice e)
    → (taken : List T) × (length taken ≡ count) × reading.shows slice taken
    × Passed reading taken w e.1
take_count_ok at counts (inl told) = takes_ok told
take_count_ok at counts {slice = slice} (inr (few, is)) =
    lacks_none at.form at.more _ _ _ slice is

-- ---- integers

module _ {S L O : Type 0} (at : Setting) {width : ℕ} {value : List ℕ → O} {reading : Reading ℕ L}
    {s : S} {w : Left ℕ} where
  -- the first `width` bytes
  pub integer_ok : {o : O} {e : End S ℕ}
      → IntegerDoes width (λ _. value) reading at s w (took o e)
      → (bytes : List ℕ) × (length bytes ≡ width) × AreBytes bytes × Passed reading bytes w e.1
      × (o ≡ value bytes)
  integer_ok (inl told) = takes_ok told
  integer_ok {o} (inr (few, is)) = lacks_none at.form at.more _ _ _ o is
