-- Results of the parsers of a token, of a line, and of tokens before a line ending.
use Rattle.std.specs.Prelude.{◌≡◌, ◌⊎◌, ℕ, Bool, List, [], ◌∷◌, Result, Ok, Err}
use Rattle.std.specs.Borrow.{Bor}
use Rattle.std.proofs.Common.{inl, inr, refl}
use Rattle.stream_errors.specs.Form.{ErrorForm, answer_by}
use Rattle.streams.specs.Following.{Following}
use Rattle.streams.specs.Kind.{Kind, backtrack, cut, incomplete, memory}
use Rattle.streams.specs.Input.{Input}
use Rattle.streams.specs.Reading.{Reading}
use Rattle.stream_sets.specs.Once.{Others}
use Rattle.stream_sets.specs.Range.{Bounds}
use Rattle.grammars.specs.Grammar.{Both, Grammar, Literally, Longest, NoMatch}
use Rattle.grammars.specs.Grammar.Searches.{LiterallyBytes}
use Rattle.parser_definitions.specs.Inversion.Outcomes.{lacks_none, misused_none}
use Rattle.parser_definitions.specs.Inversion.Sequences.{both_ok}
use Rattle.parser_definitions.specs.Inversion.Tokens.{literal_taken, takes_ok}
use Rattle.parser_definitions.specs.Left.{End, Left, left_of}
use Rattle.parser_definitions.specs.LineEnding.{CrlfDoes}
use Rattle.parser_definitions.specs.Outcome.{Does, Setting, setting_of, took}
use Rattle.parser_definitions.specs.Sequence.{TerminatedDoes}
use Rattle.parser_definitions.specs.TakeWhile.{TakeTillDoes}
use Rattle.winnow_core.specs.Tells.{Tells}
use Rattle.winnow_grammar.specs.Cut.{ReadsOrAsks}
use Rattle.format_resp.proofs.Found.{Finds}
use Rattle.format_resp.specs.MustAsk.{ReadsOrMustAsk}

-- If every match is an outcome, an error means that there is no match: outcomes are unique.
no_match : {S T L O : Type 0} {reading : Reading T L} {alike : O → O → Type 0} {does : Does S T O}
    (grammar : Grammar T O) {form : ErrorForm} {s t : S} {i j : Input T} (k : Kind)
    → Tells reading alike does form s i (Err k) t j
    → Finds does (setting_of form i) s grammar (left_of i)
    → (k ≡ memory) ⊎ NoMatch grammar i.left.tokens
no_match grammar memory told finds = inl refl
no_match grammar {s = s} backtrack told finds = inr (λ o rest x.
    let (end, is, d) = finds.found o rest x in told.only (took o (s, end)) d)
no_match grammar {s = s} cut told finds = inr (λ o rest x.
    let (end, is, d) = finds.found o rest x in told.only (took o (s, end)) d)
no_match grammar {s = s} (incomplete need) told finds = inr (λ o rest x.
    let (end, is, d) = finds.found o rest x in told.only (took o (s, end)) d)

-- a call, by a grammar equal to the parser's: its output is a match, and every match is an outcome
pub must_ask : {S T L O E : Type 0} {reading : Reading T L} {following : Following T}
    {kind : E → Kind} {alike : O → O → Type 0} {does : Does S T O} {grammar known : Grammar T O}
    {form : ErrorForm} {s t : S} {i j : Input T} {result : Result O E} → grammar ≡ known
    → ReadsOrAsks reading following kind grammar i result j
    → Tells reading alike does form s i (answer_by kind result) t j
    → ((o : O) → answer_by kind result ≡ Ok o → grammar i.left.tokens o j.left.tokens)
    → Finds does (setting_of form i) s grammar (left_of i)
    → ReadsOrMustAsk reading following kind known i result j
must_ask {result = Ok o} is reads told matches finds =
    rw (← is) (record { reads = reads; first = matches o refl })
must_ask {kind = kind} {grammar = grammar} {result = Err e} is reads told matches finds =
    rw (← is) (record { reads = reads; first = no_match grammar (kind e) told finds })

-- ---- line endings

module _ {T L : Type 0} (reading : Reading T L) (spells : Bor (List ℕ) → List T → Type 0) where
  pub ending_taken : {S : Type 0} (at : Setting) {s : S} {w : Left T} {o : L} {e : End S T}
      → CrlfDoes reading spells at s w (took o e)
      → LiterallyBytes reading spells (13 ∷ 10 ∷ []) w.tokens o e.1.tokens
  unfolding Literally
  ending_taken at (text, is, did) =
      let (front, slice, spelled, shown, passed, made) = literal_taken at did in
      (front, slice, (text, is, spelled), shown, passed.tokens, made)

  -- a line: the tokens before a member of the set, and a line ending
  module _ {X S K : Type 0} (seen : K → T) (tells : S → K → Bool → Type 0) (set : X → S)
      (bounds : X → Bounds) where
    before_taken : (at : Setting) {s : X} {w : Left T} {slice : L} {e : End X T}
        → TakeTillDoes seen reading (λ x. tells (set x)) bounds at s w (took slice e)
        → Longest reading seen (Others tells) (set s) (bounds s) w.tokens slice e.1.tokens
    unfolding Longest
    before_taken at {slice = slice} (inl (bad, is)) = misused_none at.form _ _ slice is
    before_taken at {slice = slice} (inr (within, inl (open_too, is))) =
        lacks_none at.form at.more _ _ _ slice is
    before_taken at (inr (within, inr (inl told))) =
        let (taken, (longest, over), enough, shown, passed) = takes_ok told in
        (taken, longest, enough, shown)
    before_taken at (inr (within, inr (inr (few, is)))) = absurd (cc)

    pub line_taken : {W : Type 0} (at : Setting) {s : X × W} {w : Left T} {o : L}
        {e : End (X × W) T}
        → TerminatedDoes (TakeTillDoes seen reading (λ x. tells (set x)) bounds)
        (CrlfDoes reading spells) at s w (took o e)
        → Both (λ o1 o2. o1) (Longest reading seen (Others tells) (set s.0) (bounds s.0))
        (LiterallyBytes reading spells (13 ∷ 10 ∷ [])) w.tokens o e.1.tokens
    unfolding Both
    line_taken at did =
        let (line, end, a, t, first, last, is) = both_ok did in
        (line, end, a.1.tokens, before_taken at first, ending_taken at last, is)
