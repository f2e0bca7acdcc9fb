-- Calls of the folds: the first element, and what follows it.
use Rattle.std.specs.declared.vec.Vec.{Vec}
use Rattle.std.proofs.Common.{◌≡◌, None, Ok, Err, refl, ◌∙◌}
use Rattle.streams.specs.Input.{Input, is_end_of_trans}
use Rattle.streams.specs.Kind.{Kind}
use Rattle.streams.specs.Reading.{Reading}
use Rattle.stream_errors.specs.Form.{Answer, ErrorForm}
use Rattle.stream_sets.specs.Accumulator.{list_kept}
use Rattle.stream_sets.specs.Range.{from_to}
use Rattle.parser_definitions.specs.Both.{BothDo}
use Rattle.parser_definitions.specs.Does.{Ran}
use Rattle.parser_definitions.specs.Folding.{gathering}
use Rattle.parser_definitions.specs.Left.{left_of}
use Rattle.parser_definitions.specs.Outcome.{Does, outcome_of, setting_of, took}
use Rattle.parser_definitions.specs.Repeat.{Many}
use Rattle.parser_definitions.specs.SeparatedFold.{FoldsRight, PairsDo, SeparatedFoldr1Does}
use Rattle.parser_definitions.specs.SeparatedFold.{folds_links}
use Rattle.parser_definitions.specs.Then.{Then}
use Rattle.parser_definitions.specs.Then.Steps.{and_then, instead, same, where_took}
use Rattle.parser_definitions.specs.Threes.{one_of, turned_of, with_one, with_turned}
use Rattle.winnow_core.specs.Results.{failed}
use Rattle.winnow_repeat.specs.Called.Parts.{IsPart, gathers_part, many_ran}
use Rattle.winnow_repeat.specs.Called.{there}

pub first_ran : {S W H T L O : Type 0} (reading : Reading T L) (does : Does S T O)
    (rest : O → Does (S × W × H) T O) (form : ErrorForm) (s t : S × W × H) (i m j : Input T)
    (first : O) (v : S) (a : Answer O) → Ran reading does form s.0 i (Ok first) v m
    → Ran reading (rest first) form (v, s.1, s.2) m a t j
    → Ran reading (Then one_of does (where_took with_one (λ o. and_then with_one (rest o)))) form s
    i a t j
first_ran reading does rest form s t i m j first v a ran others = (
  is_end_of_trans others.0 ran.0,
  others.1 ∙ ran.1,
  others.2 ∙ ran.2,
  (
    took first (v, left_of m),
    ran.3,
    there reading (rest first) form i m (v, s.1, s.2) a t j ran.0 others,
  ),
)

-- ---- to the right

module _ {S W H T L O D : Type 0} (A : Type 0) (reading : Reading T L) (does : Does S T O)
    (between : Does W T D) where
  -- the states of separators and elements, in the state of the whole
  turned : (h : H)
      → IsPart same instead (gathering {O = D × O} (list_kept {A = A})) (turned_of {X = S} {Y = W})
      with_turned (gathering list_kept) (λ (p : W × S). (p.1, p.0, h))
  turned h = gathers_part list_kept (λ p. refl) (λ p s. refl)

  module _ (step : H → O → D → O → O → H → Type 0) (form : ErrorForm) (s : S × W × H)
      (i m j : Input T) (first : O) (v : S) (ran : Ran reading does form s.0 i (Ok first) v m)
      (t : S × W) where
    -- a call for the pairs after the first element
    abbrev Pairs : Answer (Vec (D × O) A) → Type 0
    Pairs a = Ran reading
        (Many same instead (gathering list_kept) (BothDo (λ d o. (d, o)) between does)
        (from_to 0 None)) form (s.1, v) m a (t.1, t.0) j

    in_whole : (a : Answer (Vec (D × O) A)) → Pairs a
        → Ran reading (PairsDo A does between) form (v, s.1, s.2) m a (t.0, t.1, s.2) j
    in_whole a pairs =
        many_ran (turned s.2) reading (BothDo (λ d o. (d, o)) between does) form (s.1, v) m a
        (t.1, t.0) j (from_to 0 None) pairs

    abbrev Folded : O → Does (S × W × H) T O
    Folded o = Then same (PairsDo A does between)
        (where_took instead (λ links. folds_links step o links))

    pub foldr1_ran : (links : Vec (D × O) A) (value : O) (h : H) → Pairs (Ok links)
        → FoldsRight step s.2 first links.items value h
        → Ran reading (SeparatedFoldr1Does A step does between) form s i (Ok value) (t.0, t.1, h) j
    foldr1_ran links value h called folded =
        let pairs = in_whole (Ok links) called in
        first_ran reading does Folded form s (t.0, t.1, h) i m j first v (Ok value) ran (
          pairs.0,
          pairs.1,
          pairs.2,
          (
            took links ((t.0, t.1, s.2), left_of j),
            pairs.3,
            (value, h, folded, refl),
          ),
        )

    pub foldr1_fails : (k : Kind) (a : Answer O) → Pairs (Err k) → a ≡ Err k
        → Ran reading (SeparatedFoldr1Does A step does between) form s i a (t.0, t.1, s.2) j
    foldr1_fails k a called e =
        let pairs = in_whole (Err k) called in
        first_ran reading does Folded form s (t.0, t.1, s.2) i m j first v a ran (
          pairs.0,
          pairs.1,
          pairs.2,
          (
            outcome_of (Err k) ((t.0, t.1, s.2), left_of j),
            pairs.3,
            failed instead (λ links. folds_links step first links) (setting_of form m)
                (v, s.1, s.2) (left_of m) k (left_of j) (t.0, t.1, s.2) (t.0, t.1, s.2) a e refl,
          ),
        )
