-- The branches of a slice, one by one.
use Rattle.std.proofs.Common.{◌≡◌, ℕ, ◌+◌, ◌<◌, List, [], ◌∷◌, ◌++◌, length, get_or, refl, sym, ap}
use Rattle.std.proofs.Common.{◌∙◌, subst, append_assoc, arith, Ok, Err, length-append}
use Rattle.std.specs.Prelude.{slice_set, map}
use mathlib.Core.List.{map-append}
use Rattle.std.proofs.lemmas.List.{length_push}
use Rattle.streams.specs.Input.{Input, Remaining, back_at, is_end_of_refl}
use Rattle.streams.specs.Kind.{backtrack, cut, incomplete, memory}
use Rattle.streams.specs.Reading.{Reading}
use Rattle.stream_errors.specs.Form.{Answer, ErrorForm, assert_kind}
use Rattle.parser_definitions.specs.AltMany.{ChoiceDoes, or_rest}
use Rattle.parser_definitions.specs.Does.{Ran}
use Rattle.parser_definitions.specs.Left.{End, Left, left_of}
use Rattle.parser_definitions.specs.Moved.{in_state}
use Rattle.parser_definitions.specs.Outcome.{Does, Outcome, Setting, backs, outcome_of}
use Rattle.parser_definitions.specs.Outcome.{setting_of}
use Rattle.parser_definitions.specs.Then.{ComesOf}
use Rattle.winnow_core.specs.Results.{gave}
use Rattle.winnow_core.specs.Settings.{kept_ran}
use Rattle.winnow_core.specs.Leaves.{misuse}
use Rattle.winnow_core.specs.Elements.{length-zero, rest_of, set_at}
use Rattle.winnow_comb.proofs.AltLemmas.{again}

-- ---- one call

in_place : {S Q T O : Type 0} (put : S → Q) (a : Answer O) (y : S) (l : Left T)
    → outcome_of {L = End Q T} a (put y, l) ≡ in_state put (outcome_of a (y, l))
in_place put (Ok o) y l = refl
in_place put (Err backtrack) y l = refl
in_place put (Err cut) y l = refl
in_place put (Err (incomplete need)) y l = refl
in_place put (Err memory) y l = refl

ends_here : {S T O : Type 0} (at : Setting) (others : List S)
    (rest : Setting → Left T → Outcome (End (List S) T) O → Type 0) (q : List S) (w : Left T)
    (a : Answer O) (y : S) (l : Left T) → (a ≡ Err backtrack → ⊥)
    → ComesOf (or_rest others rest) at q w (outcome_of a (y, l)) (outcome_of a (y ∷ others, l))
ends_here at others rest q w (Ok o) y l not = refl
ends_here at others rest q w (Err backtrack) y l not = absurd (not refl)
ends_here at others rest q w (Err cut) y l not = refl
ends_here at others rest q w (Err (incomplete need)) y l not = refl
ends_here at others rest q w (Err memory) y l not = refl

module _ {P S T L O : Type 0} (reading : Reading T L) (does : Does S T O) (form : ErrorForm)
    (state : P → S) where
  -- A choice among some branches.
  abbrev pub Chose : List P → Input T → Answer O → List S → Input T → Type 0
  Chose ps i answer ts j = Ran reading (ChoiceDoes does) form (map state ps) i answer ts j

  pub chose_none : (ps : List P) (i : Input T) (answer : Answer O) → ps ≡ []
      → answer ≡ Err (assert_kind form) → Chose ps i answer (map state ps) i
  chose_none [] i answer none e =
      kept_ran reading (ChoiceDoes does) form [] i answer [] i (is_end_of_refl reading i) refl
      (gave ([], left_of i) e ∙ misuse form i ([], left_of i))
  chose_none (p ∷ ps) i answer none e = absurd (cc)

  -- a branch that does not backtrack, or is the last
  chose_here : (x y : P) (others : List P) (i : Input T) (answer : Answer O) (j : Input T)
      → Ran reading does form (state x) i answer (state y) j
      → (answer ≡ Err backtrack → others ≡ [])
      → Chose (x ∷ others) i answer (map state (y ∷ others)) j
  chose_here x y [] i answer j (ends, partial, possible, did) last =
      (ends, partial, possible, (_, did, in_place (λ t. t ∷ []) answer (state y) (left_of j)))
  chose_here x y (r ∷ others) i answer j (ends, partial, possible, did) last = (
    ends,
    partial,
    possible,
    (
      _,
      did,
      ends_here (setting_of form i) (map state (r ∷ others))
          (λ at v z. ChoiceDoes does at (map state (r ∷ others)) v z)
          (map state (x ∷ r ∷ others)) (left_of i) answer (state y) (left_of j)
          (λ e. absurd (some (last e))),
    ),
  )
    where
      some : r ∷ others ≡ [] → ⊥
      some e = absurd (cc)

  -- it backtracks, and the others answer from the start
  chose_next : (x y : P) (others : List P) (i a m : Input T) (answer : Answer O) (ts : List S)
      (j : Input T) → (others ≡ [] → ⊥)
      → Ran reading does form (state x) i (Err backtrack) (state y) a → m ≡ back_at i.left a
      → Chose others m answer ts j → Chose (x ∷ others) i answer (state y ∷ ts) j
  chose_next x y [] i a m answer ts j some ran there after = absurd (some refl)
  chose_next x y (r ∷ others) i a m answer ts j some ran there after =
      let (ends, partial, possible, did) = again does (ChoiceDoes does) (state x) (state y) i a m j
      (map state (r ∷ others)) ts answer ran there after in (
        ends,
        partial,
        possible,
        (
          backs (state y, left_of a),
          ran.3,
          (_, did, in_place (λ ss. state y ∷ ss) answer ts (left_of j)),
        ),
      )

  -- ---- the loop

  -- The first k branches backtracked, and the others are as they were: what a choice among these
  -- does from here is what the whole does.
  pub record Earlier (orig now : List P) (i m : Input T) (k : ℕ) : Type 0 where
    pub ran : List P
    pub rest : List P
    pub count : length ran ≡ k
    pub new : now ≡ ran ++ rest
    pub answers : (answer : Answer O) (ts : List S) (j : Input T) → Chose rest m answer ts j
        → Chose orig i answer (map state ran ++ ts) j

  pub earlier_none : (ps : List P) (i : Input T) → Earlier ps ps i i 0
  earlier_none ps i = record {
    ran = [];
    rest = ps;
    count = refl;
    new = refl;
    answers = λ answer ts j chose. chose;
  }

  module _ (orig now : List P) (i m : Input T) (k : ℕ) (item d new : P)
      (p : Earlier orig now i m k) (within : k < length now) (is : item ≡ get_or now k d) where
    tail : (tail : List P) × (p.rest ≡ item ∷ tail)
    tail = rest_of p.ran p.rest now k item d p.count p.new within is

    now_split : now ≡ p.ran ++ item ∷ tail.0
    now_split = p.new ∙ ap (λ z. p.ran ++ z) tail.1

    new_split : slice_set now k new ≡ p.ran ++ new ∷ tail.0
    new_split = set_at p.ran tail.0 now k item new p.count now_split

    whole : (answer : Answer O) (ts : List S) (j : Input T) → Chose (item ∷ tail.0) m answer ts j
        → Chose orig i answer (map state p.ran ++ ts) j
    whole answer ts j chose =
        p.answers answer ts j (subst (λ l. Chose l m answer ts j) (sym tail.1) chose)

    pub earlier_more : (start : Remaining T) (a j : Input T) → k + 1 < length now
        → start ≡ m.left → Ran reading does form (state item) m (Err backtrack) (state new) a
        → j ≡ back_at start a → Earlier orig (slice_set now k new) i j (k + 1)
    earlier_more start a j more from ran there = record {
      ran = p.ran ++ new ∷ [];
      rest = tail.0;
      count = length_push p.ran new ∙ ap (λ n. n + 1) p.count;
      new = new_split ∙ sym (append_assoc p.ran (new ∷ []) tail.0);
      answers = λ answer ts l chose. subst (λ us. Chose orig i answer us l)
          (sym (ap (λ us. us ++ ts) (map-append state p.ran (new ∷ []))
          ∙ append_assoc (map state p.ran) (state new ∷ []) ts))
          (whole answer (state new ∷ ts) l
          (chose_next item new tail.0 m a j answer ts l some ran
          (there ∙ ap (λ x. back_at x a) from) chose));
    }
      where
        some : tail.0 ≡ [] → ⊥
        some e = absurd (omega (
          arith,
          more,
          ap (λ l. length l) e,
          ap (λ l. length l) now_split,
          length-append p.ran (item ∷ tail.0),
          p.count,
        ))

    pub answered : (answer : Answer O) (j : Input T)
        → Ran reading does form (state item) m answer (state new) j
        → (answer ≡ Err backtrack → k + 1 ≡ length now)
        → Chose orig i answer (map state (slice_set now k new)) j
    answered answer j ran last = subst (λ us. Chose orig i answer us j)
        (sym (ap (λ l. map state l) new_split ∙ map-append state p.ran (new ∷ tail.0)))
        (whole answer (map state (new ∷ tail.0)) j (chose_here item new tail.0 m answer j ran
        (λ e. length-zero tail.0
        (omega (
          arith,
          last e,
          ap (λ l. length l) now_split,
          length-append p.ran (item ∷ tail.0),
          p.count,
        )))))
