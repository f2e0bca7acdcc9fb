-- Elements that are folded to the left and to the right are the same ones.
use Rattle.std.specs.List.{FoldsTo}
use Rattle.std.specs.declared.vec.Vec.{Vec}
use Rattle.std.proofs.Common.{◌≡◌, ℕ, List, [], ◌∷◌}
use Rattle.std.proofs.Common.{refl, sym, ap, ◌∙◌, subst, inl, inr}
use Rattle.stream_sets.specs.Accumulator.{list_kept}
use Rattle.stream_sets.specs.Accumulator.Inversion.{list_of_outputs}
use Rattle.parser_definitions.specs.Closures.{folding_in}
use Rattle.parser_definitions.specs.Does.{Lawful}
use Rattle.parser_definitions.specs.Folding.{Folding, gathering}
use Rattle.parser_definitions.specs.Left.{End, Left, back}
use Rattle.parser_definitions.specs.Loop.{LoopDoes, again, continues, last, last_turn}
use Rattle.parser_definitions.specs.Outcome.{Does, Outcome, Setting, alike_wider, backs}
use Rattle.parser_definitions.specs.Outcome.{took}
use Rattle.parser_definitions.specs.SeparatedFold.{JoinsLinks, PairsDo, SeparatedFoldl1Does}
use Rattle.parser_definitions.specs.SeparatedFold.{SeparatedFoldr1Does, folds_links, joining}
use Rattle.parser_definitions.specs.Then.{Then}
use Rattle.parser_definitions.specs.Then.Steps.{and_then, first, instead, same, second}
use Rattle.parser_definitions.specs.Then.Steps.{then_next, where_took}
use Rattle.parser_definitions.specs.Threes.{one_of, pair_of, three_of, turned_of, with_pair}
use Rattle.parser_definitions.specs.Threes.{with_three}
use Rattle.parser_definitions.specs.Threes.{with_one, with_turned}
use Rattle.winnow_separated.specs.FoldLaws.{Decides, DecidesOutputs, FoldTheSame, IsTurn, Reaches}
use Rattle.winnow_separated.specs.FoldLaws.{here, onward}
use Rattle.winnow_separated.specs.FoldLaws as laws
use Rattle.winnow_separated.specs.SeparatedFoldl1.{FoldsLeft}
use Rattle.winnow_separated.specs.SeparatedFoldr1.{FoldsRight}
use Rattle.parser_definitions.specs.Inversion.Outcomes.{misused_none, same_took}
use Rattle.winnow_separated.proofs.TurnsInversion.{Turns}
use Rattle.winnow_separated.proofs.TurnsInversion.{then_ok, turn_ended, turn_went}
use Rattle.winnow_separated.proofs.FoldTurns.{Ended, ToLeft, ToRight, link_ended, link_went}
use Rattle.winnow_separated.proofs.FoldTurns.{pair_ended, pair_went}

-- lawful definitions determine how their calls end
pub law_decides : {S T O : Type 0} {stable : Type 0} {alike : O → O → Type 0} {does : Does S T O}
    → Lawful stable alike does → (at : Setting) (s : S) → Decides does at s
law_decides law at s t reached w x y a b =
    alike_wider (λ o p is. tt) x y (law.one at t w x y a b)

module _ {S W H T O D : Type 0} (A : Type 0) (step : H → O → D → O → O → H → Type 0)
    (element : Does S T O) (separator : Does W T D) (at : Setting) where
  -- ---- turns of both loops

  abbrev Lefts : Folding (S × W × H) O (D × O)
  Lefts = folding_in three_of with_three (joining step)

  abbrev Rights : Folding (S × W × H) (Vec (D × O) A) (D × O)
  Rights = gathering (list_kept {A = A})

  left_went : (x z : O × ℕ) (q u : S × W × H) (w m : Left T)
      → Turns pair_of with_pair Lefts 0 (ToLeft element separator at) at x at q w
      (took (continues z) (u, m))
      → (link : D × O)
      × IsTurn element separator at ((q.0, q.1), w) link ((u.0, u.1), m)
      × step q.2 x.0 link.0 link.1 z.0 u.2
  left_went x z q u w m turn =
      let (link, v, did, (h, stepped, kept)) =
      turn_went pair_of with_pair Lefts 0 (ToLeft element separator at) at x z q u w m turn in
      let P : S × W × H → Type 0 = λ p.
      IsTurn element separator at ((q.0, q.1), w) link ((p.0, p.1), m)
      × step q.2 x.0 link.0 link.1 z.0 p.2 in
      let (turn, made) = subst P (sym kept)
      (link_went element separator at (q.0, q.1) v w m link did, stepped) in
      (link, turn, made)

  right_went : (x z : Vec (D × O) A × ℕ) (q u : S × W × H) (w m : Left T)
      → Turns turned_of with_turned Rights 0 (ToRight element separator at) at x at q w
      (took (continues z) (u, m))
      → (link : D × O)
      × IsTurn element separator at ((q.0, q.1), w) link ((u.0, u.1), m)
      × list_kept.takes x.0 link z.0 × (u.2 ≡ q.2)
  right_went x z q u w m turn =
      let (link, v, did, (taken, kept)) =
      turn_went turned_of with_turned Rights 0 (ToRight element separator at) at x z q u w m turn in
      let P : S × W × H → Type 0 = λ p.
      IsTurn element separator at ((q.0, q.1), w) link ((p.0, p.1), m)
      × list_kept.takes x.0 link z.0 × (p.2 ≡ q.2) in
      let (turn, more, same) = subst P (sym kept)
      (pair_went element separator at (q.1, q.0) v w m link did, taken, refl) in
      (link, turn, more, same)

  left_ended : (x : O × ℕ) (q t : S × W × H) (w j : Left T) (left : O)
      → Then same (Turns pair_of with_pair Lefts 0 (ToLeft element separator at) at x) last_turn at
      q w
      (took left (t, j))
      → (m : Left T) × Ended element separator at ((q.0, q.1), w) ((t.0, t.1), m) × (left ≡ x.0)
      × (t.2 ≡ q.2)
      × (j ≡ back w m)
  left_ended x q t w j left ran =
      let (v, m, did, value, kept, reset) =
      turn_ended pair_of with_pair Lefts 0 (ToLeft element separator at) at x q t w j left ran in
      let P : S × W × H → Type 0 = λ p.
      Ended element separator at ((q.0, q.1), w) ((p.0, p.1), m) × (p.2 ≡ q.2) in
      let (ended, same) = subst P (sym kept)
      (link_ended element separator at (q.0, q.1) w (v, m) did, refl) in
      (m, ended, value, same, reset)

  right_ended : (x : Vec (D × O) A × ℕ) (q u : S × W × H) (w k : Left T) (all : Vec (D × O) A)
      → Then same (Turns turned_of with_turned Rights 0 (ToRight element separator at) at x)
      last_turn at q w
      (took all (u, k))
      → (m : Left T) × Ended element separator at ((q.0, q.1), w) ((u.0, u.1), m) × (all ≡ x.0)
      × (u.2 ≡ q.2)
      × (k ≡ back w m)
  right_ended x q u w k all ran =
      let (v, m, did, value, kept, reset) =
      turn_ended turned_of with_turned Rights 0
      (ToRight element separator at) at x q u w k all ran in
      let P : S × W × H → Type 0 = λ p.
      Ended element separator at ((q.0, q.1), w) ((p.0, p.1), m) × (p.2 ≡ q.2) in
      let (ended, same) = subst P (sym kept)
      (pair_ended element separator at (q.1, q.0) w (v, m) did, refl) in
      (m, ended, value, same, reset)

  -- ---- two turns from one position

  module _ (start : S) (begin : W) (decides : Decides element at start)
      (decides_between : Decides separator at begin) where
    abbrev At : S × W → Type 0
    At p = Reaches element at start p.0 × Reaches separator at begin p.1

    at_turn : (p q : S × W) (w m : Left T) (link : D × O) → At p
        → IsTurn element separator at (p, w) link (q, m) → At q
    at_turn p q w m link is (a, e, f) = (onward is.0 f, onward is.1 e)

    -- the element after a separator where another separator ended
    moved : {x : Outcome (End S T) O} (p : S × W) (w a b : Left T) (t u : W) (d c : D) → At p
        → separator at p.1 w (took d (t, a)) → separator at p.1 w (took c (u, b))
        → element at p.0 b x → element at p.0 a x × (t ≡ u)
    moved {x} p w a b t u d c is e f g =
        let same = (decides_between p.1 is.1 w (took d (t, a)) (took c (u, b)) e f).1 in
        (subst (λ l. element at p.0 l x) (sym (ap (λ z. z.1) same)) g, ap (λ z. z.0) same)

    same_place : (p q r : S × W) (w m n : Left T) (link other : D × O) → At p
        → IsTurn element separator at (p, w) link (q, m)
        → IsTurn element separator at (p, w) other (r, n)
        → ◌≡◌ {A = End (S × W) T} (q, m) (r, n)
    same_place p q r w m n link other is (a, e, f) (b, g, h) =
        let (i, states) = moved p w a b q.1 r.1 link.0 other.0 is e g h in
        let ends = (decides p.0 is.0 a (took link.1 (q.0, m)) (took other.1 (r.0, n)) f i).1 in
        ap (λ z. ((q.0, z), m)) states ∙ ap (λ z. ((z.0, r.1), z.1)) ends

    same_outputs : (p q r : S × W) (w m n : Left T) (link other : D × O) → At p
        → DecidesOutputs element at start → DecidesOutputs separator at begin
        → IsTurn element separator at (p, w) link (q, m)
        → IsTurn element separator at (p, w) other (r, n) → link ≡ other
    same_outputs p q r w m n link other is decided between (a, e, f) (b, g, h) =
        let (i, states) = moved p w a b q.1 r.1 link.0 other.0 is e g h in
        let ds = between p.1 is.1 w link.0 other.0 (q.1, a) (r.1, b) e g in
        let os = decided p.0 is.0 a link.1 other.1 (q.0, m) (r.0, n) f i in
        ap (λ z. (z, link.1)) ds ∙ ap (λ z. (other.0, z)) os

    no_turn : (p q t : S × W) (w m n : Left T) (link : D × O) → At p
        → IsTurn element separator at (p, w) link (q, m) → Ended element separator at (p, w) (t, n)
        → ⊥
    no_turn p q t w m n link is (a, e, f) (inl (g, kept)) =
        decides_between p.1 is.1 w (took link.0 (q.1, a)) (backs (t.1, n)) e g
    no_turn p q t w m n link is (a, e, f) (inr (d, b, g, h)) =
        let (i, states) = moved p w a b q.1 t.1 link.0 d is e g h in
        decides p.0 is.0 a (took link.1 (q.0, m)) (backs (t.0, n)) f i

    same_end : (p t u : S × W) (w m n : Left T) → At p → Ended element separator at (p, w) (t, m)
        → Ended element separator at (p, w) (u, n)
        → (t.0 ≡ u.0) × (t.1 ≡ u.1) × (m ≡ n)
    same_end p t u w m n is (inl (e, kept)) (inl (f, also)) =
        let ends = decides_between p.1 is.1 w (backs (t.1, m)) (backs (u.1, n)) e f in
        (kept ∙ sym also, ap (λ z. z.0) ends, ap (λ z. z.1) ends)
    same_end p t u w m n is (inl (e, kept)) (inr (d, a, f, g)) =
        absurd (decides_between p.1 is.1 w (backs (t.1, m)) (took d (u.1, a)) e f)
    same_end p t u w m n is (inr (d, a, e, f)) (inl (g, kept)) =
        absurd (decides_between p.1 is.1 w (took d (t.1, a)) (backs (u.1, n)) e g)
    same_end p t u w m n is (inr (d, a, e, f)) (inr (c, b, g, h)) =
        let (i, states) = moved p w a b t.1 u.1 d c is e g h in
        let ends = decides p.0 is.0 a (backs (t.0, m)) (backs (u.0, n)) f i in
        (ap (λ z. z.0) ends, states, ap (λ z. z.1) ends)

    -- Both loops continue, or both end.
    loops_agree : (x : O × ℕ) (y : Vec (D × O) A × ℕ) (q t u : S × W × H) (h : H) (w j k : Left T)
        (left : O) (all : Vec (D × O) A) → At (q.0, q.1)
        → LoopDoes (Turns pair_of with_pair Lefts 0 (ToLeft element separator at) at) at x q w
        (took left (t, j))
        → LoopDoes (Turns turned_of with_turned Rights 0 (ToRight element separator at) at) at y
        (q.0, q.1, h) w
        (took all (u, k))
        → (places : List (End (S × W) T)) × (links : List (D × O)) × (others : List (D × O))
        × laws.Turns element separator at ((q.0, q.1), w) links places
        × FoldsLeft step q.2 x.0 links left t.2
        × laws.Turns element separator at ((q.0, q.1), w) others places
        × FoldsTo list_kept.takes y.0 others all × (u.2 ≡ h)
        × (t.0 ≡ u.0) × (t.1 ≡ u.1) × (j ≡ k)
        × (DecidesOutputs element at start → DecidesOutputs separator at begin → links ≡ others)
    loops_agree x y q t u h w j k left all is (again {d = z} {u = v} {m = m} turn rest)
        (again {d = a} {u = r} {m = n} other after) =
        let (link, went, stepped) = left_went x z q v w m turn in
        let (pair, also, taken, kept) = right_went y a (q.0, q.1, h) r w n other in
        let same = same_place (q.0, q.1) (v.0, v.1) (r.0, r.1) w m n link pair is went also in
        let P : H → End (S × W) T → Type 0 = λ g p.
        LoopDoes (Turns turned_of with_turned Rights 0 (ToRight element separator at) at) at a
        (p.0.0, p.0.1, g) p.1
        (took all (u, k)) in
        let Q : End (S × W) T → Type 0 = λ p.
        IsTurn element separator at ((q.0, q.1), w) pair p in
        let (
          places,
          links,
          others,
          turns,
          folded,
          more,
          chain,
          held,
          first,
          second,
          ends,
          outputs,
        ) =
        loops_agree z a v t u h m j k left all
        (at_turn (q.0, q.1) (v.0, v.1) w m link is went) rest
        (subst (λ p. P h p) (sym same) (subst (λ g. P g ((r.0, r.1), n)) kept after)) in (
          ((v.0, v.1), m) ∷ places,
          link ∷ links,
          pair ∷ others,
          (went, turns),
          (z.0, v.2, stepped, folded),
          (subst Q (sym same) also, more),
          (a.0, taken, chain),
          held,
          first,
          second,
          ends,
          λ decided between.
              ap (λ l. l ∷ links) (same_outputs (q.0, q.1) (v.0, v.1) (r.0, r.1) w m n link pair is
              decided between went also) ∙ ap (λ ls. pair ∷ ls) (outputs decided between),
        )
    loops_agree x y q t u h w j k left all is (again {d = z} {u = v} {m = m} turn rest)
        (last ran) =
        let (link, went, stepped) = left_went x z q v w m turn in
        let (n, ended, all_is, held, reset) = right_ended y (q.0, q.1, h) u w k all ran in
        absurd (no_turn (q.0, q.1) (v.0, v.1) (u.0, u.1) w m n link is went ended)
    loops_agree x y q t u h w j k left all is (last ran)
        (again {d = a} {u = r} {m = n} other after) =
        let (m, ended, value, kept, reset) = left_ended x q t w j left ran in
        let (pair, also, taken, kept_too) = right_went y a (q.0, q.1, h) r w n other in
        absurd (no_turn (q.0, q.1) (r.0, r.1) (t.0, t.1) w n m pair is also ended)
    loops_agree x y q t u h w j k left all is (last ran) (last other) =
        let (m, ended, value, kept, reset) = left_ended x q t w j left ran in
        let (n, also, taken, held, back_too) = right_ended y (q.0, q.1, h) u w k all other in
        let (first, second, ends) =
        same_end (q.0, q.1) (t.0, t.1) (u.0, u.1) w m n is ended also in (
          [],
          [],
          [],
          tt,
          (value, kept),
          tt,
          sym taken,
          held,
          first,
          second,
          reset ∙ ap (λ l. back w l) ends ∙ sym back_too,
          λ decided between. refl,
        )

  -- ---- the first element, and both loops

  left_ok : (s t : S × W × H) (w j : Left T) (left : O)
      → SeparatedFoldl1Does step element separator at s w (took left (t, j))
      → (first : O) × (a : End S T) × element at s.0 w (took first a)
      × LoopDoes (Turns pair_of with_pair Lefts 0 (ToLeft element separator at) at) at (first, 0)
      (a.0, s.1, s.2) a.1
      (took left (t, j))
  left_ok s t w j left ran = then_ok one_of with_one element
      (λ o. and_then with_one (JoinsLinks step element separator o)) at s w left (t, j) ran

  pairs_ok : (q t : S × W × H) (w k : Left T) (all : Vec (D × O) A)
      → PairsDo A element separator at q w (took all (t, k))
      → (empty : Vec (D × O) A) × (empty.items ≡ [])
      × LoopDoes (Turns turned_of with_turned Rights 0 (ToRight element separator at) at) at
      (empty, 0) q w
      (took all (t, k))
  pairs_ok q t w k all (inl (empty, e)) = misused_none at.form (q, w) (t, k) all e
  pairs_ok q t w k all (inr (within, inl (empty, u, (none, kept), rest))) =
      let P : S × W × H → Type 0 = λ p.
      LoopDoes (Turns turned_of with_turned Rights 0 (ToRight element separator at) at) at
      (empty, 0) p w
      (took all (t, k)) in
      (empty, none, subst P kept rest)
  pairs_ok q t w k all (inr (within, inr (more, e))) = absurd (cc)

  right_ok : (s u : S × W × H) (w k : Left T) (right : O)
      → SeparatedFoldr1Does A step element separator at s w (took right (u, k))
      → (one : O) × (a : End S T) × (all : Vec (D × O) A) × (z : S × W × H)
      × element at s.0 w (took one a)
      × PairsDo A element separator at (a.0, s.1, s.2) a.1 (took all (z, k))
      × FoldsRight step z.2 one all.items right u.2 × (u.0 ≡ z.0) × (u.1 ≡ z.1)
  right_ok s u w k right ran =
      let (one, a, d, rest) = then_ok one_of with_one element (λ o. then_next with_one same
      (PairsDo A element separator) (where_took instead (λ links. folds_links step o links))) at s
      w right (u, k) ran in
      let (all, z, pairs, (value, h, folded, e)) = then_ok same instead
      (PairsDo A element separator) (λ links. folds_links step one links) at (a.0, s.1, s.2) a.1
      right (u, k) rest in
      let (output, end) = same_took e in
      let P : Left T → Type 0 = λ l.
      PairsDo A element separator at (a.0, s.1, s.2) a.1 (took all (z.0, l)) in
      let F : O → H → Type 0 = λ o g. FoldsRight step z.0.2 one all.items o g in (
        one,
        a,
        all,
        z.0,
        d,
        subst P (sym (ap (λ p. p.1) end)) pairs,
        subst (λ o. F o u.2) (sym output) (subst (F value) (sym (ap (λ p. p.0.2) end)) folded),
        ap (λ p. p.0.0) end,
        ap (λ p. p.0.1) end,
      )

pub fold_the_same : {S W H T O D : Type 0} (A : Type 0) (step : H → O → D → O → O → H → Type 0)
    (element : Does S T O) (separator : Does W T D)
    → FoldTheSame step element separator (SeparatedFoldl1Does step element separator)
    (SeparatedFoldr1Does A step element separator)
fold_the_same {S} {W} {H} {T} {O} {D} A step element separator at s decides between w left right t
    u j k to_left to_right =
    let (first, a, d, joins) = left_ok A step element separator at s t w j left to_left in
    let (one, b, all, z, e, pairs, folded, zero, two) =
    right_ok A step element separator at s u w k right to_right in
    let same : a ≡ b = (decides s.0 here w (took first a) (took one b) d e).1 in
    let P : End S T → Type 0 = λ c.
    PairsDo A element separator at (c.0, s.1, s.2) c.1 (took all (z, k)) in
    let (empty, none, rest) = pairs_ok A step element separator at (a.0, s.1, s.2) z a.1 k all
    (subst P (sym same) pairs) in
    let (
      places,
      links,
      others,
      turns,
      joined,
      also,
      chain,
      kept,
      first_same,
      second_same,
      ends,
      outputs,
    ) = loops_agree A step element separator at s.0 s.1 decides between (first, 0)
    (empty, 0) (a.0, s.1, s.2) t z s.2 a.1 j k left all (onward here d, here) joins rest in
    let F : List (D × O) → H → Type 0 = λ ls g. FoldsRight step g one ls right u.2 in (
      a,
      places,
      first,
      links,
      one,
      others,
      d,
      turns,
      joined,
      subst (λ c. element at s.0 w (took one c)) (sym same) e,
      also,
      subst (λ ls. F ls s.2) (list_of_outputs others empty all none chain)
          (subst (F all.items) kept folded),
      first_same ∙ sym zero,
      second_same ∙ sym two,
      ends,
      λ decided made. (decided s.0 here w first one a b d e, outputs decided made),
    )
