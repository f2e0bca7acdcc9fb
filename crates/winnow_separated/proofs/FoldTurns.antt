-- Turns of the two folds of elements with separators, by the calls of elements and separators.
use Rattle.std.proofs.Common.{◌≡◌, ◌⊎◌, Option, Some, None}
use Rattle.std.proofs.Common.{refl, sym, subst, inl, inr}
use Rattle.parser_definitions.specs.Both.{BothDo}
use Rattle.parser_definitions.specs.Consumes.{Item, by_consuming}
use Rattle.parser_definitions.specs.Left.{End, Left}
use Rattle.parser_definitions.specs.Link.{Link, after_separator}
use Rattle.parser_definitions.specs.Outcome.{Does, Setting, backs}
use Rattle.parser_definitions.specs.Outcome.{took}
use Rattle.parser_definitions.specs.Then.{Comes}
use Rattle.parser_definitions.specs.Then.Steps.{first, instead, same, second, takes}
use Rattle.parser_definitions.specs.Then.Steps.{then_next, where_took, with_first, with_second}
use Rattle.winnow_separated.specs.FoldLaws.{IsTurn}
use Rattle.parser_definitions.specs.Inversion.Outcomes.{same_took}
use Rattle.winnow_separated.proofs.TurnsInversion.{then_backs}
use Rattle.winnow_separated.proofs.TurnsInversion.{then_ok}

module _ {S W T O D : Type 0} (element : Does S T O) (separator : Does W T D) (at : Setting) where
  -- a turn that ended both folds: its separator backtracked, or its element did
  abbrev pub Ended : End (S × W) T → End (S × W) T → Type 0
  Ended p q = (separator at p.0.1 p.1 (backs (q.0.1, q.1)) × (q.0.0 ≡ p.0.0))
      ⊎ ((d : D) × (a : Left T) × separator at p.0.1 p.1 (took d (q.0.1, a))
      × element at p.0.0 a (backs (q.0.0, q.1)))

  -- ---- turns of the fold to the left

  abbrev pub ToLeft : Does (S × W) T (Option (D × O))
  ToLeft = Link (λ d o. (d, o)) element separator

  pub link_went : (p q : S × W) (w m : Left T) (link : D × O) → ToLeft at p w
      (took (Some link) (q, m))
      → IsTurn element separator at (p, w) link (q, m)
  link_went p q w m link ran =
      let (d, a, e, rest) = then_ok second with_second separator
      (λ d. after_separator (λ d o. (d, o)) element d) at p w (Some link) (q, m) ran in
      by d a e rest
    where
      by : (d : D) (a : End W T) → separator at p.1 w (took d a)
          → after_separator (λ d o. (d, o)) element d at p w a (took (Some link) (q, m))
          → IsTurn element separator at (p, w) link (q, m)
      by d a e (inr (none, is)) = absurd (cc)
      by d a e (inl (less, rest)) =
          let (o, b, f, is) = then_ok first with_first element
          (λ o. takes with_first (Some (d, o))) at (p.0, a.0) a.1 (Some link) (q, m) rest in
          let (output, end) = same_took is in
          let same : link ≡ (d, o) = cc in
          let P : D × O → End (S × W) T → Type 0 =
          λ l r. IsTurn element separator at (p, w) l r in
          subst (λ l. P l (q, m)) (sym same) (subst (λ r. P (d, o) r) (sym end) (a.1, e, f))

  pub link_ended : (p : S × W) (w : Left T) (q : End (S × W) T) → ToLeft at p w (backs q)
      → Ended (p, w) q
  link_ended p w q ran = by (then_backs second with_second separator
      (λ d. after_separator (λ d o. (d, o)) element d) at p w q ran)
    where
      ends : (d : D) (a : End W T) → separator at p.1 w (took d a)
          → ((b : End S T) × element at p.0 a.1 (backs b) × (q ≡ ((b.0, a.0), b.1)))
          ⊎ ((o : O) × (b : End S T) × element at p.0 a.1 (took o b)
          × takes {U = Option (D × O)} with_first (Some (d, o)) at (p.0, a.0) a.1 b (backs q))
          → Ended (p, w) q
      ends d a e (inl (b, f, end)) =
          subst (λ r. Ended (p, w) r) (sym end) (inr (d, a.1, e, f))
      ends d a e (inr (o, b, f, is)) = absurd (cc)

      by : ((a : End W T) × separator at p.1 w (backs a) × (q ≡ ((p.0, a.0), a.1)))
          ⊎ ((d : D) × (a : End W T) × separator at p.1 w (took d a)
          × after_separator {X = D × O} (λ d o. (d, o)) element d at p w a (backs q))
          → Ended (p, w) q
      by (inl (a, e, end)) = subst (λ r. Ended (p, w) r) (sym end) (inl (e, refl))
      by (inr (d, a, e, inr (none, is))) = absurd (cc)
      by (inr (d, a, e, inl (less, rest))) = ends d a e (then_backs first with_first element
          (λ o. takes with_first (Some (d, o))) at (p.0, a.0) a.1 q rest)

  -- ---- turns of the fold to the right

  abbrev Pair : Does (W × S) T (D × O)
  Pair = BothDo (λ d o. (d, o)) separator element

  abbrev pub ToRight : Does (W × S) T (Option (D × O))
  ToRight = Item Pair

  abbrev after_first : D → Comes W (W × S) T (D × O)
  after_first d = then_next with_first second element
      (where_took with_second (λ o. takes with_second (d, o)))

  pub pair_went : (p q : W × S) (w m : Left T) (link : D × O)
      → ToRight at p w (took (Some link) (q, m))
      → IsTurn element separator at ((p.1, p.0), w) link ((q.1, q.0), m)
  pair_went p q w m link ran =
      let (pair, c, both, so) = then_ok same instead Pair
      (λ o. by_consuming (takes instead (Some o)) (takes instead None)) at p w (Some link)
      (q, m) ran in
      let (d, a, e, rest) = then_ok first with_first separator after_first at p w pair c both in
      let (o, b, f, is) = then_ok second with_second element (λ o. takes with_second (d, o)) at
      (a.0, p.1) a.1 pair c rest in
      let (output, end) = same_took is in
      by so (subst (λ l. P l c) (sym output) (subst (λ r. P (d, o) r) (sym end) (a.1, e, f)))
    where
      P : D × O → End (W × S) T → Type 0
      P l r = IsTurn element separator at ((p.1, p.0), w) l ((r.0.1, r.0.0), r.1)

      by : {pair : D × O} {c : End (W × S) T}
          → by_consuming (takes instead (Some pair)) (takes instead None) at p w c
          (took (Some link) (q, m))
          → P pair c → P link (q, m)
      by (inr (none, is)) turn = absurd (cc)
      by {pair} {c} (inl (less, is)) turn =
          let (output, end) = same_took is in
          let one : link ≡ pair = cc in
          subst (λ l. P l (q, m)) (sym one) (subst (λ r. P pair r) (sym end) turn)

  pub pair_ended : (p : W × S) (w : Left T) (q : End (W × S) T) → ToRight at p w (backs q)
      → Ended ((p.1, p.0), w) ((q.0.1, q.0.0), q.1)
  pair_ended p w q ran = by (then_backs same instead Pair
      (λ o. by_consuming (takes instead (Some o)) (takes instead None)) at p w q ran)
    where
      E : End (W × S) T → Type 0
      E r = Ended ((p.1, p.0), w) ((r.0.1, r.0.0), r.1)

      ends : (c : End (W × S) T) (d : D) (a : End W T) → separator at p.0 w (took d a)
          → ((b : End S T) × element at p.1 a.1 (backs b) × (c ≡ ((a.0, b.0), b.1)))
          ⊎ ((o : O) × (b : End S T) × element at p.1 a.1 (took o b)
          × takes {U = D × O} with_second (d, o) at (a.0, p.1) a.1 b (backs c))
          → E c
      ends c d a e (inl (b, f, end)) = subst E (sym end) (inr (d, a.1, e, f))
      ends c d a e (inr (o, b, f, is)) = absurd (cc)

      pair : (c : End (W × S) T)
          → ((a : End W T) × separator at p.0 w (backs a) × (c ≡ ((a.0, p.1), a.1)))
          ⊎ ((d : D) × (a : End W T) × separator at p.0 w (took d a)
          × after_first d at p w a (backs c))
          → E c
      pair c (inl (a, e, end)) = subst E (sym end) (inl (e, refl))
      pair c (inr (d, a, e, rest)) = ends c d a e (then_backs second with_second element
          (λ o. takes with_second (d, o)) at (a.0, p.1) a.1 c rest)

      by : ((a : End (W × S) T) × Pair at p w (backs a) × (q ≡ a))
          ⊎ ((o : D × O) × (a : End (W × S) T) × Pair at p w (took o a)
          × by_consuming (takes instead (Some o)) (takes instead None) at p w a (backs q))
          → E q
      by (inl (a, both, end)) = subst E (sym end) (pair a (then_backs first with_first separator
          after_first at p w a both))
      by (inr (o, a, both, inl (less, is))) = absurd (cc)
      by (inr (o, a, both, inr (none, is))) = absurd (cc)
