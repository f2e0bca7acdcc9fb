-- The definitions of `separated_foldl1` and `separated_foldr1`.
use Rattle.std.specs.Prelude.{◌≡◌, ⊤, List, [], ◌∷◌, ◌++◌, None}
use Rattle.std.specs.declared.vec.Vec.{Vec}
use Rattle.std.proofs.Common.{sym, subst, ap, ◌∙◌}
use Rattle.stream_sets.specs.Accumulator.{list_kept}
use Rattle.stream_sets.specs.Range.{from_to}
use Rattle.parser_definitions.specs.Both.{BothDo, pair_law}
use Rattle.parser_definitions.specs.Closures.{built_from_in, folding_in, folds_from_in}
use Rattle.parser_definitions.specs.Does.{Lawful, wider_law}
use Rattle.parser_definitions.specs.Equal.{AlikePairs}
use Rattle.parser_definitions.specs.Folding.{Built, BuiltFrom, FoldsFrom, Folding, added, begun}
use Rattle.parser_definitions.specs.Folding.{gathering, gathers_one}
use Rattle.parser_definitions.specs.Items.{Items, items_law}
use Rattle.parser_definitions.specs.Link.{Link, link_law}
use Rattle.parser_definitions.specs.Loop.{family_holds, family_meets}
use Rattle.parser_definitions.specs.Outcome.{Does, as_longer, both, took}
use Rattle.parser_definitions.specs.Repeat.{Many, many_law}
use Rattle.parser_definitions.specs.Then.{Comes, Then, then_law}
use Rattle.parser_definitions.specs.Then.Steps.{and_then, holds_where, instead, meets_where, same}
use Rattle.parser_definitions.specs.Then.Steps.{then_holds, then_meets, then_next, where_took}
use Rattle.parser_definitions.specs.Threes.{one_of, pair_of, three_of, turned_of, with_one}
use Rattle.parser_definitions.specs.Threes.{with_pair, with_three, with_turned}

-- ---- to the left

-- A closure joins a value, a separator and the element after it.
abbrev pub joining : {H O D : Type 0} → (H → O → D → O → O → H → Type 0) → Folding H O (D × O)
joining step = record {
  starts = λ h n v k. ⊥;
  takes = λ h v link more k. step h v link.0 link.1 more k;
  rejects = λ h v link k. ⊥;
  start_grows = λ h n. ⊥;
  grows = λ h v link. ⊥;
}

-- links after the first element, any number of them
abbrev pub JoinsLinks : {S W H T O D : Type 0} → (H → O → D → O → O → H → Type 0) → Does S T O
    → Does W T D → O → Does (S × W × H) T O
JoinsLinks step element separator =
    Items pair_of with_pair
    (folding_in three_of with_three (joining step)) (from_to 0 None)
    (Link (λ d o. (d, o)) element separator)

-- The first element, to which each link is joined when it is parsed.
abbrev pub SeparatedFoldl1Does : {S W H T O D : Type 0} → (H → O → D → O → O → H → Type 0)
    → Does S T O → Does W T D → Does (S × W × H) T O
SeparatedFoldl1Does step element separator = Then one_of element
    (where_took with_one (λ o. and_then with_one (JoinsLinks step element separator o)))

-- Equal elements, or values that a closure in one state joined from equal ones.
abbrev pub AlikeLeft : {H O D : Type 0} → (H → O → D → O → O → H → Type 0) → (O → O → Type 0)
    → (D → D → Type 0) → O → O → Type 0
AlikeLeft step alike marks = BuiltFrom (joining step) alike (AlikePairs marks alike)

-- A closure in one state has one next state, for equal separators and operands.
abbrev pub JoinsAlike : {H O D : Type 0} → (D → D → Type 0) → (O → O → Type 0) → (O → O → Type 0)
    → (H → O → D → O → O → H → Type 0) → Type 0
JoinsAlike {H} {O} {D} marks lefts rights step =
    (h : H) (b c : O) (d e : D) (o p : O) (u v : O) (k l : H) → lefts b c → marks d e
    → rights o p → step h b d o u k → step h c e p v l → k ≡ l

pub separated_foldl1_law : {S W H T O D : Type 0} {sure also : Type 0} {alike : O → O → Type 0}
    {marks : D → D → Type 0} {element : Does S T O} {separator : Does W T D}
    (step : H → O → D → O → O → H → Type 0)
    → JoinsAlike marks (AlikeLeft step alike marks) alike step → Lawful sure alike element
    → Lawful also marks separator
    → Lawful (sure × also) (AlikeLeft step alike marks) (SeparatedFoldl1Does step element separator)
separated_foldl1_law {S} {W} {H} {T} {O} {D} {alike = alike} {marks} {element} {separator} step one
    law mark =
    let joins : FoldsFrom (joining step) alike (AlikePairs marks alike) = record {
      next = λ h b c o p d e u v is like x y.
          one h b c o.0 p.0 o.1 p.1 d e u v is like.0 like.1 x y;
      apart = λ h b c o p d u v is like x none. none;
      other = λ h b c o p e u v is like none y. none;
      rejected = λ h b c o p u v is like none y. absurd none;
    } in
    let links = items_law (pair_of {X = S} {Y = W} {Z = H}) with_pair
    (folds_from_in three_of with_three (joining step) {begins = alike} (λ c d is. is) joins)
    (link_law (λ d o. (d, o)) (λ d e o p m like. (m, like)) law mark) (from_to 0 None) in
    wider_law (built_from_in three_of with_three (joining step) (λ c d is. is))
    (then_law law
    (meets_where with_one (λ o p like. family_meets with_one links o p (begun like)))
    (holds_where with_one (λ o. family_holds with_one links o)) (λ is. is.0))

-- ---- to the right

-- The value of a first element and the links after it: the closure joins the element, the first
-- separator and the value of the elements after it. It is called for the last separator first.
abbrev pub FoldsRight : {H O D : Type 0} → (H → O → D → O → O → H → Type 0) → H → O → List (D × O)
    → O → H → Type 0
FoldsRight step h o [] v k = (v ≡ o) × (k ≡ h)
FoldsRight {H} {O} step h o (link ∷ links) v k =
    (right : O) × (c : H) × FoldsRight step h link.1 links right c × step c o link.0 right v k

-- all links are folded
abbrev pub folds_links : {S W H T O D A : Type 0} → (H → O → D → O → O → H → Type 0) → O
    → Vec (D × O) A → Comes (S × W × H) (S × W × H) T O
folds_links {H = H} {O = O} step o links at q w end y =
    (v : O) × (k : H) × FoldsRight step (three_of end.0) o links.items v k
    × (y ≡ took v (with_three end.0 k, end.1))

-- pairs of a separator and an element, any number of them, in a list with an allocator of type A
abbrev pub PairsDo : {S W H T O D : Type 0} (A : Type 0) → Does S T O → Does W T D
    → Does (S × W × H) T (Vec (D × O) A)
PairsDo A element separator =
    Many turned_of with_turned (gathering (list_kept {A = A}))
    (BothDo (λ d o. (d, o)) separator element) (from_to 0 None)

-- The first element, and pairs, which are folded when all are parsed.
abbrev pub SeparatedFoldr1Does : {S W H T O D : Type 0} (A : Type 0)
    → (H → O → D → O → O → H → Type 0) → Does S T O → Does W T D → Does (S × W × H) T O
SeparatedFoldr1Does A step element separator = Then one_of element (where_took with_one (λ o.
    then_next with_one same (PairsDo A element separator)
    (where_took instead (λ links. folds_links step o links))))

-- Equal elements, or values that a closure in one state joined from equal ones.
pub data AlikeRight {H O D : Type 0} (step : H → O → D → O → O → H → Type 0)
    (alike : O → O → Type 0) (marks : D → D → Type 0) : O → O → Type 0 where
  element : {o p : O} → alike o p → AlikeRight step alike marks o p
  joined : {b c u v : O} (h k l : H) (o p : O) (d e : D) → alike o p → marks d e
      → AlikeRight step alike marks b c → step h o d b u k → step h p e c v l
      → AlikeRight step alike marks u v

-- lists of equal elements
abbrev pub AlikeLists : {O : Type 0} → (O → O → Type 0) → List O → List O → Type 0
AlikeLists alike [] [] = ⊤
AlikeLists alike [] (p ∷ ps) = ⊥
AlikeLists alike (o ∷ os) [] = ⊥
AlikeLists alike (o ∷ os) (p ∷ ps) = alike o p × AlikeLists alike os ps

pub alike_append : {O : Type 0} (alike : O → O → Type 0) (os ps : List O) (o p : O)
    → AlikeLists alike os ps → alike o p → AlikeLists alike (os ++ o ∷ []) (ps ++ p ∷ [])
alike_append alike [] [] o p likes like = (like, tt)
alike_append alike [] (r ∷ ps) o p likes like = absurd likes
alike_append alike (r ∷ os) [] o p likes like = absurd likes
alike_append alike (r ∷ os) (t ∷ ps) o p likes like =
    (likes.0, alike_append alike os ps o p likes.1 like)

-- lists that gathered equal outputs have equal elements
pub alike_items : {Q O A : Type 0} (alike : O → O → Type 0) (c d : Vec O A)
    → Built (gathering {Q = Q} (list_kept {A = A})) alike c d → AlikeLists alike c.items d.items
alike_items alike c d (begun (q, u, v, n, (none, e), (nor, f))) =
    subst (λ l. AlikeLists alike l d.items) (sym none)
    (subst (λ l. AlikeLists alike [] l) (sym nor) tt)
alike_items alike c d (added {b = b} {c = a} o p q u v is like (x, e) (y, f)) =
    subst (λ l. AlikeLists alike l d.items) (sym x)
    (subst (λ l. AlikeLists alike (b.items ++ o ∷ []) l) (sym y)
    (alike_append alike b.items a.items o p (alike_items alike b a is) like))

module _ {H O D : Type 0} {alike : O → O → Type 0} {marks : D → D → Type 0}
    (step : H → O → D → O → O → H → Type 0)
    (one : JoinsAlike marks alike (AlikeRight step alike marks) step) where
  pub folds_alike : (h : H) (o p : O) (ls ms : List (D × O)) (u v : O) (k l : H) → alike o p
      → AlikeLists (AlikePairs marks alike) ls ms → FoldsRight step h o ls u k
      → FoldsRight step h p ms v l → AlikeRight step alike marks u v × (k ≡ l)
  folds_alike h o p [] [] u v k l like likes (e, f) (g, i) =
      (element (subst (λ z. alike z v) (sym e) (subst (λ z. alike o z) (sym g) like)), f ∙ sym i)
  folds_alike h o p [] (m ∷ ms) u v k l like likes a b = absurd likes
  folds_alike h o p (m ∷ ls) [] u v k l like likes a b = absurd likes
  folds_alike h o p (m ∷ ls) (n ∷ ms) u v k l like (links, likes) (r, c, a, x) (t, d, b, y) =
      let (right, state) = folds_alike h m.1 n.1 ls ms r t c d links.1 likes a b in
      let also : step c p n.0 t v l = subst (λ z. step z p n.0 t v l) (sym state) y in (
        joined c k l o p m.0 n.0 like links.0 right x also,
        one c o p m.0 n.0 r t u v k l like links.0 right x also,
      )

pub separated_foldr1_law : {S W H T O D : Type 0} (A : Type 0) {sure also : Type 0}
    {alike : O → O → Type 0} {marks : D → D → Type 0} {element : Does S T O}
    {separator : Does W T D} (step : H → O → D → O → O → H → Type 0)
    → JoinsAlike marks alike (AlikeRight step alike marks) step → Lawful sure alike element
    → Lawful also marks separator
    → Lawful (sure × also) (AlikeRight step alike marks)
    (SeparatedFoldr1Does A step element separator)
separated_foldr1_law {S} {W} {H} {T} {O} {D} A {sure} {also} {alike} {marks} {element} {separator}
    step one law mark =
    let pairs : Lawful (also × sure)
    (Built (gathering {Q = S × W × H} (list_kept {A = A})) (AlikePairs marks alike))
    (PairsDo A element separator) =
    many_law (turned_of {X = S} {Y = W} {Z = H}) with_turned
    (gathers_one list_kept (AlikePairs marks alike)) (pair_law mark law) (from_to 0 None) in
    then_law law
    (meets_where with_one (λ o p like. then_meets with_one same pairs
    (meets_where instead {came = λ links. folds_links step o links}
    {also = λ links. folds_links step p links} (λ c d is. record {
      one = λ at q w end y z (u, k, a, e) (v, l, b, f).
          let (values, state) = folds_alike step one (three_of end.0) o p c.items d.items u v k l
          like (alike_items (AlikePairs marks alike) c d is) a b in
          both (AlikeRight step alike marks) e f
          (values, ap (λ h. (with_three end.0 h, end.1)) state);
    }))))
    (holds_where with_one (λ o. then_holds with_one same (λ is. (is.1, is.0)) pairs
    (holds_where instead {came = λ links. folds_links step o links} (λ c. record {
      whole = λ at q w end need place is (u, k, a, e). absurd (cc);
      stays = λ is more flag q w end y final (u, k, a, e). (u, k, a, as_longer more e);
    })))) (λ is. is.0)
