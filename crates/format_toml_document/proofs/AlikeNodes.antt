-- Lemmas about a statement of two names with the same bytes, for equivalent trees.
use Rattle.std.specs.Prelude.{◌≡◌, ◌⊎◌, ℕ, zero, suc, ◌+◌, Bool, true, false, cond, List, [], ◌∷◌}
use Rattle.std.specs.Prelude.{Result, Ok, Err, string_bytes}
use Rattle.std.specs.declared.string.String.{String}
use Rattle.std.proofs.Common.{refl, sym, ap, subst, subst₂, inl, inr, ◌∙◌, arith}
use Rattle.std.proofs.lemmas.Bool.{cases_lt}
use Rattle.grammars.specs.Pairwise.{ArePairwise, HaveSameBytes}
use Rattle.format_toml_document.specs.AlikeTrees.{AreAlikeNodes, AreAlikeTrees, AreAlikeValues}
use Rattle.format_toml_document.proofs.AlikeValues.{array_across, array_back, closed_alike}
use Rattle.format_toml_document.proofs.AlikeValues.{table_across, table_back}
use Rattle.format_toml_tree.specs.Paths.{Path, named, placed, put, same_path}
use Rattle.format_toml_tree.specs.Rules.{IsContainer, Node, Says, adds, defines}
use Rattle.format_toml_tree.specs.Rules.{dots, dotted, gives, header, nothing, passes, ruled}
use Rattle.format_toml_tree.specs.Rules.{super, tables, valued}
use Rattle.format_toml_tree.specs.Runs.{HasValue, IsNext, IsWithin, State, Tree, entered, grown}
use Rattle.format_toml_tree.specs.Runs.{opened, say, say_key, then}
use Rattle.format_toml_tree.specs.declared.roles.Reason.{Reason}
use Rattle.format_toml_tree.specs.declared.value.Value.{Value}

-- ---- results

-- both succeed, with equivalent outputs, or fail with the same error
abbrev pub AreAlikeResults : {X E : Type 0} → (X → X → Type 0) → Result X E → Result X E → Type 0
AreAlikeResults alike (Ok x) (Ok y) = alike x y
AreAlikeResults alike (Ok x) (Err e) = ⊥
AreAlikeResults alike (Err d) (Ok y) = ⊥
AreAlikeResults alike (Err d) (Err e) = d ≡ e

pub then_alike : {X Y E : Type 0} (alike : X → X → Type 0) (like : Y → Y → Type 0)
    (r s : Result X E) (f g : X → Result Y E) → AreAlikeResults alike r s
    → ((x y : X) → alike x y → AreAlikeResults like (f x) (g y))
    → AreAlikeResults like (then r f) (then s g)
then_alike alike like (Ok x) (Ok y) f g are more = more x y are
then_alike alike like (Ok x) (Err e) f g are more = absurd are
then_alike alike like (Err d) (Ok y) f g are more = absurd are
then_alike alike like (Err d) (Err e) f g are more = are

module _ {A : Type 0} where
  -- equivalent trees, and the same current table
  abbrev pub AreAlikeStates : State A → State A → Type 0
  AreAlikeStates s t = AreAlikeTrees s.0 t.0 × (s.1 ≡ t.1)

  -- the same statement, of equivalent values
  abbrev pub AreAlikeSays : Says A → Says A → Type 0
  AreAlikeSays says also =
      (says ≡ also)
      ⊎ ((v : Value A) × (w : Value A) × (says ≡ gives v) × (also ≡ gives w)
      × AreAlikeValues v w)

  -- ---- what a node has

  pub nothing_alike : (m n : Node A) → AreAlikeNodes m n → m ≡ nothing → n ≡ nothing
  nothing_alike m n (inl e) f = sym e ∙ f
  nothing_alike m n (inr (v, w, e, f, alike)) g = absurd (cc)

  pub nothing_back : (m n : Node A) → AreAlikeNodes m n → n ≡ nothing → m ≡ nothing
  nothing_back m n (inl e) f = e ∙ f
  nothing_back m n (inr (v, w, e, f, alike)) g = absurd (cc)

  value_alike : (m n : Node A) → AreAlikeNodes m n → (v : Value A) → m ≡ valued v
      → (w : Value A) × (n ≡ valued w)
  value_alike m n (inl e) v f = (v, sym e ∙ f)
  value_alike m n (inr (a, w, e, f, alike)) v g = (w, f)

  value_back : (m n : Node A) → AreAlikeNodes m n → (w : Value A) → n ≡ valued w
      → (v : Value A) × (m ≡ valued v)
  value_back m n (inl e) w f = (w, e ∙ f)
  value_back m n (inr (v, b, e, f, alike)) w g = (v, e)

  contains_value : (v w : Value A) → AreAlikeValues v w → IsContainer (valued v)
      → IsContainer (valued w)
  contains_value v w alike (inl (l, e)) =
      let (m, f, are) = table_across v w alike l e in inl (m, f)
  contains_value v w alike (inr (l, e)) =
      let (m, f, are) = array_across v w alike l e in inr (m, f)

  value_contains : (v w : Value A) → AreAlikeValues v w → IsContainer (valued w)
      → IsContainer (valued v)
  value_contains v w alike (inl (m, f)) = inl (table_back v w alike m f)
  value_contains v w alike (inr (m, f)) = inr (array_back v w alike m f)

  contains_alike : (m n : Node A) → AreAlikeNodes m n → IsContainer m → IsContainer n
  contains_alike m n (inl e) is = subst IsContainer e is
  contains_alike m n (inr (v, w, e, f, alike)) is =
      subst IsContainer (sym f) (contains_value v w alike (subst IsContainer e is))

  contains_back : (m n : Node A) → AreAlikeNodes m n → IsContainer n → IsContainer m
  contains_back m n (inl e) is = subst IsContainer (sym e) is
  contains_back m n (inr (v, w, e, f, alike)) is =
      subst IsContainer (sym e) (value_contains v w alike (subst IsContainer f is))

  module _ (t u : Tree A) (are : AreAlikeTrees t u) where
    pub has_value_alike : (q : Path) → HasValue t q → HasValue u q
    has_value_alike q (v, e) = value_alike (t q) (u q) (are q) v e

    pub has_value_back : (q : Path) → HasValue u q → HasValue t q
    has_value_back q (w, e) = value_back (t q) (u q) (are q) w e

    pub next_alike : (q : Path) (j k : ℕ) → IsNext t q j → IsNext u q k → k ≡ j
    next_alike q j k is at = elim (cases_lt j k) [
      | inl less ↦ absurd (at.taken j less (nothing_alike _ _ (are (placed j ∷ q)) is.free))
      | inr most ↦ elim (cases_lt k j) [
        | inl less ↦ absurd (is.taken k less (nothing_back _ _ (are (placed k ∷ q)) at.free))
        | inr least ↦ omega (arith, most, least)
      ]
    ]

    pub within_alike : (level : ℕ) → IsWithin level t → IsWithin level u
    within_alike level within p is = within p (contains_back (t p) (u p) (are p) is)

    pub within_back : (level : ℕ) → IsWithin level u → IsWithin level t
    within_back level within p is = within p (contains_alike (t p) (u p) (are p) is)

    pub put_alike : (q : Path) (m n : Node A) → AreAlikeNodes m n
        → AreAlikeTrees (put t q m) (put u q n)
    put_alike q m n alike p = by (same_path q p)
      where
        by : (b : Bool) → AreAlikeNodes (cond b m (t p)) (cond b n (u p))
        by true = alike
        by false = are p

    entered_alike : (q : Path) (m n : Node A) → AreAlikeNodes m n
        → AreAlikeStates (entered m t q) (entered n u q)
    entered_alike q m n (inl e) =
        let P : Node A → Type 0 = λ k. AreAlikeStates (entered m t q) (entered k u q) in
        subst P e (same m)
      where
        same : (k : Node A) → AreAlikeStates (entered k t q) (entered k u q)
        same (tables (suc i)) = (are, refl)
        same (tables zero) = (are, refl)
        same nothing = (are, refl)
        same (valued v) = (are, refl)
        same super = (are, refl)
        same header = (are, refl)
        same dotted = (are, refl)
    entered_alike q m n (inr (v, w, e, f, alike)) =
        subst₂ (λ j k. AreAlikeStates (entered j t q) (entered k u q)) (sym e) (sym f) (are, refl)

  module _ (t u : Tree A) (are : AreAlikeTrees t u) where
    grown_alike : (q : Path) (m n : Node A) → AreAlikeNodes m n
        → AreAlikeStates (grown m t q) (grown n u q)
    grown_alike q m n (inl e) =
        let P : Node A → Type 0 = λ k. AreAlikeStates (grown m t q) (grown k u q) in
        subst P e (same m)
      where
        same : (k : Node A) → AreAlikeStates (grown k t q) (grown k u q)
        same (tables i) = (
          put_alike (put t q (tables (i + 1))) (put u q (tables (i + 1)))
              (put_alike t u are q (tables (i + 1)) (tables (i + 1)) (inl refl)) (placed i ∷ q)
              header header (inl refl),
          refl,
        )
        same nothing = (are, refl)
        same (valued v) = (are, refl)
        same super = (are, refl)
        same header = (are, refl)
        same dotted = (are, refl)
    grown_alike q m n (inr (v, w, e, f, alike)) =
        subst₂ (λ j k. AreAlikeStates (grown j t q) (grown k u q)) (sym e) (sym f) (are, refl)

    opened_same : (says : Says A) (q : Path) (m n : Node A) → AreAlikeNodes m n
        → AreAlikeStates (opened says m t q) (opened says n u q)
    opened_same passes q m n alike = entered_alike t u are q m n alike
    opened_same defines q m n alike = entered_alike t u are q m n alike
    opened_same adds q m n alike = grown_alike q m n alike
    opened_same dots q m n alike = entered_alike t u are q m n alike
    opened_same (gives v) q m n alike = entered_alike t u are q m n alike

    opened_alike : (says also : Says A) → AreAlikeSays says also → (q : Path) (m n : Node A)
        → AreAlikeNodes m n → AreAlikeStates (opened says m t q) (opened also n u q)
    opened_alike says also (inl e) q m n alike =
        let P : Says A → Type 0 = λ k. AreAlikeStates (opened says m t q) (opened k n u q) in
        subst P e (opened_same says q m n alike)
    opened_alike says also (inr (v, w, e, f, given)) q m n alike =
        subst₂ (λ j k. AreAlikeStates (opened j m t q) (opened k n u q)) (sym e) (sym f)
        (entered_alike t u are q m n alike)

  -- ---- statements

  abbrev Rules : Says A → Node A → Says A → Node A → Type 0
  Rules says m also n = AreAlikeResults AreAlikeNodes (ruled says m) (ruled also n)

  itself_ruled : (r : Result (Node A) Reason) → AreAlikeResults AreAlikeNodes r r
  itself_ruled (Ok n) = inl refl
  itself_ruled (Err why) = refl

  value_ruled : (says : Says A) (v w : Value A) → AreAlikeValues v w
      → Rules says (valued v) says (valued w)
  value_ruled passes v w alike = closed_alike v w alike
  value_ruled defines v w alike = refl
  value_ruled adds v w alike = refl
  value_ruled dots v w alike = closed_alike v w alike
  value_ruled (gives a) v w alike = refl

  given_ruled : (v w : Value A) → AreAlikeValues v w → (m n : Node A) → AreAlikeNodes m n
      → Rules (gives v) m (gives w) n
  given_ruled v w alike m n (inl e) =
      let P : Node A → Type 0 = λ k. Rules (gives v) m (gives w) k in subst P e (same m)
    where
      same : (k : Node A) → Rules (gives v) k (gives w) k
      same nothing = inr (v, w, refl, refl, alike)
      same (valued a) = refl
      same super = refl
      same header = refl
      same dotted = refl
      same (tables i) = refl
  given_ruled v w alike m n (inr (a, b, e, f, are)) =
      subst₂ (λ j k. Rules (gives v) j (gives w) k) (sym e) (sym f) refl

  same_ruled : (says : Says A) (m n : Node A) → AreAlikeNodes m n → Rules says m says n
  same_ruled says m n (inl e) =
      let P : Node A → Type 0 = λ k. Rules says m says k in subst P e (itself_ruled (ruled says m))
  same_ruled says m n (inr (a, b, e, f, are)) =
      subst₂ (λ j k. Rules says j says k) (sym e) (sym f) (value_ruled says a b are)

  ruled_alike : (says also : Says A) → AreAlikeSays says also → (m n : Node A)
      → AreAlikeNodes m n → Rules says m also n
  ruled_alike says also (inl e) m n alike =
      let P : Says A → Type 0 = λ k. Rules says m k n in subst P e (same_ruled says m n alike)
  ruled_alike says also (inr (v, w, e, f, given)) m n alike =
      subst₂ (λ j k. Rules j m k n) (sym e) (sym f) (given_ruled v w given m n alike)

  -- a statement about a path
  abbrev said_at : Says A → Tree A → Path → Result (State A) Reason
  said_at says tree q =
      then (ruled says (tree q)) (λ node. Ok (opened says node (put tree q node) q))

  say_alike : (says also : Says A) → AreAlikeSays says also → (s t : State A)
      → AreAlikeStates s t → (a b : List ℕ) → a ≡ b
      → AreAlikeResults AreAlikeStates (say says s a) (say also t b)
  say_alike says also same s t (are, f) a b e =
      let P : Path → Type 0 =
      λ r. AreAlikeResults AreAlikeStates (say says s a) (said_at also t.0 r) in
      let q : Path = named a ∷ s.1 in
      subst P (ap (λ c. named c ∷ s.1) e ∙ ap (λ r. named b ∷ r) f)
      (then_alike AreAlikeNodes AreAlikeStates (ruled says (s.0 q)) (ruled also (t.0 q)) _ _
      (ruled_alike says also same (s.0 q) (t.0 q) (are q))
      (λ m n alike. opened_alike (put s.0 q m) (put t.0 q n) (put_alike s.0 t.0 are q m n alike)
      says also same q m n alike))

  pub key_alike : (before last also : Says A) → AreAlikeSays last also → (s t : State A)
      → AreAlikeStates s t → (names others : List (String A))
      → ArePairwise HaveSameBytes names others
      → AreAlikeResults AreAlikeStates (say_key before last s names) (say_key before also t others)
  key_alike before last also same s t are [] [] x = are
  key_alike before last also same s t are [] (b ∷ others) x = absurd x
  key_alike before last also same s t are (a ∷ names) [] x = absurd x
  key_alike before last also same s t are (a ∷ []) (b ∷ []) (e, x) =
      say_alike last also same s t are (string_bytes a) (string_bytes b) e
  key_alike before last also same s t are (a ∷ []) (b ∷ d ∷ others) (e, x) = absurd x
  key_alike before last also same s t are (a ∷ c ∷ names) (b ∷ []) (e, x) = absurd x
  key_alike before last also same s t are (a ∷ c ∷ names) (b ∷ d ∷ others) (e, x) =
      then_alike AreAlikeStates AreAlikeStates (say before s (string_bytes a))
      (say before t (string_bytes b)) _ _
      (say_alike before before (inl refl) s t are (string_bytes a) (string_bytes b) e)
      (λ y z alike. key_alike before last also same y z alike (c ∷ names) (d ∷ others) x)
