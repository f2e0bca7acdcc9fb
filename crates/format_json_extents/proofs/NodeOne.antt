-- A text has one list of nodes.
use Rattle.std.proofs.Common.{◌++◌, ◌+◌, ◌∙◌, ◌∷◌, ◌≡◌, ◌⊎◌, [], ℕ, Bool, List, ap}
use Rattle.std.proofs.Common.{append_assoc, arith, false, inl, inr, length, refl, subst, suc, sym}
use Rattle.std.proofs.Common.{true, zero}
use Rattle.std.proofs.lemmas.List.Elements.{All-head}
use Rattle.format_json_extents.proofs.Matching.{AreDisjoint, FirstByteIs, begins_to, heads_equal}
use Rattle.format_json_extents.proofs.Matching.{tails_equal}
use Rattle.format_json_extents.proofs.Scalars.{string_starts}
use Rattle.format_json_extents.specs.Number.{IsByteOfNumber}
use Rattle.format_json_extents.specs.Texts.{EitherByte}
use Rattle.format_json_extents.specs.Value.{IsWhitespace, IsWhitespaceByte, closing_bracket}
use Rattle.format_json_extents.specs.Value.{opening_bracket}
use Rattle.format_json_extents.proofs.NodeTokens.{IsFirstOfScalar, No, One, Unique, run_one}
use Rattle.format_json_extents.proofs.NodeTokens.{scalar_unique, string_one, sum_unique, text_same}
use Rattle.format_json_extents.specs.Nodes.{ElementNodes, ItemNodes, ListNodes, MemberNodes}
use Rattle.format_json_extents.specs.Nodes.{NestedNodes, NodesAt, NodesOfText, ScalarNodes}
use Rattle.format_json_extents.specs.Nodes.{ValueNodes, nested_kind, node, nodes_before, nodes_last}
use Rattle.format_json_extents.specs.declared.node.JsonNode.{JsonNode}

-- a byte with which a value starts
abbrev IsFirst : ℕ → Type 0
IsFirst = EitherByte IsFirstOfScalar
    (EitherByte (λ b. b ≡ opening_bracket false) (λ b. b ≡ opening_bracket true))

-- neither a number nor whitespace continues
abbrev Stop : List ℕ → Type 0
Stop r = No IsByteOfNumber r × No IsWhitespaceByte r

no_first : {S F : ℕ → Type 0} {text : List ℕ} (more : List ℕ) → AreDisjoint S F → FirstByteIs F text
    → No S (text ++ more)
no_first {F = F} more apart f b rest e s =
    apart b s (subst F (heads_equal (sym (ap (λ l. l ++ more) f.begins) ∙ e)) f.is)

no_this : (S : ℕ → Type 0) (b : ℕ) (more : List ℕ) → (S b → ⊥) → No S (b ∷ more)
no_this S b more not c rest e s = not (subst S (sym (heads_equal e)) s)

stop_comma : (more : List ℕ) → Stop (44 ∷ more)
stop_comma more = (
  no_this IsByteOfNumber 44 more (λ w. grind (arith, w)),
  no_this IsWhitespaceByte 44 more (λ s. grind (arith, s)),
)

stop_closing : (keyed : Bool) (more : List ℕ) → Stop (closing_bracket keyed ∷ more)
stop_closing true more = (
  no_this IsByteOfNumber 125 more (λ w. grind (arith, w)),
  no_this IsWhitespaceByte 125 more (λ s. grind (arith, s)),
)
stop_closing false more = (
  no_this IsByteOfNumber 93 more (λ w. grind (arith, w)),
  no_this IsWhitespaceByte 93 more (λ s. grind (arith, s)),
)

-- whitespace and then such a rest
numeral_gap : (gap rest : List ℕ) → IsWhitespace gap → No IsByteOfNumber rest
    → No IsByteOfNumber (gap ++ rest)
numeral_gap [] rest all stops = stops
numeral_gap (c ∷ gap) rest all stops =
    no_this IsByteOfNumber c (gap ++ rest) (λ w.
    let s = All-head IsWhitespaceByte c gap all in grind (arith, s, w))

scalar_nodes : (from index : ℕ)
    → Unique (ScalarNodes from index) IsFirstOfScalar (No IsByteOfNumber)
scalar_nodes from index = record {
  first = λ a t x. scalar_unique.first x.kind t x.is_scalar;
  one = λ a b t s r q x y e at_r at_q.
      let (kinds, rests) = scalar_unique.one x.kind y.kind t s r q x.is_scalar y.is_scalar e at_r
      at_q in
      let texts = text_same t s rests e in
      let same : node x.kind from t (index + 1) ≡ node y.kind from s (index + 1) =
      rw (kinds, texts) in
      (x.alone ∙ ap (λ n. n ∷ []) same ∙ sym y.alone, rests);
}

module _ (V : NodesAt)
    (unique : (from index : ℕ) → Unique (V from index) IsFirst (No IsByteOfNumber)) where
  -- ---- elements and members

  element_one : (from index : ℕ) → One (ElementNodes V from index) Stop
  element_one from index a b t s r q x y e at_r at_q =
      let xs : t ++ r ≡ x.before ++ (x.value ++ (x.after ++ r)) = simp (x.joins, append_assoc) in
      let ys : s ++ q ≡ y.before ++ (y.value ++ (y.after ++ q)) = simp (y.joins, append_assoc) in
      let u = unique (from + length x.before) index in
      let v = unique (from + length y.before) index in
      let (gaps, values) = run_one {P = IsWhitespaceByte} x.before y.before x.is_before y.is_before
      (sym xs ∙ e ∙ ys)
      (no_first (x.after ++ r) (λ c s f. grind (arith, s, f)) (u.first a x.value x.is_value))
      (no_first (y.after ++ q) (λ c s f. grind (arith, s, f)) (v.first b y.value y.is_value)) in
      let (nodes, ends) = u.one a b x.value y.value (x.after ++ r) (y.after ++ q) x.is_value
      (subst (λ g. V (from + length g) index b y.value) (sym gaps) y.is_value) values
      (numeral_gap x.after r x.is_after at_r.0) (numeral_gap y.after q y.is_after at_q.0) in (
        nodes,
        (run_one {P = IsWhitespaceByte} x.after y.after x.is_after y.is_after ends at_r.1
            at_q.1).1,
      )

  member_one : (from index : ℕ) → One (MemberNodes V from index) Stop
  member_one from index a b t s r q x y e at_r at_q =
      let xs : t ++ r ≡ x.before ++ (x.name ++ (x.after ++ 58 ∷ (x.element ++ r))) =
      simp (x.joins, append_assoc) in
      let ys : s ++ q ≡ y.before ++ (y.name ++ (y.after ++ 58 ∷ (y.element ++ q))) =
      simp (y.joins, append_assoc) in
      let (gaps, names) = run_one {P = IsWhitespaceByte} x.before y.before x.is_before y.is_before
      (sym xs ∙ e ∙ ys)
      (no_first (x.after ++ 58 ∷ (x.element ++ r)) (λ c s w. grind (arith, s, w))
      (string_starts x.name x.is_name))
      (no_first (y.after ++ 58 ∷ (y.element ++ q)) (λ c s w. grind (arith, s, w))
      (string_starts y.name y.is_name)) in
      let colons = string_one x.name y.name x.is_name y.is_name names in
      let same = text_same x.name y.name colons names in
      let (spaces, ends) =
      run_one {P = IsWhitespaceByte} x.after y.after x.is_after y.is_after colons
      (no_this IsWhitespaceByte 58 (x.element ++ r) (λ w. grind (arith, w)))
      (no_this IsWhitespaceByte 58 (y.element ++ q) (λ w. grind (arith, w))) in
      let front : x.before ++ (x.name ++ x.after) ≡ y.before ++ (y.name ++ y.after) =
      rw (gaps, same, spaces) in
      let (nodes, rests) = element_one (from + length (x.before ++ (x.name ++ x.after)) + 1)
      (index + 1) x.others y.others x.element y.element r q x.is_element
      (subst (λ g. ElementNodes V (from + length g + 1) (index + 1) y.others y.element) (sym front)
      y.is_element) (tails_equal ends) at_r at_q in
      let all : node 7 (from + length x.before) x.name (index + 1) ∷ x.others
      ≡ node 7 (from + length y.before) y.name (index + 1) ∷ y.others = rw (gaps, same, nodes) in
      (x.in_order ∙ all ∙ sym y.in_order, rests)

  item_one : (keyed : Bool) (from index : ℕ) → One (ItemNodes keyed V from index) Stop
  item_one true = member_one
  item_one false = element_one

  closing_apart : (keyed : Bool) → AreDisjoint (λ b. b ≡ closing_bracket keyed) IsFirst
  closing_apart true b e f = grind (arith, e, f)
  closing_apart false b e f = grind (arith, e, f)

  opens : (keyed : Bool) (gap front text more r : List ℕ) → IsWhitespace gap → IsWhitespace front
      → FirstByteIs IsFirst text → gap ++ closing_bracket keyed ∷ r ≡ front ++ (text ++ more) → ⊥
  opens keyed gap front text more r all is f e =
      let (gaps, rests) = run_one {P = IsWhitespaceByte} gap front all is e (stop_closing keyed r).1
      (no_first more (λ c s f. grind (arith, s, f)) f) in
      no_first more (closing_apart keyed) f (closing_bracket keyed) r (sym rests) refl

  -- an item starts neither with a closing bracket nor with whitespace and one
  item_open : (keyed other : Bool) (from index : ℕ) (a : List JsonNode) (t : List ℕ)
      → ItemNodes keyed V from index a t → (gap r q : List ℕ) → IsWhitespace gap
      → gap ++ closing_bracket other ∷ r ≡ t ++ q → ⊥
  item_open false other from index a t x gap r q all e =
      opens other gap x.before x.value (x.after ++ q) r all x.is_before
      ((unique (from + length x.before) index).first a x.value x.is_value)
      (e ∙ simp (x.joins, append_assoc))
  item_open true other from index a t x gap r q all e =
      opens other gap x.before x.name (x.after ++ 58 ∷ (x.element ++ q)) r all x.is_before
      (begins_to (λ b f. inl (inr (inr (inr (inr f))))) (string_starts x.name x.is_name))
      (e ∙ simp (x.joins, append_assoc))

-- ---- lists

-- a list is an item, or an item and a list
list_cases : {P : NodesAt} (from index : ℕ) (a : List JsonNode) (t : List ℕ)
    → ListNodes P from index a t
    → P from index a t
    ⊎ ((one : List JsonNode) × (others : List JsonNode) × (first : List ℕ) × (more : List ℕ)
    × P from index one first
    × ListNodes P (from + length first + 1) (index + length one) others more
    × (t ≡ first ++ 44 ∷ more) × (a ≡ one ++ others))
list_cases _ _ _ _ (nodes_last from index a t x) = inl x
list_cases _ _ _ _ (nodes_before from index one others a first more t x xs e f) =
    inr (one, others, first, more, x, xs, e, f)

comma_no_closing : (keyed : Bool) → closing_bracket keyed ≡ 44 → ⊥
comma_no_closing true e = omega (arith, e)
comma_no_closing false e = omega (arith, e)

module _ (keyed : Bool) {P : NodesAt} (one : (from index : ℕ) → One (P from index) Stop) where
  -- an item that the closing bracket follows is none that a comma follows
  ends_apart : (from index : ℕ) (a b : List JsonNode) (t s r q more : List ℕ) → P from index a t
      → P from index b s → t ++ closing_bracket keyed ∷ r ≡ (s ++ 44 ∷ more) ++ q → ⊥
  ends_apart from index a b t s r q more x y e =
      comma_no_closing keyed (heads_equal (one from index a b t s (closing_bracket keyed ∷ r)
      (44 ∷ (more ++ q)) x y (e ∙ append_assoc s (44 ∷ more) q) (stop_closing keyed r)
      (stop_comma (more ++ q))).1)

  list_one : (from index : ℕ) (a b : List JsonNode) (t s r q : List ℕ)
      → ListNodes P from index a t → ListNodes P from index b s
      → t ++ closing_bracket keyed ∷ r ≡ s ++ closing_bracket keyed ∷ q → (a ≡ b) × (r ≡ q)
  list_one _ _ _ b _ s r q (nodes_last from index a t x) ys e =
      elim (list_cases from index b s ys) [
        | inl y ↦
            let (nodes, rests) =
            one from index a b t s (closing_bracket keyed ∷ r) (closing_bracket keyed ∷ q) x
            y
            e (stop_closing keyed r) (stop_closing keyed q) in (nodes, tails_equal rests)
        | inr (yours, others, first, more, y, ys', f, g) ↦
            absurd (ends_apart from index a yours t first r (closing_bracket keyed ∷ q) more x y
            (e ∙ ap (λ l. l ++ closing_bracket keyed ∷ q) f))
      ]
  list_one _ _ _ b _ s r q (nodes_before from index mine others a first more t x xs e1 e2) ys e =
      elim (list_cases from index b s ys) [
        | inl y ↦ absurd
            (ends_apart from index b mine s first q (closing_bracket keyed ∷ r) more y x
            (sym e ∙ ap (λ l. l ++ closing_bracket keyed ∷ r) e1))
        | inr (yours, others', first', more', y, ys', f, g) ↦
            let xs' : t ++ closing_bracket keyed ∷ r
            ≡ first ++ 44 ∷ (more ++ closing_bracket keyed ∷ r) =
            simp (e1, append_assoc) in
            let ys'' : s ++ closing_bracket keyed ∷ q
            ≡ first' ++ 44 ∷ (more' ++ closing_bracket keyed ∷ q) =
            simp (f, append_assoc) in
            let at = sym xs' ∙ e ∙ ys'' in
            let (nodes, rests) = one from index mine yours first first'
            (44 ∷ (more ++ closing_bracket keyed ∷ r))
            (44 ∷ (more' ++ closing_bracket keyed ∷ q)) x y at
            (stop_comma (more ++ closing_bracket keyed ∷ r))
            (stop_comma (more' ++ closing_bracket keyed ∷ q)) in
            let texts = text_same first first' rests at in
            let (nodes2, ends) = list_one (from + length first + 1) (index + length mine) others
            others' more more' r q xs
            (subst (λ l. ListNodes P (from + length l + 1) (index + length mine) others' more')
            (sym texts)
            (subst (λ l. ListNodes P (from + length first' + 1) (index + length l) others' more')
            (sym nodes) ys')) (tails_equal rests) in
            let all : mine ++ others ≡ yours ++ others' = rw (nodes, nodes2) in
            (e2 ∙ all ∙ sym g, ends)
      ]

-- ---- values

module _ (keyed : Bool) (V : NodesAt)
    (unique : (from index : ℕ) → Unique (V from index) IsFirst (No IsByteOfNumber)) where
  list_open : (from index : ℕ) (a : List JsonNode) (t : List ℕ)
      → ListNodes (ItemNodes keyed V) from index a t → (gap r q : List ℕ) → IsWhitespace gap
      → gap ++ closing_bracket keyed ∷ r ≡ t ++ q → ⊥
  list_open from index a t xs gap r q all e = elim (list_cases from index a t xs) [
    | inl x ↦ item_open V unique keyed keyed from index a t x gap r q all e
    | inr (mine, others, front, more, x, xs', f, g) ↦
        item_open V unique keyed keyed from index mine front x gap r (44 ∷ (more ++ q)) all
        (e ∙ simp (f, append_assoc))
  ]

  inside_one : (from index : ℕ) (a b : List JsonNode) (t s r q : List ℕ)
      → (IsWhitespace t × (a ≡ [])) ⊎ ListNodes (ItemNodes keyed V) from index a t
      → (IsWhitespace s × (b ≡ [])) ⊎ ListNodes (ItemNodes keyed V) from index b s
      → t ++ closing_bracket keyed ∷ r ≡ s ++ closing_bracket keyed ∷ q → (a ≡ b) × (r ≡ q)
  inside_one from index a b t s r q (inl (g, n)) (inl (h, m)) e = (
    n ∙ sym m,
    tails_equal (run_one {P = IsWhitespaceByte} t s g h e (stop_closing keyed r).1
        (stop_closing keyed q).1).1,
  )
  inside_one from index a b t s r q (inl (g, n)) (inr ys) e =
      absurd (list_open from index b s ys t r (closing_bracket keyed ∷ q) g e)
  inside_one from index a b t s r q (inr xs) (inl (h, m)) e =
      absurd (list_open from index a t xs s q (closing_bracket keyed ∷ r) h (sym e))
  inside_one from index a b t s r q (inr xs) (inr ys) e =
      list_one keyed (item_one V unique keyed) from index a b t s r q xs ys e

  nested_unique : (from index : ℕ)
      → Unique (NestedNodes keyed V from index) (λ b. b ≡ opening_bracket keyed) (No IsByteOfNumber)
  nested_unique from index = record {
    first = λ a t x. record {
      byte = opening_bracket keyed;
      more = x.inside ++ closing_bracket keyed ∷ [];
      begins = x.joins;
      is = refl;
    };
    one = λ a b t s r q x y e at_r at_q.
        let xs : t ++ r ≡ opening_bracket keyed ∷ (x.inside ++ closing_bracket keyed ∷ r) =
        simp (x.joins, append_assoc) in
        let ys : s ++ q ≡ opening_bracket keyed ∷ (y.inside ++ closing_bracket keyed ∷ q) =
        simp (y.joins, append_assoc) in
        let (nodes, rests) = inside_one (from + 1) (index + 1) x.inner y.inner x.inside y.inside r
        q x.is_inside y.is_inside (tails_equal (sym xs ∙ e ∙ ys)) in
        let texts = text_same t s rests e in
        let all : node (nested_kind keyed) from t (index + 1 + length x.inner) ∷ x.inner
        ≡ node (nested_kind keyed) from s (index + 1 + length y.inner) ∷ y.inner =
        rw (texts, nodes) in
        (x.in_order ∙ all ∙ sym y.in_order, rests);
  }

value_unique : (level from index : ℕ)
    → Unique (ValueNodes level from index) IsFirst (No IsByteOfNumber)
value_unique zero from index =
    let u = scalar_nodes from index in
    record { first = λ a t x. begins_to (λ b f. inl f) (u.first a t x); one = u.one }
value_unique (suc level) from index =
    let V = ValueNodes level in
    sum_unique (scalar_nodes from index)
    (sum_unique (nested_unique false V (value_unique level) from index)
    (nested_unique true V (value_unique level) from index) (λ b f g. omega (arith, f, g)))
    (λ b f g. grind (arith, f, g))

pub nodes_one : (level : ℕ) (text : List ℕ) (a b : List JsonNode) → NodesOfText level a text
    → NodesOfText level b text → a ≡ b
nodes_one level text a b x y =
    (element_one (ValueNodes level) (value_unique level) 0 0 a b text text [] [] x y refl
    (none IsByteOfNumber, none IsWhitespaceByte) (none IsByteOfNumber, none IsWhitespaceByte)).0
  where
    none : (S : ℕ → Type 0) → No S []
    none S b more e s = omega (arith, ap (λ l. length l) e)
