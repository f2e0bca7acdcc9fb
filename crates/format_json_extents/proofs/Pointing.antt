-- Lemmas about JSON pointers.
use Rattle.std.proofs.Common.{◌++◌, ◌-◌, ◌==◌, ◌∙◌, ◌∷◌, ◌≡◌, [], ℕ, Bool, List, Option}
use Rattle.std.proofs.Common.{ap, append_assoc, arith, false, inr, length, length-append, refl}
use Rattle.std.proofs.Common.{subst, suc, sym, take, true}
use Rattle.std.specs.List.{All}
use Rattle.std.proofs.lemmas.Bool.{eq-eqb, true≢false}
use Rattle.std.proofs.lemmas.List.{append-nil, nil_from_length}
use Rattle.format_json_extents.proofs.Matching.{tails_equal}
use Rattle.format_json_extents.proofs.Scanning.{take_prefix_by_rest}
use Rattle.format_json_extents.proofs.Values.{IsItemByte}
use Rattle.format_json_extents.specs.Number.{IsNumber}
use Rattle.format_json_extents.specs.Pointer.{HasItem, IsChild, IsContainer, IsFoundItem, IsPointer}
use Rattle.format_json_extents.specs.Pointer.{IsRooted, IsSought, IsToken, IsTokenByte, IsTokenOf}
use Rattle.format_json_extents.specs.Pointer.{LacksChild, LacksItem, PassesItems, Reaches, lower}
use Rattle.format_json_extents.specs.Pointer.{passes_item, passes_nothing, reaches_child}
use Rattle.format_json_extents.specs.Pointer.{reaches_root}
use Rattle.format_json_extents.specs.Texts.{IsLongest, MatchesAtStart, RestAfter}
use Rattle.format_json_extents.specs.Value.{ExtendsNumberOf, IsItem, IsName, IsValue, IsWhitespace}
use Rattle.format_json_extents.specs.Value.{closing_bracket}
use Rattle.format_json_extents.specs.declared.pointer.Lookup.{Lookup}
use Rattle.format_json_extents.specs.declared.pointer.Lookup.TheVariants as lookup

-- a pointer starts with a slash, or is empty
pub pointer_rooted : (pointer : List ℕ) → IsPointer pointer → IsRooted pointer
pointer_rooted [] is = tt
pointer_rooted (b ∷ more) is = is.0

-- the first byte of what remains of a pointer
pub rooted_first : (tokens : List ℕ) {b : ℕ} {more : List ℕ} → IsRooted tokens → tokens ≡ b ∷ more
    → tokens ≡ 47 ∷ more
rooted_first [] is e = absurd (omega (arith, ap (λ l. length l) e))
rooted_first (c ∷ others) is e = ap (λ l. l ∷ others) is ∙ ap (λ l. 47 ∷ l) (tails_equal e)

-- a value that the pointer reaches is one
pub reached : {level : ℕ} {text pointer : List ℕ} {depth : ℕ} {here rest tokens : List ℕ}
    → Reaches level text pointer depth here rest tokens
    → RestAfter (IsValue depth) (ExtendsNumberOf here) here rest
reached (reaches_root here rest gap is) = is
reached (reaches_child depth here rest more token after start end so is child) =
    let (keyed, inner, index, inside, container, item) = child in
    subst (λ n. RestAfter (IsValue n) (ExtendsNumberOf start) start end)
    (sym (suc_same container.is_deep)) item.is_value
  where
    suc_same : {m n : ℕ} → suc m ≡ suc n → m ≡ n
    suc_same e = omega (arith, e)

-- ---- tokens

pub token_of : {more after : List ℕ} → MatchesAtStart (All IsTokenByte) more after → IsRooted after
    → IsToken more after
token_of it rooted =
    (it.text, record { no_slash = it.is; splits = it.splits; is_rooted = rooted })

pub rooted_at : {rest : List ℕ} {b : ℕ} {more : List ℕ} → rest ≡ b ∷ more → b ≡ 47 → IsRooted rest
rooted_at e is = subst IsRooted (sym e) is

pub rooted_none : (rest : List ℕ) → length rest ≡ 0 → IsRooted rest
rooted_none rest e = subst IsRooted (sym (nil_from_length rest e)) tt

-- the bytes before the rest are the token
pub token_taken : {more after : List ℕ} → IsToken more after
    → IsTokenOf (take (length more - length after) more) more after
token_taken {more} {after} (token, is) =
    subst (λ l. IsTokenOf l more after) (sym (take_prefix_by_rest token after is.splits)) is

-- ---- items

module _ {keyed : Bool} {level : ℕ} {index : Option ℕ} {token inside at : List ℕ}
    {left : Option ℕ} (passes : PassesItems keyed level index token inside at left) where
  pub passes_more : {same : Bool} {ahead next : List ℕ} {lowered : Option ℕ} → same ≡ false
      → IsSought keyed same left token at
      → RestAfter (IsItem keyed (IsValue level)) IsItemByte at ahead → ahead ≡ 44 ∷ next
      → lowered ≡ lower left → PassesItems keyed level index token inside next lowered
  passes_more {next = next} other sought item e lowers =
      subst (PassesItems keyed level index token inside next) (sym lowers)
      (passes_item at next left passes
      (subst (λ b. IsSought keyed b left token at) other sought)
      (subst (MatchesAtStart (IsItem keyed (IsValue level)) at) e item.stands))

  pub lacks_item : {same : Bool} {ahead rest : List ℕ} → same ≡ false
      → IsSought keyed same left token at
      → RestAfter (IsItem keyed (IsValue level)) IsItemByte at ahead
      → ahead ≡ closing_bracket keyed ∷ rest
      → LacksItem keyed level index token inside
  lacks_item {rest = rest} other sought item e = inr (
    at,
    rest,
    left,
    passes,
    subst (λ b. IsSought keyed b left token at) other sought,
    subst (MatchesAtStart (IsItem keyed (IsValue level)) at) e item.stands,
  )

  pub has_item : {same : Bool} {named start rest : List ℕ} → same ≡ true
      → IsSought keyed same left token at → MatchesAtStart (IsName keyed) at named
      → MatchesAtStart IsWhitespace named start
      → RestAfter (IsValue level) (ExtendsNumberOf start) start rest
      → HasItem keyed level index token inside start rest
  has_item {named = named} is sought name gap value = record {
    at = at;
    left = left;
    named = named;
    passes = passes;
    is_sought = subst (λ b. IsSought keyed b left token at) is sought;
    is_name = name;
    is_gap = gap;
    is_value = value;
  }

-- ---- values

module _ {keyed : Bool} {level inner : ℕ} {index : Option ℕ} {token value inside : List ℕ}
    (container : IsContainer keyed level token value inner index inside)
    {found : Bool} (start rest : List ℕ)
    (item : IsFoundItem found keyed inner index token inside start rest) where
  pub has_child : found ≡ true → IsChild lookup.Found level token value start rest
  has_child is = (
    keyed,
    inner,
    index,
    inside,
    container,
    subst (λ b. IsFoundItem b keyed inner index token inside start rest) is item,
  )

  pub lacks_child : (wanted : Bool) → keyed ≡ wanted → found ≡ false
      → LacksChild wanted level token value
  lacks_child wanted same not =
      subst (λ k. LacksChild k level token value) same (
        inner,
        index,
        inside,
        container,
        subst (λ b. IsFoundItem b keyed inner index token inside start rest) not item,
      )

-- ---- pointers

pub found_child : {looked : Lookup} {level : ℕ} {token value : List ℕ} (start rest : List ℕ)
    → looked ≡ lookup.Found → IsChild looked level token value start rest
    → IsChild lookup.Found level token value start rest
found_child {level = level} {token} {value} start rest same child =
    subst (λ l. IsChild l level token value start rest) same child

module _ {level depth : ℕ} {text pointer here rest tokens : List ℕ}
    (so : Reaches level text pointer depth here rest tokens) where
  at_slash : {b : ℕ} {more : List ℕ} → IsRooted tokens → tokens ≡ b ∷ more
      → Reaches level text pointer depth here rest (47 ∷ more)
  at_slash rooted e =
      subst (Reaches level text pointer depth here rest) (rooted_first tokens rooted e) so

  pub reaches_more : {b : ℕ} {more after token start end : List ℕ} → IsRooted tokens
      → tokens ≡ b ∷ more → IsTokenOf token more after
      → IsChild lookup.Found depth token here start end
      → Reaches level text pointer (depth - 1) start end after
  reaches_more {more = more} {after} {token} {start} {end} rooted e is child =
      let (keyed, inner, index, inside, container, item) = child in
      let deep : depth ≡ suc (depth - 1) = omega (arith, container.is_deep) in
      reaches_child (depth - 1) here rest more token after start end
      (subst (λ n. Reaches level text pointer n here rest (47 ∷ more)) deep (at_slash rooted e)) is
      (subst (λ n. IsChild lookup.Found n token here start end) deep child)

  pub ends_here : length tokens ≡ 0
      → (n : ℕ) × Reaches level text pointer n here rest []
  ends_here e =
      (depth, subst (Reaches level text pointer depth here rest) (nil_from_length tokens e) so)

  pub stops_here : (result : Lookup) {looked : Lookup} {b : ℕ} {more after token : List ℕ}
      (start end : List ℕ) → IsRooted tokens → tokens ≡ b ∷ more → IsTokenOf token more after
      → looked ≡ result → IsChild looked depth token here start end
      → (n : ℕ) × (others word left : List ℕ)
      × Reaches level text pointer n here rest (47 ∷ others) × IsTokenOf word others left
      × ((from to : List ℕ) × IsChild result n word here from to)
  stops_here result {more = more} {after} {token} start end rooted e is same child = (
    depth,
    more,
    token,
    after,
    at_slash rooted e,
    is,
    (start, end, subst (λ l. IsChild l depth token here start end) same child),
  )

-- ---- what is found is within the text

-- `Ends whole end`: `whole` ends with `end`.
abbrev pub Ends : List ℕ → List ℕ → Type 0
Ends whole end = (before : List ℕ) × (whole ≡ before ++ end)

ends_on : {whole mid end : List ℕ} → Ends whole mid → Ends mid end → Ends whole end
ends_on {end = end} (front, first) (more, second) =
    (front ++ more, first ∙ ap (λ l. front ++ l) second ∙ sym (append_assoc front more end))

matched : {P : List ℕ → Type 0} {bytes rest : List ℕ} → MatchesAtStart P bytes rest
    → Ends bytes rest
matched it = (it.text, it.splits)

after_first : {b : ℕ} {bytes rest : List ℕ} → bytes ≡ b ∷ rest → Ends bytes rest
after_first {b = b} e = (b ∷ [], e)

items_within : {keyed : Bool} {level : ℕ} {index : Option ℕ} {token inside at : List ℕ}
    {left : Option ℕ} → PassesItems keyed level index token inside at left → Ends inside at
items_within passes_nothing = ([], refl)
items_within (passes_item at next left passes sought item) =
    ends_on (items_within passes) (ends_on (matched item) (after_first refl))

item_within : {keyed : Bool} {level : ℕ} {index : Option ℕ} {token inside start rest : List ℕ}
    → HasItem keyed level index token inside start rest → Ends inside start
item_within item =
    ends_on (items_within item.passes) (ends_on (matched item.is_name) (matched item.is_gap))

-- a value that the pointer reaches is in the text
pub reached_within : {level : ℕ} {text pointer : List ℕ} {depth : ℕ}
    {here rest tokens : List ℕ} → Reaches level text pointer depth here rest tokens → Ends text here
reached_within (reaches_root here rest gap is) = matched gap
reached_within (reaches_child depth here rest more token after start end so is child) =
    let (keyed, inner, index, inside, container, item) = child in
    ends_on (reached_within so) (ends_on (after_first container.opens) (item_within item))

-- ---- indices

-- a token that a number starts, and does not end, is no number
pub no_whole_number : {token text rest : List ℕ} {empty : Bool}
    → IsLongest IsNumber text token rest → empty ≡ (length rest == 0) → empty ≡ false
    → IsNumber token → ⊥
no_whole_number {token} {text} {rest} it e not is =
    let less = it.longest token [] is (sym (append-nil token)) in
    let none : length rest ≡ 0 =
    omega (arith, less, ap (λ l. length l) it.splits, length-append text rest) in
    true≢false (sym (eq-eqb (length rest) 0 none) ∙ sym e ∙ not)
