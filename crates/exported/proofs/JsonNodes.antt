-- Lemmas about lookups among the nodes of a JSON text.
use Rattle.std.proofs.Common.{◌≡◌, ◌∙◌, ◌≤◌, ◌<◌, ◌+◌, ◌-◌, ℕ, Bool, List, arith, drop, false}
use Rattle.std.proofs.Common.{get_or, inl, inr, length, refl, subst, true}
use Rattle.std.specs.List.{slice_range}
use Rattle.std.proofs.lemmas.List.{length-drop, take_all}
use Rattle.std.proofs.lemmas.Option.{slice_get-get_or}
use Rattle.format_json_extents.specs.Strings.{IsString}
use Rattle.format_json_extents.specs.Texts.{NoMatchAtStart}
use Rattle.exported.specs.JsonNodes.{BreaksElement, BreaksMember, FindsElement, FindsMember}
use Rattle.exported.specs.JsonNodes.{HasInside, IsAt, IsNameOf, IsNoName, LacksElement}
use Rattle.exported.specs.JsonNodes.{PassesElements, PassesOthers, leads_nowhere}
use Rattle.exported.specs.JsonNodes.{leads_on}
use Rattle.format_json_extents.specs.declared.node.JsonNode.{JsonNode}

-- the default for indices without a node
abbrev pub no_node : JsonNode
no_node = record { kind = 0; start = 0; end = 0; next = 0 }

-- a node before the end is one of the list
there : {kind : ℕ} {nodes : List JsonNode} {index end : ℕ} (at : ℕ)
    → HasInside kind nodes index end → at < end → IsAt nodes at (get_or nodes at no_node)
there {nodes = nodes} at has less =
    slice_get-get_or nodes at no_node (omega (arith, has.within, less))

-- ---- names

pub none_there : (text : List ℕ) (start : ℕ) {bytes : List ℕ} → start ≤ length text
    → bytes ≡ slice_range text start (length text) → NoMatchAtStart IsString bytes
    → NoMatchAtStart IsString (drop start text)
none_there text start within is none =
    subst (λ l. NoMatchAtStart IsString l)
    (is ∙ take_all (length text - start) (drop start text)
    (omega (arith, length-drop start text))) none

-- ---- elements

pub elements_begin : {nodes : List JsonNode} {index end : ℕ} → HasInside 5 nodes index end
    → PassesElements nodes index end (index + 1) 0
elements_begin has = record { is_array = has; leads = leads_nowhere }

module _ {nodes : List JsonNode} {index end at count : ℕ}
    (passes : PassesElements nodes index end at count) where
  pub elements_more : at < end → at < (get_or nodes at no_node).next
      → PassesElements nodes index end (get_or nodes at no_node).next (count + 1)
  elements_more less on = record {
    is_array = passes.is_array;
    leads = leads_on at count (get_or nodes at no_node) passes.leads less
        (there at passes.is_array less) on tt;
  }

  pub lacks_element : {position : ℕ} → end ≤ at → count ≤ position
      → LacksElement nodes index position
  lacks_element past few = (end, at, count, passes, past, few)

  pub finds_element : {position : ℕ} → at < end → count ≤ position → position ≤ count
      → FindsElement nodes index position at
  finds_element {position} less few many =
      let same : count ≡ position = omega (arith, few, many) in
      (end, subst (λ n. PassesElements nodes index end at n) same passes, less)

  pub breaks_element : {position : ℕ} → at < end → count < position
      → (get_or nodes at no_node).next ≤ at → BreaksElement nodes index position
  breaks_element less few back =
      inr (
        end,
        at,
        count,
        get_or nodes at no_node,
        passes,
        less,
        few,
        there at passes.is_array less,
        back,
      )

-- ---- members

pub members_begin : {name text : List ℕ} {nodes : List JsonNode} {index end : ℕ}
    → HasInside 6 nodes index end → PassesOthers name text nodes index end (index + 1)
members_begin has = record { count = 0; is_object = has; leads = leads_nowhere }

module _ {name text : List ℕ} {nodes : List JsonNode} {index end at : ℕ}
    (passes : PassesOthers name text nodes index end at) (less : at < end) where
  abbrev pub this : JsonNode
  this = get_or nodes at no_node

  pub others_more : {same : Bool} → same ≡ false → IsNameOf same name text this → at < this.next
      → PassesOthers name text nodes index end this.next
  others_more is named on = record {
    count = passes.count + 1;
    is_object = passes.is_object;
    leads = leads_on at passes.count this passes.leads less (there at passes.is_object less) on
        (subst (λ b. IsNameOf b name text this) is named);
  }

  pub finds_member : {same : Bool} → same ≡ true → IsNameOf same name text this → this.next < end
      → FindsMember name text nodes index this.next
  finds_member is named within = (
    end,
    at,
    this,
    passes,
    less,
    there at passes.is_object less,
    subst (λ b. IsNameOf b name text this) is named,
    refl,
    within,
  )

  pub breaks_order : this.next ≤ at → BreaksMember name text nodes index
  breaks_order back = inr (end, at, this, passes, less, there at passes.is_object less, inl back)

  pub breaks_name : IsNoName text this → BreaksMember name text nodes index
  breaks_name none =
      inr (end, at, this, passes, less, there at passes.is_object less, inr (inl none))

  pub breaks_end : {same : Bool} → same ≡ true → IsNameOf same name text this → end ≤ this.next
      → BreaksMember name text nodes index
  breaks_end is named past =
      inr (
        end,
        at,
        this,
        passes,
        less,
        there at passes.is_object less,
        inr (inr (subst (λ b. IsNameOf b name text this) is named, past)),
      )
