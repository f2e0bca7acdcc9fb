-- Lemmas about the nodes of arrays and objects, and how they are written.
use Rattle.std.proofs.Common.{◌++◌, ◌+◌, ◌-◌, ◌∙◌, ◌∷◌, ◌≡◌, ◌≤◌, [], ℕ, Bool, IfSome, List}
use Rattle.std.proofs.Common.{MatchOption, None, Option, Some, ap, append_assoc, arith, false, inl}
use Rattle.std.proofs.Common.{inr, length, length-append, refl, set, subst, suc, sym, true, zero}
use Rattle.std.specs.Borrow.{Bor}
use Rattle.format_json_extents.proofs.Matching.{no_match_of_either, rest_after_right}
use Rattle.format_json_extents.proofs.Values.{value_scans}
use Rattle.format_json_extents.specs.Texts.{NoByte, NoMatchAtStart, RestAfter}
use Rattle.format_json_extents.specs.Value.{ExtendsNumberOf, IsEmptyTail, IsItemsTail, IsNestedTail}
use Rattle.format_json_extents.specs.Value.{IsScalar, IsValue, closing_bracket, opening_bracket}
use Rattle.format_json_extents.proofs.NodeOverlay.{overlay_before, overlay_none, overlay_then}
use Rattle.format_json_extents.proofs.NodeOverlay.{set_overlay}
use Rattle.format_json_extents.proofs.NodeWriting.{ends_at, long}
use Rattle.format_json_extents.specs.Nodes.{ItemNodes, ListNodes, NestedNodes, NodesAt, ScalarNodes}
use Rattle.format_json_extents.specs.Nodes.{ValueNodes, nested_kind, node, nodes_before, nodes_last}
use Rattle.format_json_extents.specs.NodeWriting.{ItemsNodes, TailNodes, WritesItems, WritesNodes}
use Rattle.format_json_extents.specs.NodeWriting.{offset_of_rest, overlay}
use Rattle.format_json_extents.specs.declared.node.JsonNode.{JsonNode}

-- ---- items

module _ (keyed : Bool) (V : NodesAt) (size index : ℕ) {bytes : List ℕ} where
  pub no_items : (old : List JsonNode)
      → WritesItems keyed V size index bytes bytes index old old
  no_items old = record {
    nodes = [];
    text = [];
    splits = refl;
    counts = omega arith;
    few = omega arith;
    written = sym (overlay_none index old);
    leads = λ others more list. list;
  }

  module _ {rest : List ℕ} {count : ℕ} {old now : List JsonNode}
      (so : WritesItems keyed V size index bytes rest count old now) where
    pub items_room : count + length rest ≤ index + length bytes
    items_room = omega (arith, so.counts, so.few, long so.text rest so.splits)

    module _ {ahead : List ℕ} {next : ℕ} {new : List JsonNode}
        (it : WritesNodes (ItemNodes keyed V) size count rest ahead next now new) where
      nodes_all : new ≡ overlay index (so.nodes ++ it.nodes) old
      nodes_all = it.written ∙ ap (λ l. overlay count it.nodes l) so.written
          ∙ overlay_then index count so.nodes it.nodes old so.counts

      text_all : (end onward : List ℕ) → ahead ≡ end ++ onward
          → bytes ≡ (so.text ++ (it.text ++ end)) ++ onward
      text_all end onward e = simp (so.splits, it.splits, e, append_assoc)

      pub more_items : {onward : List ℕ} → length rest ≤ size → ahead ≡ 44 ∷ onward
          → WritesItems keyed V size index bytes onward next old new
      more_items {onward} room e = record {
        nodes = so.nodes ++ it.nodes;
        text = so.text ++ (it.text ++ 44 ∷ []);
        splits = text_all (44 ∷ []) onward e;
        counts = omega (arith, it.counts, so.counts, length-append so.nodes it.nodes);
        few = omega (
          arith,
          it.few,
          so.few,
          length-append so.nodes it.nodes,
          length-append so.text (it.text ++ 44 ∷ []),
          length-append it.text (44 ∷ []),
        );
        written = nodes_all;
        leads = λ others more list.
            let on : ListNodes (ItemNodes keyed V) (offset_of_rest size rest) count
            (it.nodes ++ others)
            (it.text ++ 44 ∷ more) =
            nodes_before (offset_of_rest size rest) count it.nodes others (it.nodes ++ others)
            it.text more
            (it.text ++ 44 ∷ more) it.are_nodes
            (subst (λ n. ListNodes (ItemNodes keyed V) n (count + length it.nodes) others more)
            onward_at
            (subst (λ n. ListNodes (ItemNodes keyed V) (offset_of_rest size onward) n others
            more) it.counts
            list)) refl refl in
            subst (λ l. ListNodes (ItemNodes keyed V) (offset_of_rest size bytes) index l
            ((so.text ++ (it.text ++ 44 ∷ [])) ++ more))
            (sym (append_assoc so.nodes it.nodes others))
            (subst (λ l. ListNodes (ItemNodes keyed V) (offset_of_rest size bytes) index
            (so.nodes ++ (it.nodes ++ others)) l)
            (simp append_assoc)
            (so.leads (it.nodes ++ others) (it.text ++ 44 ∷ more) on));
      }
        where
          onward_at : offset_of_rest size onward ≡ offset_of_rest size rest + length it.text + 1
          onward_at = omega (
            arith,
            room,
            long it.text ahead it.splits,
            ap (λ l. length l) e,
          )

      pub last_item : {onward : List ℕ} → ahead ≡ closing_bracket keyed ∷ onward
          → WritesNodes (ItemsNodes keyed V) size index bytes onward next old new
      last_item {onward} e = record {
        nodes = so.nodes ++ it.nodes;
        text = so.text ++ (it.text ++ closing_bracket keyed ∷ []);
        are_nodes = record {
          inside = so.text ++ it.text;
          are_items = so.leads it.nodes it.text
              (nodes_last (offset_of_rest size rest) count it.nodes it.text it.are_nodes);
          joins = sym (append_assoc so.text it.text (closing_bracket keyed ∷ []));
        };
        splits = text_all (closing_bracket keyed ∷ []) onward e;
        counts = omega (arith, it.counts, so.counts, length-append so.nodes it.nodes);
        few = omega (
          arith,
          it.few,
          so.few,
          length-append so.nodes it.nodes,
          length-append so.text (it.text ++ closing_bracket keyed ∷ []),
          length-append it.text (closing_bracket keyed ∷ []),
        );
        written = nodes_all;
      }

-- ---- after the opening bracket

module _ {P Q : NodesAt} {size index next : ℕ} {bytes rest : List ℕ} {old new : List JsonNode} where
  -- what has nodes by `P` has the same by `Q`
  pub writes_as : ((from i : ℕ) (nodes : List JsonNode) (text : List ℕ) → P from i nodes text
      → Q from i nodes text)
      → WritesNodes P size index bytes rest next old new
      → WritesNodes Q size index bytes rest next old new
  writes_as to it = record {
    nodes = it.nodes;
    text = it.text;
    are_nodes = to (offset_of_rest size bytes) index it.nodes it.text it.are_nodes;
    splits = it.splits;
    counts = it.counts;
    few = it.few;
    written = it.written;
  }

module _ (keyed : Bool) (V : NodesAt) (size index : ℕ) {bytes rest : List ℕ} where
  pub tail_empty : (old : List JsonNode) → RestAfter (IsEmptyTail keyed) NoByte bytes rest
      → WritesNodes (TailNodes keyed V) size index bytes rest index old old
  tail_empty old it =
      let is = it.stands.is in
      record {
        nodes = [];
        text = it.stands.text;
        are_nodes = record {
          inside = is.first;
          is_inside = inl (is.is_first, refl);
          joins = is.joins ∙ ap (λ l. is.first ++ l)
              (is.is_second.alone ∙ ap (λ b. b ∷ []) is.is_second.is_byte);
        };
        splits = it.stands.splits;
        counts = omega arith;
        few = omega arith;
        written = sym (overlay_none index old);
      }

  pub nested_writes : {kind next : ℕ} {inside : List ℕ} {old mid new : List JsonNode}
      → index + length bytes ≤ size → bytes ≡ opening_bracket keyed ∷ inside
      → kind ≡ nested_kind keyed
      → WritesNodes (TailNodes keyed V) size (index + 1) inside rest next old mid
      → new ≡ set mid index (record {
        kind = kind;
        start = size - length bytes;
        end = size - length rest;
        next = next;
      })
      → WritesNodes (NestedNodes keyed V) size index bytes rest next old new
  nested_writes {kind} {next} {inside} {old} {mid} room e is_kind it is =
      let text = opening_bracket keyed ∷ it.text in
      let splits = e ∙ ap (λ l. opening_bracket keyed ∷ l) it.splits in
      let it_is = node (nested_kind keyed) (offset_of_rest size bytes) text
      (index + 1 + length it.nodes) in
      record {
        nodes = it_is ∷ it.nodes;
        text = text;
        are_nodes = record {
          inner = it.nodes;
          inside = it.are_nodes.inside;
          is_inside = elim it.are_nodes.is_inside [
            | inl none ↦ inl none
            | inr items ↦ inr (subst (λ n. ListNodes (ItemNodes keyed V) n (index + 1) it.nodes
                it.are_nodes.inside) (omega (arith, room, ap (λ l. length l) e)) items)
          ];
          joins = ap (λ l. opening_bracket keyed ∷ l) it.are_nodes.joins;
          in_order = refl;
        };
        splits = splits;
        counts = it.counts ∙ omega arith;
        few = omega (arith, it.few);
        written = is
            ∙ ap (λ n. set mid index n)
            (ends_at size kind (offset_of_rest size bytes) next text rest
            (omega (arith, room)) splits refl
            ∙ ap (λ k. node k (offset_of_rest size bytes) text next) is_kind
            ∙ ap (λ n. node (nested_kind keyed) (offset_of_rest size bytes) text n) it.counts)
            ∙ set_overlay index it_is mid
            ∙ ap (λ l. overlay index (it_is ∷ []) l)
            (it.written ∙ ap (λ n. overlay n it.nodes old) (omega arith))
            ∙ overlay_before index it_is it.nodes old;
      }

-- ---- values

pub value_nested_writes : (below : ℕ) (keyed : Bool) {level : ℕ} {size index next : ℕ}
    {bytes rest : List ℕ} {old new : List JsonNode} → level ≡ suc below
    → WritesNodes (NestedNodes keyed (ValueNodes below)) size index bytes rest next old new
    → WritesNodes (ValueNodes level) size index bytes rest next old new
value_nested_writes below false {size = size} {index} {next} {bytes} {rest} {old} {new} e it =
    subst (λ n. WritesNodes (ValueNodes n) size index bytes rest next old new) (sym e)
    (writes_as (λ from i nodes text is. inr (inl is)) it)
value_nested_writes below true {size = size} {index} {next} {bytes} {rest} {old} {new} e it =
    subst (λ n. WritesNodes (ValueNodes n) size index bytes rest next old new) (sym e)
    (writes_as (λ from i nodes text is. inr (inr is)) it)

scalar_value : (level from index : ℕ) (nodes : List JsonNode) (text : List ℕ)
    → ScalarNodes from index nodes text → ValueNodes level from index nodes text
scalar_value zero from index nodes text is = is
scalar_value (suc level) from index nodes text is = inl is

pub value_scalar_writes : (level size index : ℕ) (bytes : List ℕ) (old new : List JsonNode)
    (result : Option (ℕ × Bor (List ℕ)))
    → IfSome result (λ r. WritesNodes ScalarNodes size index bytes r.1.now r.0 old new)
    → IfSome result (λ r. WritesNodes (ValueNodes level) size index bytes r.1.now r.0 old new)
value_scalar_writes level size index bytes old new None it = tt
value_scalar_writes level size index bytes old new (Some r) it = writes_as (scalar_value level) it

-- ---- rests

-- the rest after the longest text in `P`, in a pair
abbrev Skips : (List ℕ → Type 0) → (ℕ → Type 0) → List ℕ → Option (ℕ × Bor (List ℕ)) → Type 0
Skips P S bytes result =
    MatchOption result (NoMatchAtStart P bytes) (λ r. RestAfter P S bytes r.1.now)

pub items_skip : (keyed : Bool) (V : List ℕ → Type 0) (bytes : List ℕ)
    (result : Option (ℕ × Bor (List ℕ))) → NoMatchAtStart (IsEmptyTail keyed) bytes
    → Skips (IsItemsTail keyed V) NoByte bytes result
    → Skips (IsNestedTail keyed V) NoByte bytes result
items_skip keyed V bytes None none it = no_match_of_either none it
items_skip keyed V bytes (Some r) none it = rest_after_right none it

pub scalar_skip : (level : ℕ) (bytes : List ℕ) (result : Option (ℕ × Bor (List ℕ)))
    → ((keyed : Bool) (more : List ℕ) → bytes ≡ opening_bracket keyed ∷ more → ⊥)
    → Skips IsScalar (ExtendsNumberOf bytes) bytes result
    → Skips (IsValue level) (ExtendsNumberOf bytes) bytes result
scalar_skip level bytes None not it = value_scans level bytes None not it
scalar_skip level bytes (Some r) not it = value_scans level bytes (Some r.1) not it
