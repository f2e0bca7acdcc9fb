-- Lemmas about the nodes of a whole text.
use Rattle.std.proofs.Common.{◌++◌, ◌==◌, ◌∙◌, ◌≡◌, ℕ, Bool, List, ap, arith, drop, false, length}
use Rattle.std.proofs.Common.{subst, sym, take, true}
use Rattle.std.proofs.lemmas.Bool.{eqb-true}
use Rattle.std.proofs.lemmas.List.{append-nil, nil_from_length}
use Rattle.format_json_extents.proofs.Scanning.{refuted_by_test, whole_if_rest_empty}
use Rattle.format_json_extents.specs.Texts.{RestAfter}
use Rattle.format_json_extents.specs.Value.{IsWhitespace, IsWhitespaceByte}
use Rattle.format_json_extents.proofs.NodeOverlay.{overlay_all}
use Rattle.format_json_extents.proofs.NodeWriting.{element_writes}
use Rattle.format_json_extents.specs.Nodes.{ElementNodes, HasNodes, NodesOfText, ValueNodes}
use Rattle.format_json_extents.specs.NodeWriting.{WritesNodes, offset_of_rest}
use Rattle.format_json_extents.specs.declared.node.JsonNode.{JsonNode}

module _ {P : List ℕ → Type 0} {S : ℕ → Type 0} {bytes rest : List ℕ} (empty : Bool)
    (it : RestAfter P S bytes rest) (e : empty ≡ (length rest == 0)) where
  pub is_whole : empty ≡ true → P bytes
  is_whole holds = (whole_if_rest_empty empty it e).0 holds

  pub not_whole : empty ≡ false → P bytes → ⊥
  not_whole fails is = refuted_by_test (whole_if_rest_empty empty it e) fails is

pub whole_nodes : (level : ℕ) {text start item rest : List ℕ} {count : ℕ}
    {old new : List JsonNode} (empty : Bool) → RestAfter IsWhitespace IsWhitespaceByte text start
    → WritesNodes (ValueNodes level) (length text) 0 start item count old new
    → RestAfter IsWhitespace IsWhitespaceByte item rest → empty ≡ (length rest == 0) → empty ≡ true
    → HasNodes level text count old new
whole_nodes level {text} {rest = rest} {old = old} empty gap value space e holds =
    let it = element_writes (ValueNodes level) (length text) 0 (omega arith) gap value space in
    let none = nil_from_length rest (eqb-true (length rest) 0 (sym e ∙ holds)) in
    let all : text ≡ it.text =
    it.splits ∙ ap (λ l. it.text ++ l) none ∙ append-nil it.text in
    let zero_at : offset_of_rest (length text) text ≡ 0 = omega arith in
    record {
      nodes = it.nodes;
      are_nodes = subst (λ l. NodesOfText level it.nodes l) (sym all)
          (subst (λ n. ElementNodes (ValueNodes level) n 0 it.nodes it.text) zero_at it.are_nodes);
      counts = it.counts ∙ omega arith;
      written = it.written ∙ overlay_all it.nodes old
          ∙ ap (λ n. take (length old) it.nodes ++ drop n old) (sym (it.counts ∙ omega arith));
    }
