-- Lemmas about the nodes of texts that follow each other, and how they are written.
use Rattle.std.proofs.Common.{◌++◌, ◌+◌, ◌-◌, ◌∙◌, ◌∷◌, ◌≡◌, ◌≤◌, [], ℕ, Bool, List, ap}
use Rattle.std.proofs.Common.{append_assoc, arith, false, length, length-append, refl, set, subst}
use Rattle.std.proofs.Common.{sym, true}
use Rattle.format_json_extents.proofs.Matching.{start_less}
use Rattle.format_json_extents.proofs.Scalars.{scalar_starts}
use Rattle.format_json_extents.specs.Strings.{IsString}
use Rattle.format_json_extents.specs.Texts.{NoByte, RestAfter}
use Rattle.format_json_extents.specs.Value.{ExtendsNumberOf, IsScalar, IsWhitespace}
use Rattle.format_json_extents.specs.Value.{IsWhitespaceByte}
use Rattle.format_json_extents.proofs.NodeOverlay.{overlay_then, set_overlay}
use Rattle.format_json_extents.specs.Nodes.{ElementNodes, IsScalarOf, ItemNodes, NodesAt}
use Rattle.format_json_extents.specs.Nodes.{ScalarNodes}
use Rattle.format_json_extents.specs.Nodes.{node}
use Rattle.format_json_extents.specs.NodeWriting.{WritesKey, WritesName, WritesNodes}
use Rattle.format_json_extents.specs.NodeWriting.{offset_of_rest, overlay}
use Rattle.format_json_extents.specs.declared.node.JsonNode.{JsonNode}

-- the length of two texts
pub long : {bytes : List ℕ} (front rest : List ℕ) → bytes ≡ front ++ rest
    → length bytes ≡ length front + length rest
long front rest e = ap (λ l. length l) e ∙ length-append front rest

-- the offset after a text
at_rest : (size : ℕ) {bytes : List ℕ} (front rest : List ℕ) → length bytes ≤ size
    → bytes ≡ front ++ rest → offset_of_rest size rest ≡ offset_of_rest size bytes + length front
at_rest size front rest few e = omega (arith, few, long front rest e)

-- a node as it is made, with the offset after its text
pub ends_at : (size kind start next : ℕ) {bytes : List ℕ} (text rest : List ℕ)
    → length bytes ≤ size → bytes ≡ text ++ rest → start ≡ offset_of_rest size bytes
    → record { kind = kind; start = start; end = offset_of_rest size rest; next = next }
    ≡ node kind start text next
ends_at size kind start next text rest few e is =
    ap (λ n. record { kind = kind; start = start; end = n; next = next })
    (at_rest size text rest few e ∙ ap (λ n. n + length text) (sym is))

-- ---- one node

module _ (size index : ℕ) {bytes rest : List ℕ} (few : index + length bytes ≤ size) where
  pub scalar_writes : (kind : ℕ) {old new : List JsonNode}
      → ((text more : List ℕ) → IsScalar text → bytes ≡ text ++ more → IsScalarOf kind text)
      → RestAfter IsScalar (ExtendsNumberOf bytes) bytes rest
      → new ≡ set old index (record {
        kind = kind;
        start = size - length bytes;
        end = size - length rest;
        next = index + 1;
      })
      → WritesNodes ScalarNodes size index bytes rest (index + 1) old new
  scalar_writes kind {old} of it is =
      let text = it.stands.text in
      let splits = it.stands.splits in
      record {
        nodes = node kind (offset_of_rest size bytes) text (index + 1) ∷ [];
        text = text;
        are_nodes = record {
          kind = kind;
          is_scalar = of text rest it.stands.is splits;
          alone = refl;
        };
        splits = splits;
        counts = refl;
        few = omega (arith, start_less scalar_starts it.stands, long text rest splits);
        written = is
            ∙ ap (λ n. set old index n)
            (ends_at size kind (offset_of_rest size bytes) (index + 1) text rest
            (omega (arith, few)) splits refl)
            ∙ set_overlay index (node kind (offset_of_rest size bytes) text (index + 1)) old;
      }

  pub name_writes : {start end after : List ℕ} {old new : List JsonNode}
      → RestAfter IsWhitespace IsWhitespaceByte bytes start → RestAfter IsString NoByte start end
      → RestAfter IsWhitespace IsWhitespaceByte end after → after ≡ 58 ∷ rest
      → new ≡ set old index (record {
        kind = 7;
        start = size - length start;
        end = size - length end;
        next = index + 1;
      })
      → WritesName size index bytes rest (index + 1) old new
  name_writes {start} {end} {after} {old} gap name space colon is =
      let front = gap.stands.text in
      let text = name.stands.text in
      let behind = space.stands.text in
      let all = gap.stands.splits in
      let from = at_rest size front start (omega (arith, few)) all in
      record {
        before = front;
        name = text;
        after = behind;
        is_before = gap.stands.is;
        is_name = name.stands.is;
        is_after = space.stands.is;
        splits = simp (all, name.stands.splits, space.stands.splits, colon, append_assoc);
        counts = refl;
        written = is
            ∙ ap (λ n. set old index n)
            (ends_at size 7 (offset_of_rest size start) (index + 1) text end
            (omega (arith, few, long front start all)) name.stands.splits refl
            ∙ ap (λ n. node 7 n text (index + 1)) from);
      }

-- ---- elements and items

module _ (V : NodesAt) (size index : ℕ) {bytes rest : List ℕ} (few : length bytes ≤ size) where
  pub element_writes : {start end : List ℕ} {next : ℕ} {old new : List JsonNode}
      → RestAfter IsWhitespace IsWhitespaceByte bytes start
      → WritesNodes V size index start end next old new
      → RestAfter IsWhitespace IsWhitespaceByte end rest
      → WritesNodes (ElementNodes V) size index bytes rest next old new
  element_writes {start} {end} gap it space =
      let front = gap.stands.text in
      let behind = space.stands.text in
      let all = gap.stands.splits in
      record {
        nodes = it.nodes;
        text = front ++ (it.text ++ behind);
        are_nodes = record {
          before = front;
          value = it.text;
          after = behind;
          is_before = gap.stands.is;
          is_value = subst (λ n. V n index it.nodes it.text) (at_rest size front start few all)
              it.are_nodes;
          is_after = space.stands.is;
          joins = refl;
        };
        splits = simp (all, it.splits, space.stands.splits, append_assoc);
        counts = it.counts;
        few = omega (
          arith,
          it.few,
          length-append front (it.text ++ behind),
          length-append it.text behind,
        );
        written = it.written;
      }

  pub item_writes : (keyed : Bool) {named : List ℕ} {first next : ℕ} {old mid new : List JsonNode}
      → WritesKey keyed size index bytes named first old mid
      → WritesNodes (ElementNodes V) size first named rest next mid new
      → WritesNodes (ItemNodes keyed V) size index bytes rest next old new
  item_writes false {named} {old = old} {mid} (here, same, still) it = record {
    nodes = it.nodes;
    text = it.text;
    are_nodes = subst (λ n. ElementNodes V n index it.nodes it.text)
        (ap (λ l. offset_of_rest size l) here)
        (subst (λ n. ElementNodes V (offset_of_rest size named) n it.nodes it.text) same
        it.are_nodes);
    splits = sym here ∙ it.splits;
    counts = it.counts ∙ ap (λ n. n + length it.nodes) same;
    few = it.few;
    written = it.written ∙ ap (λ n. overlay n it.nodes mid) same
        ∙ ap (λ l. overlay index it.nodes l) still;
  }
  item_writes true {named} {first} {old = old} {mid} key it =
      let front = key.before ++ (key.name ++ key.after) in
      let it_is = node 7 (offset_of_rest size bytes + length key.before) key.name (index + 1) in
      record {
        nodes = it_is ∷ it.nodes;
        text = front ++ 58 ∷ it.text;
        are_nodes = record {
          before = key.before;
          name = key.name;
          after = key.after;
          element = it.text;
          others = it.nodes;
          is_before = key.is_before;
          is_name = key.is_name;
          is_after = key.is_after;
          is_element = subst (λ n. ElementNodes V n (index + 1) it.nodes it.text)
              (omega (arith, few, long front (58 ∷ named) key.splits))
              (subst (λ n. ElementNodes V (offset_of_rest size named) n it.nodes it.text) key.counts
              it.are_nodes);
          joins = refl;
          in_order = refl;
        };
        splits = simp (key.splits, it.splits, append_assoc);
        counts = omega (arith, it.counts, key.counts);
        few = omega (arith, it.few, length-append front (58 ∷ it.text));
        written = it.written
            ∙ ap (λ l. overlay first it.nodes l) (key.written ∙ set_overlay index it_is old)
            ∙ overlay_then index first (it_is ∷ []) it.nodes old key.counts;
      }

key_less : (keyed : Bool) (size index : ℕ) (bytes named : List ℕ) (first : ℕ)
    (old new : List JsonNode) → WritesKey keyed size index bytes named first old new
    → length named ≤ length bytes
key_less true size index bytes named first old new key =
    let front = key.before ++ (key.name ++ key.after) in
    omega (arith, long front (58 ∷ named) key.splits)
key_less false size index bytes named first old new (here, same, still) =
    omega (arith, ap (λ l. length l) here)

pub item_written : (keyed : Bool) (V : NodesAt) (size index : ℕ)
    {bytes named start item ahead : List ℕ} {first next : ℕ} {old mid new : List JsonNode}
    → length bytes ≤ size → WritesKey keyed size index bytes named first old mid
    → RestAfter IsWhitespace IsWhitespaceByte named start
    → WritesNodes V size first start item next mid new
    → RestAfter IsWhitespace IsWhitespaceByte item ahead
    → WritesNodes (ItemNodes keyed V) size index bytes ahead next old new
item_written keyed V size index {bytes} {named} {first = first} {old = old} {mid} few key gap it
    space =
    let less = key_less keyed size index bytes named first old mid key in
    item_writes V size index few keyed key
    (element_writes V size first (omega (arith, few, less)) gap it space)
