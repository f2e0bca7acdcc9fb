-- Lemmas about nodes that are written into a buffer.
use Rattle.std.proofs.Common.{◌++◌, ◌+◌, ◌∙◌, ◌∷◌, ◌≡◌, [], ℕ, List, ap, arith, drop, length, refl}
use Rattle.std.proofs.Common.{set, suc, sym, take, zero}
use Rattle.format_json_extents.specs.NodeWriting.{overlay}
use Rattle.format_json_extents.specs.declared.node.JsonNode.{JsonNode}

pub overlay_none : (i : ℕ) (old : List JsonNode) → overlay i [] old ≡ old
overlay_none i [] = refl
overlay_none zero (x ∷ old) = refl
overlay_none (suc i) (x ∷ old) = ap (λ l. x ∷ l) (overlay_none i old)

pub set_overlay : (i : ℕ) (n : JsonNode) (old : List JsonNode)
    → set old i n ≡ overlay i (n ∷ []) old
set_overlay i n [] = refl
set_overlay zero n (x ∷ old) = ap (λ l. n ∷ l) (sym (overlay_none zero old))
set_overlay (suc i) n (x ∷ old) = ap (λ l. x ∷ l) (set_overlay i n old)

overlay_on : (first others old : List JsonNode)
    → overlay (length first) others (overlay zero first old) ≡ overlay zero (first ++ others) old
overlay_on first others [] = refl
overlay_on [] others (x ∷ old) = refl
overlay_on (n ∷ first) others (x ∷ old) = ap (λ l. n ∷ l) (overlay_on first others old)

pub overlay_then : (i j : ℕ) (first others old : List JsonNode) → j ≡ i + length first
    → overlay j others (overlay i first old) ≡ overlay i (first ++ others) old
overlay_then i j first others [] e = refl
overlay_then zero j first others (x ∷ old) e =
    let same : j ≡ length first = omega (arith, e) in
    ap (λ k. overlay k others (overlay zero first (x ∷ old))) same
    ∙ overlay_on first others (x ∷ old)
overlay_then (suc i) zero first others (x ∷ old) e = absurd (omega (arith, e))
overlay_then (suc i) (suc j) first others (x ∷ old) e =
    ap (λ l. x ∷ l) (overlay_then i j first others old (omega (arith, e)))

pub overlay_before : (i : ℕ) (n : JsonNode) (others old : List JsonNode)
    → overlay i (n ∷ []) (overlay (suc i) others old) ≡ overlay i (n ∷ others) old
overlay_before i n others [] = refl
overlay_before zero n others (x ∷ old) =
    ap (λ l. n ∷ l) (overlay_none zero (overlay zero others old))
overlay_before (suc i) n others (x ∷ old) =
    ap (λ l. x ∷ l) (overlay_before i n others old)

-- all nodes from the start of the buffer on
pub overlay_all : (nodes old : List JsonNode)
    → overlay zero nodes old ≡ take (length old) nodes ++ drop (length nodes) old
overlay_all [] [] = refl
overlay_all (n ∷ nodes) [] = refl
overlay_all [] (x ∷ old) = refl
overlay_all (n ∷ nodes) (x ∷ old) = ap (λ l. n ∷ l) (overlay_all nodes old)
