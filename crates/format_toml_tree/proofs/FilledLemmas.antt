-- Values fill the tree below places.
use Rattle.std.specs.Prelude.{◌≡◌, ℕ, zero, suc, List, [], ◌∷◌, Result, Ok, Err, string_bytes}
use Rattle.std.specs.declared.string.String.{String}
use Rattle.std.proofs.Common.{refl, sym, ap, subst, inl, inr, ◌∙◌}
use Rattle.format_toml_tree.specs.Paths.{Path, named, put, put_cases}
use Rattle.format_toml_tree.specs.Rules.{Node, Says, ruled, nothing, valued, super, header, dotted}
use Rattle.format_toml_tree.specs.Rules.{tables, passes, defines, adds, dots, gives}
use Rattle.format_toml_tree.specs.Runs.{State, Tree, entered, opened, say, say_key, then}
use Rattle.format_toml_tree.specs.Holds.{Keeps}
use Rattle.format_toml_tree.specs.declared.roles.Reason.{Reason}
use Rattle.format_toml_tree.specs.declared.value.Value.{Value}

module _ {A : Type 0} where
  -- ---- values stay

  pub keeps_put : (tree : Tree A) (q : Path) (n : Node A)
      → ((v : Value A) → tree q ≡ valued v → n ≡ valued v) → Keeps tree (put tree q n)
  keeps_put tree q n more p v e = elim (put_cases tree q n p) [
    | inl (same, f) ↦ f ∙ more v (ap tree (sym same) ∙ e)
    | inr f ↦ f ∙ e
  ]

  pub keeps_then : {a b c : Tree A} → Keeps a b → Keeps b c → Keeps a c
  keeps_then first next p v e = next p v (first p v e)

  pub no_value : (v : Value A) → nothing ≡ valued v → ⊥
  no_value v e = cc

  rule_keeps : (says : Says A) (node next : Node A) → ruled says node ≡ Ok next
      → (v : Value A) → node ≡ valued v → next ≡ valued v
  rule_keeps passes node next e v f = absurd (cc)
  rule_keeps defines node next e v f = absurd (cc)
  rule_keeps adds node next e v f = absurd (cc)
  rule_keeps dots node next e v f = absurd (cc)
  rule_keeps (gives w) node next e v f = absurd (cc)

  entered_tree : (node : Node A) (tree : Tree A) (q : Path) → (entered node tree q).0 ≡ tree
  entered_tree nothing tree q = refl
  entered_tree (valued v) tree q = refl
  entered_tree super tree q = refl
  entered_tree header tree q = refl
  entered_tree dotted tree q = refl
  entered_tree (tables zero) tree q = refl
  entered_tree (tables (suc n)) tree q = refl

  -- such a name has its tree where it is put
  tree_of : (says : Says A) → (says ≡ adds → ⊥) → (node : Node A) (tree : Tree A) (q : Path)
      → (opened says node tree q).0 ≡ tree
  tree_of passes apart node tree q = entered_tree node tree q
  tree_of defines apart node tree q = entered_tree node tree q
  tree_of adds apart node tree q = absurd (apart refl)
  tree_of dots apart node tree q = entered_tree node tree q
  tree_of (gives v) apart node tree q = entered_tree node tree q

  say_keeps : (says : Says A) → (says ≡ adds → ⊥) → (s t : State A) (text : List ℕ)
      → say says s text ≡ Ok t → Keeps s.0 t.0
  say_keeps says apart s t text e =
      by (ruled says (s.0 (named text ∷ s.1))) refl
    where
      by : (r : Result (Node A) Reason) → ruled says (s.0 (named text ∷ s.1)) ≡ r → Keeps s.0 t.0
      by (Err why) f =
          let bad = sym (ap (λ r. then r (λ node. Ok (opened says node
          (put s.0 (named text ∷ s.1) node) (named text ∷ s.1)))) f) ∙ e in absurd (cc)
      by (Ok node) f =
          let q : Path = named text ∷ s.1 in
          let same : Ok (opened says node (put s.0 q node) q) ≡ Ok t =
          sym (ap (λ r. then r (λ n. Ok (opened says n (put s.0 q n) q))) f) ∙ e in
          let tree : put s.0 q node ≡ t.0 =
          let end : opened says node (put s.0 q node) q ≡ t = cc same in
          sym (tree_of says apart node (put s.0 q node) q) ∙ ap (λ r. r.0) end in
          subst (λ n. Keeps s.0 n) tree
          (keeps_put s.0 q node (rule_keeps says (s.0 q) node f))

  pub key_keeps : (v : Value A) (s t : State A) (names : List (String A))
      → say_key dots (gives v) s names ≡ Ok t → Keeps s.0 t.0
  key_keeps v s t [] e =
      let same : s ≡ t = cc in subst (λ u. Keeps s.0 u.0) same (λ p w f. f)
  key_keeps v s t (text ∷ []) e =
      say_keeps (gives v) (λ (f : gives v ≡ adds). cc) s t (string_bytes text) e
  key_keeps v s t (text ∷ next ∷ names) e =
      by (say dots s (string_bytes text)) refl (λ u. key_keeps v u t (next ∷ names))
    where
      by : (r : Result (State A) Reason) → say dots s (string_bytes text) ≡ r
          → ((u : State A) → say_key dots (gives v) u (next ∷ names) ≡ Ok t → Keeps u.0 t.0)
          → Keeps s.0 t.0
      by (Err why) f others =
          let bad = sym (ap (λ r. then r (λ u. say_key dots (gives v) u (next ∷ names))) f) ∙ e in
          absurd (cc)
      by (Ok u) f others =
          keeps_then (say_keeps dots (λ (f : dots ≡ adds). cc) s u (string_bytes text) f)
          (others u
          (sym (ap (λ r. then r (λ w. say_key dots (gives v) w (next ∷ names))) f) ∙ e))
