-- Where statements begin, line by line.
use Rattle.std.specs.Prelude.{◌≡◌, ◌<◌, ℕ, suc, Bool, true, false, List, length, Option}
use Rattle.std.specs.Prelude.{◌++◌, Some, None, is_some}
use Rattle.std.proofs.Common.{refl, sym, ap, subst, inl, inr, ◌∙◌, arith, length-append}
use Rattle.format_parts.specs.Unique.{run_unique}
use Rattle.format_toml.specs.Grammars.{AnyItem, Line, Newline, SpacedOut}
use Rattle.format_toml.specs.Starts.{HasStatement, IsLine, IsLineBefore, MatchesAtStart}
use Rattle.format_toml.specs.Starts.{StatementStarts}
use Rattle.format_toml.specs.Starts as starts
use Rattle.format_toml.specs.Unique.{line_unique, newline_takes, newline_unique}
use Rattle.format_toml_tree.specs.declared.value.Item.{Item}
use Rattle.grammars.specs.Grammar.{NoMatch, Optional, Three}
use Rattle.stream_sets.specs.AsChar.{IsSpace}

none_some : {X : Type 0} {x : X} → None ≡ Some x → ⊥
none_some e = cc

-- the number of a statement on a line, and behind a line with a statement or without one
abbrev pub IsNext : Bool → ℕ → ℕ → Type 0
IsNext true n m = n ≡ suc m
IsNext false n m = n ≡ m

module _ (A : Type 0) (level : ℕ) where
  one_line : (text a b : List ℕ) (o p : Option (Item A)) → Line level text o a
      → Line level text p b → a ≡ b
  one_line text a b o p x y = (line_unique {A = A} level).one text o p a b x y

  one_behind : (text a b : List ℕ) (o p : Option (Item A)) (end : List ℕ) → Line level text o end
      → MatchesAtStart Newline end a → IsLineBefore A level text p b → a ≡ b
  one_behind text a b o p end x (c, y) (other, z, (d, w)) =
      let same : other ≡ end = one_line text other end p o z x in
      newline_unique.one end c d a b y (subst (λ l. Newline l d b) same w)

  -- a line has a statement or none
  one_kind : (text a b : List ℕ) (item : Item A) → Line level text (Some item) a
      → Line {A = A} level text None b → ⊥
  unfolding Three Optional
  one_kind text a b item (o1, o2, o3, c, d, x, inr (none, not, f), z, e) y =
      none_some (sym none ∙ sym e)
  one_kind text a b item (o1, o2, o3, c, d, x, inl (i, some, m), z, e)
      (p1, p2, p3, g, h, u, inl (j, also, k), w, f) = none_some (f ∙ also)
  one_kind text a b item (o1, o2, o3, c, d, x, inl (i, some, m), z, e)
      (p1, p2, p3, g, h, u, inr (none, not, k), w, f) =
      let same : c ≡ g = (run_unique IsSpace 0).one text o1 p1 c g x u in
      subst (λ l. NoMatch (SpacedOut (AnyItem {A = A} level)) l) (sym same) not i d m

  -- whether a line has a statement
  pub line_told : (text end : List ℕ) (o : Option (Item A)) → Line level text o end
      → IsLine A level text (is_some o) end
  line_told text end None x = x
  line_told text end (Some item) x = (item, x)

  has_line : (text end : List ℕ) → IsLine A level text true end → HasStatement A level text
  has_line text end (item, x) = (item, end, x)

  module _ (text end behind : List ℕ) (ends : MatchesAtStart Newline end behind) where
    pub step_there : (b : Bool) (n m : ℕ) (line : List ℕ) → IsLine A level text b end
        → IsNext b n m → StatementStarts A level m behind line → StatementStarts A level n text line
    step_there true n m line (item, x) e s =
        subst (λ k. StatementStarts A level k text line) (sym e)
        (starts.past_one item (end, x, ends) s)
    step_there false n m line x e s =
        subst (λ k. StatementStarts A level k text line) (sym e)
        (starts.past_none (end, x, ends) s)

    one_back : (m : ℕ) (line : List ℕ) (item : Item A) → Line level text (Some item) end
        → StatementStarts A level (suc m) text line → StatementStarts A level m behind line
    one_back m line item x (starts.past_none (other, z, w) s) =
        absurd (one_kind text end other item x z)
    one_back m line item x (starts.past_one {behind = later} i is s) =
        subst (λ l. StatementStarts A level m l line)
        (sym (one_behind text behind later (Some item) (Some i) end x ends is)) s

    none_back : (m : ℕ) (line : List ℕ) → Line {A = A} level text None end
        → StatementStarts A level m text line → StatementStarts A level m behind line
    none_back m line x (starts.here (item, other, z)) = absurd (one_kind text other end item z x)
    none_back m line x (starts.past_none {behind = later} is s) =
        subst (λ l. StatementStarts A level m l line)
        (sym (one_behind text behind later None None end x ends is)) s
    none_back m line x (starts.past_one i (other, z, w) s) =
        absurd (one_kind text other end i z x)

    pub step_back : (b : Bool) (n m : ℕ) (line : List ℕ) → IsLine A level text b end
        → IsNext b n m → StatementStarts A level n text line → StatementStarts A level m behind line
    step_back true n m line (item, x) e s =
        one_back m line item x (subst (λ k. StatementStarts A level k text line) e s)
    step_back false n m line x e s =
        none_back m line x (subst (λ k. StatementStarts A level k text line) e s)

    pub step_less : (b : Bool) → IsLine A level text b end → length behind < length text
    step_less b x =
        let (front, e) = ends_line b x in
        let less = newline_takes.fewer end ends.0 behind ends.1 in
        omega (arith, less, ap (λ l. length l) e, length-append front end)
      where
        ends_line : (b : Bool) → IsLine A level text b end
            → (front : List ℕ) × (text ≡ front ++ end)
        ends_line true (item, x) = (line_unique {A = A} level).ends text (Some item) end x
        ends_line false x = (line_unique {A = A} level).ends text None end x

  -- the statement is on this line
  pub starts_here : (text end : List ℕ) (b : Bool) (n : ℕ) → b ≡ true → n ≡ 0
      → IsLine A level text b end → StatementStarts A level n text text
  starts_here text end b n is none x =
      subst (λ k. StatementStarts A level k text text) (sym none)
      (starts.here (has_line text end (subst (λ c. IsLine A level text c end) is x)))

  -- after the last line there is none
  pub none_starts : (text end : List ℕ) (b : Bool) (n : ℕ) (line : List ℕ)
      → IsLine A level text b end → (b ≡ true → n ≡ 0 → ⊥) → NoMatch Newline end
      → StatementStarts A level n text line → ⊥
  none_starts text end true n line (item, x) later none (starts.here has) = later refl refl
  none_starts text end false n line x later none (starts.here (item, other, z)) =
      one_kind text other end item z x
  none_starts text end true n line (item, x) later none
      (starts.past_none {behind = behind} (other, z, (d, w)) s) =
      one_kind text end other item x z
  none_starts text end false n line x later none
      (starts.past_none {behind = behind} (other, z, (d, w)) s) =
      none d behind (subst (λ l. Newline l d behind) (one_line text other end None None z x) w)
  none_starts text end true n line (item, x) later none
      (starts.past_one {behind = behind} i (other, z, (d, w)) s) =
      none d behind
      (subst (λ l. Newline l d behind) (one_line text other end (Some i) (Some item) z x) w)
  none_starts text end false n line x later none (starts.past_one i (other, z, (d, w)) s) =
      one_kind text other end i z x
