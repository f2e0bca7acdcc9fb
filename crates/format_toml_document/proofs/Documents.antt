-- The walk over values, lines and documents.
use Rattle.std.specs.Prelude.{◌≡◌, ◌<◌, ◌≤◌, ◌+◌, ⊤, ℕ, zero, suc, true, false, List, ◌∷◌, length}
use Rattle.std.specs.Prelude.{◌++◌, ◌==◌, Option, [], if◌then◌else◌}
use Rattle.std.proofs.Common.{inl, inr, arith, ◌∙◌, ap, refl, subst}
use Rattle.std.proofs.lemmas.Bool.Decides.{nat_tests}
use Rattle.std.specs.declared.vec.Vec.{Vec}
use Rattle.std.proofs.lemmas.List.{append-nil}
use Rattle.grammars.specs.Texts.{InFront, Text}
use Rattle.grammars.specs.Texts.Fronts.{both_front, each_front, either_front, front_behind}
use Rattle.grammars.specs.Texts.Fronts.{front_whole, gathered_front, in_list_front}
use Rattle.format_parts.specs.Words.{for_front, former, latter, pair}
use Rattle.format_toml.specs.Toml.{ArrayText, CommentText, GapText, Gapped, InlineText, IsArray}
use Rattle.format_toml.specs.Toml.{IsBoolean, Spaced, IsInline, IsShown, IsText, PairText, IsBare}
use Rattle.format_toml.specs.Toml.{ScalarText, ValueText, WideMarkText, false_word, true_word}
use Rattle.format_toml.specs.Toml.{DocumentText, HasStatements, IsEntry, IsTable, IsTables}
use Rattle.format_toml.specs.Toml.{ItemText, LineText}
use Rattle.format_toml.specs.Toml.{TableText}
use Rattle.format_toml_errors.specs.Accepted.{by, viable_front}
use Rattle.format_toml_errors.specs.Stop.{At, IsAccepted, MayBegin}
use Rattle.format_toml_errors.specs.Steps.{comment_step, name_step, next_step, else_line, in_line}
use Rattle.format_toml_errors.specs.Unclosed.{last_open}
use Rattle.format_toml_errors.specs.declared.modes.Bracket.{Bracket}
use Rattle.format_toml_errors.specs.declared.modes.Bracket.TheVariants.{Array, Table}
use Rattle.format_toml_errors.specs.declared.modes.Gap.{Gap}
use Rattle.format_toml_errors.specs.declared.modes.Mode.{Mode}
use Rattle.format_toml_errors.specs.declared.modes.Owner.{Owner}
use Rattle.format_toml_tree.specs.declared.value.Value.{Value}
use Rattle.format_toml_tree.specs.declared.value.Item.{Item}
use Rattle.format_toml_errors.specs.declared.modes.Gap.TheVariants as gaps
use Rattle.format_toml_errors.specs.declared.modes.Mode.TheVariants as modes
use Rattle.format_toml_errors.specs.declared.modes.Owner.TheVariants as owners
use Rattle.format_toml_errors.specs.declared.modes.Step.TheVariants as steps
use Rattle.format_toml_document.proofs.Walks.{any_front, left_out, members_front, newline_front}
use Rattle.format_toml_document.proofs.Walks.{one_front, some_front, space_by, spelled_front}
use Rattle.format_toml_document.proofs.Walks.{token_front, ws_front, Started}
use Rattle.format_toml_document.proofs.Long.{any_basic_front, any_literal_front, BeginsName}
use Rattle.format_toml_document.proofs.Long.{BehindName, key_front, later_begins}
use Rattle.format_toml_document.proofs.Plain.{plain_at, plain_made}

comment_goes : (gap : Gap) (c : ℕ) → IsShown c
    → comment_step gap c ≡ steps.Goes (modes.Comment gap)
comment_goes gap c is = grind (arith, nat_tests, is)

first_begins : (held : List Bracket) (c : ℕ) → BeginsName c
    → next_step modes.FirstName (last_open held) c ≡ name_step owners.Member c
first_begins held c is = grind (arith, nat_tests, is)

module _ (level : ℕ) where
  -- a comment, where it may begin, before the end of its line
  pub comment_front : (held : List Bracket) (gap : Gap) {behind whole : List ℕ → Type 0}
      → ((l : List ℕ) → behind l → At level (modes.Comment gap) held l)
      → ((l : List ℕ) → At level (modes.Comment gap) held l → whole (35 ∷ l))
      → InFront CommentText behind whole
  comment_front held gap ends opens =
      both_front latter (one_front 35 opens) (front_behind ends (members_front
      (λ c l is x. by level held l (comment_goes gap c is) x) 0))

  -- whitespace, lines and comments in an array
  gap_front : (held : List Bracket) (gap : Gap) (mode : Mode)
      → ((l : List ℕ) → At level mode held l → At level mode held (32 ∷ l))
      → ((l : List ℕ) → At level mode held l → At level mode held (9 ∷ l))
      → ((l : List ℕ) → At level mode held l
      → At level mode held (10 ∷ l) × At level (modes.Comment gap) held (10 ∷ l))
      → ((l : List ℕ) → At level mode held l
      → At level mode held (13 ∷ 10 ∷ l) × At level (modes.Comment gap) held (13 ∷ 10 ∷ l))
      → ((l : List ℕ) → At level (modes.Comment gap) held l → At level mode held (35 ∷ l))
      → InFront GapText (λ l. At level mode held l) (λ l. At level mode held l)
  gap_front held gap mode space tab feed return opens =
      gathered_front (λ all parts. ⊤) (each_front (either_front
      (token_front (λ c l is x.
      space_by (λ b. At level mode held (b ∷ l)) (space l x) (tab l x) c is))
      (both_front latter
      (left_out {behind = λ l. At level mode held l × At level (modes.Comment gap) held l}
      (λ l x. x.0) (comment_front held gap (λ l x. x.1) opens))
      (newline_front feed return))))

  -- a key, an equals sign and a value
  pub pair_front : {A : Type 0} {value : Text ℕ (Value A)} (held : List Bracket) (owner : Owner)
      (mode : Mode)
      → ((c : ℕ) → BeginsName c → next_step mode (last_open held) c ≡ name_step owner c)
      → ((l : List ℕ) → At level modes.Value held l → BehindName level held owner (61 ∷ l))
      → InFront value (λ l. At level modes.After held l) (Started level held)
      → InFront (PairText value) (λ l. At level modes.After held l) (λ l. At level mode held l)
  pair_front held owner mode begins equals front =
      both_front pair (key_front level held owner mode begins)
      (both_front latter
      (both_front pair (one_front {behind = λ l. At level modes.Value held l} 61 equals)
      (ws_front {tokens = λ l. At level modes.Value held l} (λ l x. x) (λ l x. x)))
      (front_whole (λ l x. x.0) front))

  module _ (held : List Bracket) where
    abbrev Behind : List ℕ → Type 0
    Behind l = At level modes.After held l

    scalar_front : {A : Type 0} → InFront (ScalarText {A = A}) Behind (Started level held)
    scalar_front =
        either_front (for_front IsText (any_basic_front level held))
        (either_front (for_front IsText (any_literal_front level held))
        (either_front (for_front IsBoolean (spelled_front true_word true (λ l x. (x, x))))
        (either_front (for_front IsBoolean (spelled_front false_word false (λ l x. (x, x))))
        (record {
          makes = λ v xs l text x. plain_at level held xs l (plain_made v xs text) x;
        }))))

    -- in an array or an inline table
    abbrev Element : List ℕ → Type 0
    Element l = At level modes.Item (Array ∷ held) l

    abbrev Listed : List ℕ → Type 0
    Listed l = At level modes.After (Array ∷ held) l

    abbrev First : List ℕ → Type 0
    First l = At level modes.FirstName (Table ∷ held) l

    abbrev Name : List ℕ → Type 0
    Name l = At level (modes.Name owners.Member) (Table ∷ held) l

    abbrev Paired : List ℕ → Type 0
    Paired l = At level modes.After (Table ∷ held) l

    element_gap : InFront GapText Element Element
    element_gap =
        gap_front (Array ∷ held) gaps.Item modes.Item (λ l x. x) (λ l x. x) (λ l x. (x, x))
        (λ l x. (x, x)) (λ l x. x)

    listed_gap : InFront GapText Listed Listed
    listed_gap =
        gap_front (Array ∷ held) gaps.After modes.After (λ l x. x) (λ l x. x) (λ l x. (x, x))
        (λ l x. (x, x)) (λ l x. x)

    array_comma : InFront (WideMarkText 44) Element Listed
    array_comma = both_front pair (one_front {behind = Element} 44 (λ l x. x)) element_gap

    module _ {A : Type 0} {value : Text ℕ (Value A)} (few : length held < level) where
      array_front : InFront value Listed (Started level (Array ∷ held))
          → InFront (ArrayText value) Behind (Started level held)
      array_front front =
          let element : InFront (Gapped value) Listed Element =
          both_front former (front_whole (λ l x. x.1) front) listed_gap in
          both_front latter
          (both_front pair (one_front {behind = Element} 91 (λ l x. ((few, x), (few, x))))
          element_gap)
          (both_front former
          (left_out {behind = λ l. Listed l × Element l} (λ l x. x.1) (both_front former
          (in_list_front (some_front array_comma element element))
          (left_out (λ l x. x.0) (front_behind (λ l x. x.1) array_comma))))
          (one_front 93 (λ l x. (x, x))))

      member : InFront value Paired (Started level (Table ∷ held)) → (mode : Mode)
          → ((c : ℕ) → BeginsName c
          → next_step mode (last_open (Table ∷ held)) c ≡ name_step owners.Member c)
          → InFront (Spaced (PairText value)) Paired (λ l. At level mode (Table ∷ held) l)
      member front mode begins =
          both_front former
          (pair_front (Table ∷ held) owners.Member mode begins (λ l x. (x, x)) front)
          (ws_front {tokens = Paired} (λ l x. x) (λ l x. x))

      inline_front : InFront value Paired (Started level (Table ∷ held))
          → InFront (InlineText value) Behind (Started level held)
      inline_front front =
          both_front latter
          (both_front pair (one_front {behind = First} 123 (λ l x. ((few, x), (few, x))))
          (ws_front {tokens = First} (λ l x. x) (λ l x. x)))
          (both_front former (in_list_front (any_front
          (both_front pair (one_front {behind = Name} 44 (λ l x. x))
          (ws_front {tokens = Name} (λ l x. x) (λ l x. x)))
          (member front modes.FirstName (first_begins (Table ∷ held)))
          (member front (modes.Name owners.Member)
          (later_begins level (Table ∷ held) owners.Member))
          {last = λ l. Paired l × First l} (λ l x. x.0) (λ l x. x.1)))
          (one_front 125 (λ l x. (x, x))))

  pub value_front : {A : Type 0} (deep : ℕ) (held : List Bracket) → length held + deep ≤ level
      → InFront (ValueText {A = A} deep) (λ l. At level modes.After held l) (Started level held)
  unfolding ValueText
  value_front zero held few = scalar_front held
  value_front (suc deep) held few =
      let less : length held < level = omega (arith, few) in
      either_front (for_front IsArray (array_front held less
      (value_front deep (Array ∷ held) (omega (arith, few)))))
      (either_front (for_front IsInline (inline_front held less
      (value_front deep (Table ∷ held) (omega (arith, few)))))
      (scalar_front held))

out_of_line : (c : ℕ) → IsBare c → in_line gaps.Line c ≡ steps.Invalid
out_of_line c is = grind (arith, nat_tests, is)

no_bracket : (c : ℕ) → IsBare c → (c == 91) ≡ false
no_bracket c is = grind (arith, nat_tests, is)

line_begins : (c : ℕ) → BeginsName c
    → next_step modes.Line (last_open []) c ≡ name_step owners.Entry c
line_begins c (inl e) = rw e refl
line_begins c (inr (inl e)) = rw e refl
line_begins c (inr (inr is)) =
    ap (λ s. else_line c s) (out_of_line c is)
    ∙ ap (λ b. if b then steps.Goes modes.Header else name_step owners.Entry c) (no_bracket c is)

header_begins : (c : ℕ) → BeginsName c
    → next_step modes.Header (last_open []) c ≡ name_step owners.Header c
header_begins c is = grind (arith, nat_tests, is)

both_whole : {O : Type 0} {text : Text ℕ O} {behind one other : List ℕ → Type 0}
    → InFront text behind one → InFront text behind other
    → InFront text behind (λ l. one l × other l)
both_whole f g = record {
  makes = λ o xs rest x b. (f.makes o xs rest x b, g.makes o xs rest x b);
}

module _ (level : ℕ) where
  -- what a line may end before
  abbrev Ending : List ℕ → Type 0
  Ending l =
      At level modes.Line [] l × At level modes.After [] l
      × At level (modes.Comment gaps.Line) [] l

  -- after a bracket, and perhaps whitespace
  abbrev Headed : List ℕ → Type 0
  Headed l = At level modes.Header [] l × At level (modes.Name owners.Header) [] l

  abbrev Doubled : List ℕ → Type 0
  Doubled l = At level (modes.Name owners.Headers) [] l

  table_front : {A : Type 0} → InFront (TableText {A = A}) (λ l. At level modes.After [] l)
      (λ l. At level modes.Header [] l)
  table_front =
      either_front
      (for_front IsTables (both_front latter (one_front {behind = Doubled} 91 (λ l x. x))
      (both_front former
      (both_front latter (ws_front {tokens = Doubled} (λ l x. x) (λ l x. x))
      (both_front former
      (key_front level [] owners.Headers (modes.Name owners.Headers)
      (later_begins level [] owners.Headers))
      (one_front {behind = λ l. At level modes.Closing [] l} 93 (λ l x. (x, x)))))
      (one_front 93 (λ l x. x)))))
      (for_front IsTable
      (front_whole (λ l x. x.0)
      (both_front latter (ws_front {tokens = Headed} (λ l x. (x.1, x.1)) (λ l x. (x.1, x.1)))
      (both_front former
      (both_whole (key_front level [] owners.Header modes.Header header_begins)
      (key_front level [] owners.Header (modes.Name owners.Header)
      (later_begins level [] owners.Header)))
      (one_front 93 (λ l x. (x, x)))))))

  item_front : {A : Type 0} → InFront (ItemText {A = A} level) (λ l. At level modes.After [] l)
      (λ l. At level modes.Line [] l)
  item_front =
      either_front
      (both_front latter (one_front {behind = λ l. At level modes.Header [] l} 91 (λ l x. x))
      table_front)
      (for_front IsEntry (pair_front level [] owners.Entry modes.Line line_begins (λ l x. (x, x))
      (value_front level level [] (omega arith))))

  line_front : {A : Type 0} → InFront (LineText {A = A} level) Ending
      (λ l. At level modes.Line [] l)
  line_front =
      both_front latter
      (ws_front {tokens = λ l. At level modes.Line [] l} (λ l x. x) (λ l x. x))
      (both_front former
      (left_out {behind = λ l. At level modes.Line [] l × At level modes.After [] l} (λ l x. x.0)
      (both_front former item_front (front_behind (λ l x. x.1)
      (ws_front {tokens = λ l. At level modes.After [] l} (λ l x. x) (λ l x. x)))))
      (left_out (λ l x. (x.0, x.1))
      (comment_front level [] gaps.Line (λ l x. x.2) (λ l x. (x, x)))))

  pub document_accepted : {A : Type 0} (lines : Vec (Item A) A) (tokens : List ℕ)
      → DocumentText level lines tokens → IsAccepted level tokens
  document_accepted lines tokens text =
      let front = gathered_front HasStatements
      (some_front {item = λ l. At level modes.Line [] l} {after = Ending}
      (newline_front (λ l x. (x, x, x)) (λ l x. (x, x, x))) line_front line_front) in
      subst (λ l. At level modes.Line [] l) (append-nil tokens)
      (front.makes lines tokens [] text (refl, refl, refl))

  pub none_begins : {A : Type 0} (front more : List ℕ) → (MayBegin level front → ⊥)
      → (lines : Vec (Item A) A) → DocumentText level lines (front ++ more) → ⊥
  none_begins front more not lines text =
      let is = document_accepted lines (front ++ more) text in
      not (viable_front level front more modes.Line [] is)
