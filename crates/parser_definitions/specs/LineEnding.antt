-- The definitions of literals of characters and texts: `newline`, `tab`, `crlf`, and of
-- `line_ending`.
use Rattle.std.specs.Prelude.{◌≡◌, ⊤, ℕ, List, [], ◌∷◌, ◌++◌}
use Rattle.std.specs.Borrow.{Bor}
use Rattle.std.proofs.Common.{refl, sym, inl, inr, ◌∙◌}
use Rattle.streams.specs.Reading.{Reading}
use Rattle.parser_definitions.specs.Does.{Lawful}
use Rattle.parser_definitions.specs.Left.{End, Left}
use Rattle.parser_definitions.specs.Literal.{LiteralDoes, literal_law}
use Rattle.parser_definitions.specs.Outcome.{Does, Outcome, Setting}
use Rattle.parser_definitions.specs.Spelled.{ShowSame}
use Rattle.parser_definitions.specs.Then.{Next, Then, then_law}
use Rattle.parser_definitions.specs.Then.Steps.{asks_later, asks_meet, asks_on, cuts_hold}
use Rattle.parser_definitions.specs.Then.Steps.{cuts_meet, cuts_on, else_holds, else_meets, instead}
use Rattle.parser_definitions.specs.Then.Steps.{or_else, same, takes, takes_hold, takes_meet}

-- All lists that a literal spells have as many units.
abbrev pub SpellsAsMany : {T L : Type 0} → Reading T L → (List T → Type 0) → Type 0
SpellsAsMany {T} reading spelled =
    (xs ys : List T) → spelled xs → spelled ys → reading.units xs ≡ reading.units ys

-- Two texts with the same bytes spell the same lists.
abbrev pub SpellsByText : {T : Type 0} → (Bor (List ℕ) → List T → Type 0) → Type 0
SpellsByText {T} spells = (s t : Bor (List ℕ)) (xs : List T) → s.now ≡ t.now → spells s xs
    → spells t xs

-- The literal of a text with these bytes; `spells` gives the lists that a text spells.
abbrev pub TextDoes : {S T L : Type 0} → Reading T L → (Bor (List ℕ) → List T → Type 0) → List ℕ
    → Does S T L
TextDoes reading spells bytes at s w x =
    (text : Bor (List ℕ)) × (text.now ≡ bytes)
    × LiteralDoes reading (λ _. spells text) (λ _ slice. slice) at s w x

module _ {S T L : Type 0} (reading : Reading T L) (spells : Bor (List ℕ) → List T → Type 0)
    (bytes : List ℕ) (as_many : (text : Bor (List ℕ)) → SpellsAsMany reading (spells text))
    (by_text : SpellsByText spells) where
  abbrev OneText : Bor (List ℕ) → Does S T L
  OneText text = LiteralDoes reading (λ _. spells text) (λ _ slice. slice)

  one_text : (text : Bor (List ℕ)) → Lawful {S = S} ⊤ (ShowSame reading) (OneText text)
  one_text text = literal_law reading (λ _. spells text) (λ _ slice. slice) (ShowSame reading)
      (λ s. as_many text) (λ s u v same. same)

  -- the literal of a text is that of each text with the same bytes
  by_bytes : (t u : Bor (List ℕ)) → t.now ≡ u.now → (at : Setting) (s : S) (w : Left T)
      (x : Outcome (End S T) L) → OneText t at s w x → OneText u at s w x
  by_bytes t u e at s w x (inl (o, rest, (f, v, is, shown, p, a), d)) =
      inl (o, rest, (f, v, by_text t u f e is, shown, p, a), d)
  by_bytes t u e at s w x (inr (inl (((y, more, is), part), d))) =
      inr (inl (((y, more, by_text t u (w.tokens ++ y ∷ more) e is), part), d))
  by_bytes t u e at s w x (inr (inr ((none, told), d))) = inr (inr (
    (
      (λ (f, rest, is, split). none (f, rest, by_text u t f (sym e) is, split)),
      (λ (y, more, is). told (y, more, by_text u t (w.tokens ++ y ∷ more) (sym e) is)),
    ),
    d,
  ))

  pub text_law : Lawful {S = S} ⊤ (ShowSame reading) (TextDoes reading spells bytes)
  text_law = record {
    one = λ at s w x y (t, is, d) (u, was, e).
        (one_text t).one at s w x y d (by_bytes u t (was ∙ sym is) at s w y e);
    whole = λ at s w need last is (t, here, d). (one_text t).whole at s w need last is d;
    stays = λ is more flag s w x final (t, here, d).
        (t, here, (one_text t).stays is more flag s w x final d);
  }

-- The literal of the character `c`, which is the output; `spells` gives the lists that a character
-- spells.
abbrev pub CharacterDoes : {S T L : Type 0} → Reading T L → (ℕ → List T → Type 0) → ℕ → Does S T ℕ
CharacterDoes reading spells c = LiteralDoes reading (λ s. spells c) (λ s slice. c)

-- "\n" and "\t"
abbrev pub NewlineDoes : {S T L : Type 0} → Reading T L → (ℕ → List T → Type 0) → Does S T ℕ
NewlineDoes reading spells = CharacterDoes reading spells 10

abbrev pub TabDoes : {S T L : Type 0} → Reading T L → (ℕ → List T → Type 0) → Does S T ℕ
TabDoes reading spells = CharacterDoes reading spells 9

pub character_law : {S T L : Type 0} (reading : Reading T L) (spells : ℕ → List T → Type 0) (c : ℕ)
    → SpellsAsMany reading (spells c)
    → Lawful {S = S} ⊤ (λ m n. m ≡ n) (CharacterDoes reading spells c)
character_law reading spells c as_many =
    literal_law reading (λ s. spells c) (λ s slice. c) (λ m n. m ≡ n) (λ s. as_many)
    (λ s u v same. refl)

-- If the first definition backtracks, the other applies at the start. Both have one state.
abbrev pub or_other : {S T O : Type 0} → Does S T O → Next S S T O O
or_other other = record {
  on_took = λ o. takes instead o;
  on_backs = or_else instead other;
  on_cuts = cuts_on instead;
  on_asks = asks_on instead;
}

-- `spells` gives the lists that a text spells.
module _ {S T L : Type 0} (reading : Reading T L) (spells : Bor (List ℕ) → List T → Type 0) where
  -- "\r\n"
  abbrev pub CrlfDoes : Does S T L
  CrlfDoes = TextDoes reading spells (13 ∷ 10 ∷ [])

  -- "\n", or "\r\n" if "\n" backtracks.
  abbrev pub LineEndingDoes : Does S T L
  LineEndingDoes = Then same (TextDoes reading spells (10 ∷ [])) (or_other CrlfDoes)

  module _ (as_many : (text : Bor (List ℕ)) → SpellsAsMany reading (spells text))
      (by_text : SpellsByText spells) where
    pub crlf_law : Lawful ⊤ (ShowSame reading) CrlfDoes
    crlf_law = text_law reading spells (13 ∷ 10 ∷ []) as_many by_text

    pub line_ending_law : Lawful ⊤ (ShowSame reading) LineEndingDoes
    line_ending_law = then_law (text_law reading spells (10 ∷ []) as_many by_text) (record {
      took = λ o p like. takes_meet instead like;
      backs = else_meets instead (λ o p like. like) crlf_law;
      cuts = cuts_meet instead;
      asks = asks_meet instead;
    }) (record {
      took = λ o. takes_hold instead;
      backs = else_holds instead (λ is. is) crlf_law;
      cuts = cuts_hold instead;
      asks = asks_later instead;
    }) (λ is. is)
