-- The walk of `format_toml_errors` over a text in front of another: a character, rows of them, and
-- what may come after a value.
use Rattle.std.specs.Prelude.{◌≡◌, ℕ, List, [], ◌∷◌, ◌++◌, Option, Some, None}
use Rattle.std.specs.List.{All}
use Rattle.std.proofs.Common.{sym, subst, inl, inr, arith, append_assoc}
use Rattle.std.proofs.lemmas.List.Elements.{All-tail}
use Rattle.grammars.specs.Texts.{AtLeast, InFront, Members, OptionalText, PartedText, Spelled, Text}
use Rattle.grammars.specs.Texts.{TokenOfText}
use Rattle.grammars.specs.Texts.Fronts.{both_front, each_front, either_front}
use Rattle.stream_sets.specs.AsChar.{IsSpace}
use Rattle.streams.specs.Text.{text_reading}
use Rattle.format_parts.specs.Words.{One, Run, latter}
use Rattle.format_toml.specs.Toml.{NewlineText, WsText}
use Rattle.format_toml_errors.specs.Stop.{At}
use Rattle.format_toml_errors.specs.declared.modes.Bracket.{Bracket}
use Rattle.format_toml_errors.specs.declared.modes.Mode.TheVariants as modes

-- ---- parts of a text

pub moved : (P : List ℕ → Type 0) {xs ys : List ℕ} (l : List ℕ) → xs ≡ ys → P (ys ++ l)
    → P (xs ++ l)
moved P l e x = subst (λ k. P (k ++ l)) (sym e) x

pub parted : (P : List ℕ → Type 0) {all : List ℕ} (xs ys l : List ℕ) → all ≡ xs ++ ys
    → P (xs ++ (ys ++ l)) → P (all ++ l)
parted P xs ys l e x = moved P l e (subst P (sym (append_assoc xs ys l)) x)

-- ---- rows of characters

module _ {behind whole : List ℕ → Type 0} where
  pub spelled_front : {O : Type 0} (word : List ℕ) (o : O)
      → ((l : List ℕ) → behind l → whole (word ++ l)) → InFront (Spelled word o) behind whole
  unfolding Spelled
  spelled_front word o makes = record {
    makes = λ p xs rest (is, e) x.
        moved whole rest e (makes rest x);
  }

  pub one_front : (c : ℕ) → ((l : List ℕ) → behind l → whole (c ∷ l))
      → InFront (One c) behind whole
  one_front c makes = spelled_front (c ∷ []) c makes

  pub token_front : {class : ℕ → Type 0} → ((c : ℕ) (l : List ℕ) → class c → behind l
      → whole (c ∷ l)) → InFront (TokenOfText (λ c. c) class) behind whole
  unfolding TokenOfText
  token_front makes = record {
    makes = λ c xs rest (is, e) x.
        moved whole rest e (makes c rest is x);
  }

pub newline_front : {behind whole : List ℕ → Type 0} → ((l : List ℕ) → behind l → whole (10 ∷ l))
    → ((l : List ℕ) → behind l → whole (13 ∷ 10 ∷ l)) → InFront NewlineText behind whole
newline_front {behind} {whole} feed return =
    either_front (one_front 10 feed)
    (both_front latter (one_front {behind = λ l. whole (13 ∷ l)} 13 (λ l x. x))
    (one_front {whole = λ l. whole (13 ∷ l)} 10 return))

module _ {tokens : List ℕ → Type 0} {class : ℕ → Type 0}
    (adds : (c : ℕ) (l : List ℕ) → class c → tokens l → tokens (c ∷ l)) where
  pub all_front : (xs rest : List ℕ) → All class xs → tokens rest → tokens (xs ++ rest)
  all_front [] rest all x = x
  all_front (c ∷ xs) rest all x =
      adds c (xs ++ rest) (all 0 c (omega arith)) (all_front xs rest (All-tail class c xs all) x)

  pub run_front : (least : ℕ) → InFront (Run class least) tokens tokens
  unfolding Run
  run_front least = record {
    makes = λ slice xs rest (all, enough, shown) x. all_front xs rest all x;
  }

  pub members_front : (least : ℕ) → InFront (Members text_reading class least) tokens tokens
  unfolding Members Run
  members_front least = run_front least

pub space_by : (P : ℕ → Type 0) → P 32 → P 9 → (c : ℕ) → IsSpace c → P c
space_by P s t c (inl e) = subst P (sym e) s
space_by P s t c (inr e) = subst P (sym e) t

pub ws_front : {tokens : List ℕ → Type 0} → ((l : List ℕ) → tokens l → tokens (32 ∷ l))
    → ((l : List ℕ) → tokens l → tokens (9 ∷ l)) → InFront WsText tokens tokens
ws_front {tokens} space tab =
    run_front (λ c l is x. space_by (λ b. tokens (b ∷ l)) (space l x) (tab l x) c is) 0

-- ---- parts

pub left_out : {O : Type 0} {text : Text ℕ O} {behind whole : List ℕ → Type 0}
    → ((l : List ℕ) → behind l → whole l) → InFront text behind whole
    → InFront (OptionalText text) behind whole
unfolding OptionalText
left_out {O} {text} {behind} {whole} more front = record { makes = makes }
  where
    makes : (o : Option O) (xs rest : List ℕ) → OptionalText text o xs → behind rest
        → whole (xs ++ rest)
    makes None xs rest e b =
        moved whole rest e (more rest b)
    makes (Some o) xs rest x b = front.makes o xs rest x b

-- at least one item; and perhaps none
module _ {O D : Type 0} {separator : Text ℕ D} {text : Text ℕ O}
    {item after whole : List ℕ → Type 0} (between : InFront separator item after)
    (first : InFront text after whole) (next : InFront text after item) where
  pub some_front : InFront (AtLeast 1 (PartedText separator text)) after whole
  unfolding PartedText
  some_front = record { makes = makes }
    where
      makes : (os : List O) (tokens rest : List ℕ) → AtLeast 1 (PartedText separator text) os tokens
          → after rest → whole (tokens ++ rest)
      makes [] tokens rest (x, least) b = absurd (omega (arith, least))
      makes (o ∷ os) tokens rest ((xs, ys, x, more, e), least) b =
          parted whole xs ys rest e
          (first.makes o xs (ys ++ rest) x
          ((each_front (both_front (λ d o. o) between next)).makes os ys rest more b))

  pub any_front : {last : List ℕ → Type 0} → ((l : List ℕ) → last l → after l)
      → ((l : List ℕ) → last l → whole l) → InFront (PartedText separator text) last whole
  unfolding PartedText
  any_front {last} ends none = record { makes = makes }
    where
      makes : (os : List O) (tokens rest : List ℕ) → PartedText separator text os tokens
          → last rest → whole (tokens ++ rest)
      makes [] tokens rest e b =
          moved whole rest e (none rest b)
      makes (o ∷ os) tokens rest x b =
          some_front.makes (o ∷ os) tokens rest (x, omega arith) (ends rest b)

-- where a value may begin, after an equals sign or in an array
abbrev pub Started : ℕ → List Bracket → List ℕ → Type 0
Started level held l = At level modes.Value held l × At level modes.Item held l
