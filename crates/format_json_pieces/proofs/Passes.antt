-- Texts of a set in front of others, and the bytes that they are in front of.
use Rattle.std.proofs.Common.{◌++◌, ◌<◌, ◌∙◌, ◌∷◌, ◌≡◌, [], ℕ, List, ap, append_assoc}
use Rattle.std.proofs.Common.{arith, inl, inr, subst, sym, true}
use Rattle.std.specs.List.{All, AllByRecursion}
use Rattle.std.specs.Str.{all_scalars, encode_utf8_all}
use Rattle.std.proofs.lemmas.List.Elements.{All-head, All-tail}
use Rattle.std.proofs.lemmas.Str.{encode_ascii}
use Rattle.format_json_extents.proofs.Characters.{both_true}
use Rattle.format_json_extents.specs.Texts.{CommaSeparated, Either, IsByte, Many, Maybe, Then}
use Rattle.format_json_extents.specs.Texts.{before, last, nothing, one_more}
use Rattle.format_json_extents.specs.Value.{Exactly}
pub mod Numbers
pub mod Strings
pub mod Values

-- Characters whose bytes, in front of the rest, are such bytes, if they are characters.
abbrev pub Spells : List ℕ → (List ℕ → Type 0) → List ℕ → Type 0
Spells rest bytes cs = all_scalars cs ≡ true → bytes (encode_utf8_all cs ++ rest)

-- `Passes rest P A B`: a text in `P`, in front of bytes in `B`, makes bytes in `A`.
pub record Passes (rest : List ℕ) (P A B : List ℕ → Type 0) : Type 0 where
  pub on : (xs cs : List ℕ) → P xs → Spells rest B cs → Spells rest A (xs ++ cs)

-- in front of fewer bytes, more bytes
pub passes_wider : {rest : List ℕ} {P A B C D : List ℕ → Type 0} → ((l : List ℕ) → C l → B l)
    → ((l : List ℕ) → A l → D l) → Passes rest P A B → Passes rest P D C
passes_wider {rest} from to p = record {
  on = λ xs cs is x scalars.
      to (encode_utf8_all (xs ++ cs) ++ rest)
      (p.on xs cs is (λ few. from (encode_utf8_all cs ++ rest) (x few)) scalars);
}

pub then_pass : {rest : List ℕ} {P Q A B C : List ℕ → Type 0} → Passes rest P A B
    → Passes rest Q B C → Passes rest (Then P Q) A C
then_pass {rest} {A = A} p q = record {
  on = λ xs cs is x.
      subst (λ l. Spells rest A l)
      (sym (ap (λ l. l ++ cs) is.joins ∙ append_assoc is.first is.second cs))
      (p.on is.first (is.second ++ cs) is.is_first (q.on is.second cs is.is_second x));
}

pub either_pass : {rest : List ℕ} {P Q A B : List ℕ → Type 0} → Passes rest P A B
    → Passes rest Q A B → Passes rest (Either P Q) A B
either_pass p q = record {
  on = λ xs cs is x. elim is [ inl it ↦ p.on xs cs it x | inr it ↦ q.on xs cs it x ];
}

pub maybe_pass : {rest : List ℕ} {P A B : List ℕ → Type 0} → ((l : List ℕ) → B l → A l)
    → Passes rest P A B → Passes rest (Maybe P) A B
maybe_pass {rest} {A = A} none p = record {
  on = λ xs cs is x. elim is [
    | inl e ↦ subst (λ l. Spells rest A (l ++ cs)) (sym e)
        (λ scalars. none (encode_utf8_all cs ++ rest) (x scalars))
    | inr it ↦ p.on xs cs it x
  ];
}

pub many_pass : {rest : List ℕ} {P A : List ℕ → Type 0} → Passes rest P A A
    → Passes rest (Many P) A A
many_pass {rest} {P} {A} p = record { on = on }
  where
    on : (xs cs : List ℕ) → Many P xs → Spells rest A cs → Spells rest A (xs ++ cs)
    on _ cs (nothing xs e) x = subst (λ l. Spells rest A (l ++ cs)) (sym e) x
    on _ cs (one_more first others xs is more e) x =
        subst (λ l. Spells rest A l) (sym (ap (λ l. l ++ cs) e ∙ append_assoc first others cs))
        (p.on first (others ++ cs) is (on others cs more x))

module _ (rest : List ℕ) where
  pub ascii_spells : (A B : List ℕ → Type 0) (c : ℕ) (cs : List ℕ) → c < 128
      → ((l : List ℕ) → B l → A (c ∷ l)) → Spells rest B cs → Spells rest A (c ∷ cs)
  ascii_spells A B c cs low makes x = λ scalars.
      subst (λ l. A ((l ++ encode_utf8_all cs) ++ rest)) (sym (encode_ascii c low))
      (makes (encode_utf8_all cs ++ rest) (x (both_true _ (all_scalars cs) scalars).1))

  pub byte_pass : {P : ℕ → Type 0} {A B : List ℕ → Type 0} → ((c : ℕ) → P c → c < 128)
      → ((c : ℕ) → P c → (l : List ℕ) → B l → A (c ∷ l)) → Passes rest (IsByte P) A B
  byte_pass {P} {A} {B} low makes = record {
    on = λ xs cs is x.
        subst (λ l. Spells rest A (l ++ cs)) (sym is.alone)
        (ascii_spells A B is.byte cs (low is.byte is.is_byte) (makes is.byte is.is_byte) x);
  }

  pub given_byte_passes : {A B : List ℕ → Type 0} (c : ℕ) → c < 128
      → ((l : List ℕ) → B l → A (c ∷ l))
      → Passes rest (IsByte (λ b. b ≡ c)) A B
  given_byte_passes {A} {B} c low makes =
      byte_pass (λ b e. subst (λ n. n < 128) (sym e) low)
      (λ b e l x. subst (λ n. A (n ∷ l)) (sym e) (makes l x))

  pub all_pass : {P : ℕ → Type 0} {A : List ℕ → Type 0} → ((c : ℕ) → P c → c < 128)
      → ((c : ℕ) → P c → (l : List ℕ) → A l → A (c ∷ l)) → Passes rest (All P) A A
  all_pass {P} {A} low makes = record { on = on }
    where
      on : (xs cs : List ℕ) → All P xs → Spells rest A cs → Spells rest A (xs ++ cs)
      on [] cs all x = x
      on (c ∷ xs) cs all x =
          let is = All-head P c xs all in
          ascii_spells A A c (xs ++ cs) (low c is) (makes c is)
          (on xs cs (All-tail P c xs all) x)

  pub list_pass : {P A B : List ℕ → Type 0} → ((l : List ℕ) → A l → B (44 ∷ l))
      → Passes rest P A B → Passes rest (CommaSeparated P) A B
  list_pass {P} {A} {B} comma p = record { on = on }
    where
      on : (xs cs : List ℕ) → CommaSeparated P xs → Spells rest B cs → Spells rest A (xs ++ cs)
      on _ cs (last xs is) x = p.on xs cs is x
      on _ cs (before first others xs is more e) x =
          subst (λ l. Spells rest A l)
          (sym (ap (λ l. l ++ cs) e ∙ append_assoc first (44 ∷ others) cs))
          (p.on first (44 ∷ (others ++ cs)) is
          (ascii_spells B A 44 (others ++ cs) (omega arith) comma (on others cs more x)))

  word_spells : (A B : List ℕ → Type 0) (word cs : List ℕ) → AllByRecursion (λ b. b < 128) word
      → ((l : List ℕ) → B l → A (word ++ l)) → Spells rest B cs → Spells rest A (word ++ cs)
  word_spells A B [] cs low makes x = λ scalars. makes (encode_utf8_all cs ++ rest) (x scalars)
  word_spells A B (c ∷ word) cs low makes x =
      ascii_spells A (λ l. A (c ∷ l)) c (word ++ cs) low.0 (λ l y. y)
      (word_spells (λ l. A (c ∷ l)) B word cs low.1 makes x)

  pub word_pass : {A B : List ℕ → Type 0} (word : List ℕ) → AllByRecursion (λ b. b < 128) word
      → ((l : List ℕ) → B l → A (word ++ l)) → Passes rest (Exactly word) A B
  word_pass {A} {B} word low makes = record {
    on = λ xs cs e x. subst (λ l. Spells rest A (l ++ cs)) (sym e)
        (word_spells A B word cs low makes x);
  }
