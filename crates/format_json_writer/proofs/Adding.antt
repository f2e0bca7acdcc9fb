-- Lemmas about text that is appended in several parts.
use Rattle.std.specs.Prelude.{◌≡◌, ℕ, List, [], ◌∷◌, ◌++◌, encode_utf8, encode_utf8_all}
use Rattle.std.proofs.Common.{refl, sym, ap, ◌∙◌, append_assoc}
use Rattle.std.proofs.lemmas.List.{append-nil}
use Rattle.std.proofs.lemmas.Str.{encodes-append}
use Rattle.format_json_writer.specs.Added.{Appends, IsPrefixOf}
use Rattle.format_parts.specs.Words.{One}
use Rattle.grammars.specs.Texts.{BothText, EachText, Spelled, Text}

pub prefix_trans : {before between after : List ℕ} → IsPrefixOf before between
    → IsPrefixOf between after
    → IsPrefixOf before after
prefix_trans {before} first second = record {
  more = first.more ++ second.more;
  behind = second.behind ∙ ap (λ l. l ++ second.more) first.behind
      ∙ append_assoc before first.more second.more;
}

pub prefix_of_longer : {before after : List ℕ} (more : List ℕ) → after ≡ before ++ more
    → IsPrefixOf before after
prefix_of_longer more e = record { more = more; behind = e }

pub prefix_of_equal : {before after : List ℕ} → after ≡ before → IsPrefixOf before after
prefix_of_equal {before} e = record { more = []; behind = e ∙ sym (append-nil before) }

-- what is added in two parts
pub both_behind : (before between after xs ys : List ℕ)
    → between ≡ before ++ encode_utf8_all xs → after ≡ between ++ encode_utf8_all ys
    → after ≡ before ++ encode_utf8_all (xs ++ ys)
both_behind before between after xs ys first second =
    second ∙ ap (λ l. l ++ encode_utf8_all ys) first
    ∙ append_assoc before (encode_utf8_all xs) (encode_utf8_all ys)
    ∙ ap (λ l. before ++ l) (sym (encodes-append xs ys))

pub adds_then : {O1 O2 O : Type 0} (output : O1 → O2 → O) {first : Text ℕ O1} {second : Text ℕ O2}
    {o1 : O1} {o2 : O2} {before between after : List ℕ} → Appends first o1 before between
    → Appends second o2 between after
    → Appends (BothText output first second) (output o1 o2) before after
unfolding BothText
adds_then output {o1 = o1} {o2} one two = record {
  tokens = one.tokens ++ two.tokens;
  is = (o1, o2, one.tokens, two.tokens, one.is, two.is, refl, refl);
  behind = both_behind _ _ _ one.tokens two.tokens one.behind two.behind;
}

pub adds_more : {O : Type 0} {text : Text ℕ O} {o : O} {os : List O}
    {before between after : List ℕ} → Appends text o before between
    → Appends (EachText text) os between after → Appends (EachText text) (o ∷ os) before after
unfolding EachText
adds_more one rest = record {
  tokens = one.tokens ++ rest.tokens;
  is = (one.tokens, rest.tokens, one.is, rest.is, refl);
  behind = both_behind _ _ _ one.tokens rest.tokens one.behind rest.behind;
}

pub adds_none : {O : Type 0} (text : Text ℕ O) (bytes : List ℕ)
    → Appends (EachText text) [] bytes bytes
unfolding EachText
adds_none text bytes = record { tokens = []; is = refl; behind = sym (append-nil bytes) }

pub one_behind : (before : List ℕ) {after : List ℕ} (c : ℕ) → after ≡ before ++ encode_utf8 c
    → after ≡ before ++ encode_utf8_all (c ∷ [])
one_behind before c e = e ∙ ap (λ l. before ++ l) (sym (append-nil (encode_utf8 c)))

pub one_added : {before after : List ℕ} (c : ℕ) → after ≡ before ++ encode_utf8 c
    → Appends (One c) c before after
unfolding Spelled
one_added {before} c e =
    record { tokens = c ∷ []; is = (refl, refl); behind = one_behind before c e }
