-- That lines and bytes are what their parsers read.
use Rattle.std.specs.Prelude.{◌≡◌, ℕ, Bool, IsTrue, ◌↔◌, None, List, [], ◌∷◌, ◌++◌}
use Rattle.std.specs.Borrow.{Bor}
use Rattle.std.proofs.Common.{refl, sym, ap, subst, inl, ◌∙◌, append_assoc}
use Rattle.streams.specs.Bytes.{bytes_reading}
use Rattle.streams.specs.Kind.{Kind, backtrack, memory}
use Rattle.stream_sets.specs.Range.{from_to}
use Rattle.stream_sets.specs.Sets.{InEither}
use Rattle.grammars.specs.Grammar.Same.{Same}
use Rattle.grammars.specs.Grammar.{Both, Counted, Grammar, Literally, Longest}
use Rattle.stream_sets.specs.Once.{Others}
use Rattle.grammars.specs.Grammar.Inversion.{slice_for}
use Rattle.grammars.specs.Grammar.Searches as searches
use Rattle.grammars.specs.Texts.{IsGrammarOf, Text}
use Rattle.grammars.specs.Texts.Tokens.{counted_of, divides_either, divides_others, divides_seen}
use Rattle.grammars.specs.Texts.Tokens.{divides_where, longest_of}
use Rattle.winnow_grammar.specs.InTurn.{First}
use Rattle.format_resp.specs.Resp.{DataText, LineText, WithLineEnd, line_end}

-- the end of a line, as it is read
abbrev pub EndRead : Grammar ℕ (Bor (List ℕ))
EndRead = searches.LiterallyBytes bytes_reading (λ text xs. xs ≡ text.now) (13 ∷ 10 ∷ [])

-- a text is followed by a line ending
ended_of : {O : Type 0} {g : Grammar ℕ O} (text : Text ℕ O) {follow : List ℕ → Type 0}
    → IsGrammarOf g text follow → ((rest : List ℕ) → follow (line_end ++ rest))
    → Same (Both (λ o1 o2. o1) g EndRead) (First (WithLineEnd text))
unfolding Both Literally WithLineEnd First
ended_of {O} {g} text is may = record {
  there = λ tokens o rest (o1, o2, mid, x, (ys, slice, (end, was, spelled), shown, d, same), out).
      let (xs, e, a) = is.there tokens o1 mid x in (
        xs ++ line_end,
        (xs, subst (λ p. text p xs) (sym out) a, refl),
        e ∙ ap (λ l. xs ++ l) (d ∙ ap (λ l. l ++ rest) (spelled ∙ was))
            ∙ sym (append_assoc xs line_end rest),
      );
  back = λ tokens o rest (front, (xs, a, e), d).
      let (end, was) = slice_for line_end in
      let P : List ℕ → Type 0 = λ l. g l o (line_end ++ rest) in
      let split = d ∙ ap (λ l. l ++ rest) e ∙ append_assoc xs line_end rest in (
        o,
        end,
        line_end ++ rest,
        subst P (sym split) (is.back o xs (line_end ++ rest) a (may rest)),
        (line_end, end, (end, was, sym was), was, refl, refl),
        refl,
      );
}

-- ---- lines

-- what the set of two bytes tells
abbrev pub EndTells : ℕ × ℕ → ℕ → Bool → Type 0
EndTells set t b =
    InEither (λ t b. IsTrue b ↔ (t ≡ set.0)) (λ t b. IsTrue b ↔ (t ≡ set.1)) t b

pub same_line : Same (Both (λ o1 o2. o1) (Longest bytes_reading (λ b. b) (Others EndTells) (13, 10)
    (from_to 0 None)) EndRead) (First LineText)
unfolding LineText
same_line = ended_of _ (longest_of bytes_reading (λ b. b) (Others EndTells) (13, 10)
    (from_to 0 None) 0 refl
    (divides_seen (Others EndTells (13, 10)) (divides_others EndTells (13, 10)
    (divides_either (divides_where (λ b. b ≡ 13)) (divides_where (λ b. b ≡ 10))))))
    (λ rest. inl refl)

-- ---- data of `n` bytes

pub same_data : (n : ℕ) → Same (Both (λ o1 o2. o1) (Counted bytes_reading n) EndRead)
    (First (DataText n))
unfolding DataText
same_data n = ended_of _ (counted_of bytes_reading n) (λ rest. tt)

-- a call that fails with an error other than out of memory
pub not_wanting : (k : Kind) → k ≡ memory → k ≡ backtrack → ⊥
not_wanting k a b = let d : ◌≡◌ {A = Kind} memory backtrack = sym a ∙ b in cc
