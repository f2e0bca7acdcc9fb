-- Inclusion of one set of encodings in another, also if whitespace follows.
use Rattle.std.specs.Prelude.{◌≡◌, ℕ, List, [], ◌∷◌, ◌++◌, encode_utf8_all}
use Rattle.std.specs.List.{All}
use Rattle.std.proofs.Common.{refl, sym, ap, inl, inr, ◌∙◌, append_assoc, arith}
use Rattle.std.proofs.lemmas.List.{append-nil}
use Rattle.std.proofs.lemmas.List.Elements.{All-nil}
use Rattle.format_json_writer.specs.Layout.{LaidMark}
use Rattle.format_parts.specs.Words.{For, Run, Slice, latter}
use Rattle.format_json_texts.specs.Values.{GapText, Mark, Spaced}
use Rattle.grammars.specs.Texts.{BothText, EachText, EitherText, MadeText, PartedText, Spelled}
use Rattle.grammars.specs.Texts.{Text}
use Rattle.stream_sets.specs.AsChar.{IsMultispace}

-- `IsWithin inner outer`: each `inner` encoding of a value is an `outer` encoding of it.
pub record IsWithin {T O : Type 0} (inner outer : Text T O) : Type 0 where
  pub told : (o : O) (tokens : List T) → inner o tokens → outer o tokens

pub within_refl : {T O : Type 0} {text : Text T O} → IsWithin text text
within_refl = record { told = λ o tokens a. a }

pub within_then : {T O1 O2 O : Type 0} (output : O1 → O2 → O) {first outer1 : Text T O1}
    {second outer2 : Text T O2} → IsWithin first outer1 → IsWithin second outer2
    → IsWithin (BothText output first second) (BothText output outer1 outer2)
unfolding BothText
within_then output one two = record {
  told = λ o tokens (o1, o2, xs, ys, a, b, e, is).
      (o1, o2, xs, ys, one.told o1 xs a, two.told o2 ys b, e, is);
}

pub within_first : {T O : Type 0} {inner first : Text T O} (second : Text T O)
    → IsWithin inner first → IsWithin inner (EitherText first second)
unfolding EitherText
within_first second within = record { told = λ o tokens a. inl (within.told o tokens a) }

pub within_second : {T O : Type 0} {inner second : Text T O} (first : Text T O)
    → IsWithin inner second → IsWithin inner (EitherText first second)
unfolding EitherText
within_second first within = record { told = λ o tokens a. inr (within.told o tokens a) }

pub within_among : {T O : Type 0} {first second outer : Text T O} → IsWithin first outer
    → IsWithin second outer → IsWithin (EitherText first second) outer
unfolding EitherText
within_among {T} {O} {first} {second} {outer} one two = record { told = told }
  where
    told : (o : O) (tokens : List T) → EitherText first second o tokens → outer o tokens
    told o tokens (inl a) = one.told o tokens a
    told o tokens (inr a) = two.told o tokens a

pub within_for : {O U : Type 0} {means wider : O → U → Type 0} {inner outer : Text ℕ O}
    → ((o : O) (u : U) → means o u → wider o u) → IsWithin inner outer
    → IsWithin (For means inner) (For wider outer)
unfolding MadeText
within_for widens within = record {
  told = λ u tokens (o, a, is). (o, within.told o tokens a, widens o u is);
}

pub within_row : {T O : Type 0} {inner outer : Text T O} → IsWithin inner outer
    → IsWithin (EachText inner) (EachText outer)
unfolding EachText
within_row {T} {O} {inner} {outer} within = record { told = all }
  where
    all : (os : List O) (tokens : List T) → EachText inner os tokens → EachText outer os tokens
    all [] tokens e = e
    all (o ∷ os) tokens (xs, ys, a, b, e) =
        (xs, ys, within.told o xs a, all os ys b, e)

-- ---- whitespace

-- `EndsIn inner outer`: an `inner` encoding and whitespace after it are an `outer` encoding.
pub record EndsIn {O : Type 0} (inner outer : Text ℕ O) : Type 0 where
  pub ends : (o : O) (tokens gap : List ℕ) → inner o tokens → All IsMultispace gap
      → outer o (tokens ++ gap)

-- a slice that shows the whitespace
abbrev pub shown : List ℕ → Slice
shown gap = record { ref_ptr = (0, 0); now = encode_utf8_all gap }

gap_text : (gap : List ℕ) → All IsMultispace gap → GapText (shown gap) gap
unfolding Run
gap_text gap all = (all, omega arith, refl)

no_gap : GapText (shown []) []
no_gap = gap_text [] (All-nil IsMultispace)

pub mark_text : (c o : ℕ) (gap tokens : List ℕ) → All IsMultispace gap
    → LaidMark c gap o tokens → Mark c (c, shown gap) tokens
unfolding BothText Spelled
mark_text c o gap tokens all (same, is) =
    (c, shown gap, c ∷ [], gap, (refl, refl), gap_text gap all, is, refl)

-- a mark and whitespace after it
pub within_mark : {O : Type 0} (c : ℕ) (gap : List ℕ) {inner outer : Text ℕ O}
    → All IsMultispace gap → IsWithin inner outer
    → IsWithin (BothText latter (LaidMark c gap) inner) (BothText latter (Mark c) outer)
unfolding BothText
within_mark c gap all within = record {
  told = λ o tokens (o1, o2, xs, ys, a, b, e, is).
      ((c, shown gap), o2, xs, ys, mark_text c o1 gap xs all a, within.told o2 ys b, e, is);
}

pub ends_mark : {O : Type 0} (c : ℕ) (gap : List ℕ) {inner outer : Text ℕ O}
    → All IsMultispace gap → EndsIn inner outer
    → EndsIn (BothText latter (LaidMark c gap) inner) (BothText latter (Mark c) outer)
unfolding BothText
ends_mark c gap all last = record {
  ends = λ o tokens space (o1, o2, xs, ys, a, b, e, is) spaces. (
    (c, shown gap),
    o2,
    xs,
    ys ++ space,
    mark_text c o1 gap xs all a,
    last.ends o2 ys space b spaces,
    ap (λ l. l ++ space) e ∙ append_assoc xs ys space,
    is,
  );
}

pub ends_then : {O1 O2 O : Type 0} (output : O1 → O2 → O) {first outer1 : Text ℕ O1}
    {second outer2 : Text ℕ O2} → IsWithin first outer1 → EndsIn second outer2
    → EndsIn (BothText output first second) (BothText output outer1 outer2)
unfolding BothText
ends_then output one last = record {
  ends = λ o tokens gap (o1, o2, xs, ys, a, b, e, is) all. (
    o1,
    o2,
    xs,
    ys ++ gap,
    one.told o1 xs a,
    last.ends o2 ys gap b all,
    ap (λ l. l ++ gap) e ∙ append_assoc xs ys gap,
    is,
  );
}

pub ends_spaced : {O : Type 0} {inner outer : Text ℕ O} → IsWithin inner outer
    → EndsIn inner (Spaced outer)
unfolding BothText
ends_spaced within = record {
  ends = λ o tokens gap a all.
      (o, shown gap, tokens, gap, within.told o tokens a, gap_text gap all, refl, refl);
}

pub within_spaced : {O : Type 0} {inner outer : Text ℕ O} → IsWithin inner outer
    → IsWithin inner (Spaced outer)
unfolding BothText
within_spaced within = record {
  told = λ o tokens a.
      (o, shown [], tokens, [], within.told o tokens a, no_gap, sym (append-nil tokens), refl);
}

pub within_alone : {O : Type 0} {inner outer : Text ℕ O} → IsWithin inner outer
    → IsWithin inner (BothText latter GapText outer)
unfolding BothText
within_alone within = record {
  told = λ o tokens a. (shown [], o, [], tokens, no_gap, within.told o tokens a, refl, refl);
}

-- ---- the last of several has the whitespace after it

one_ends : (xs ys gap : List ℕ) {tokens : List ℕ} → tokens ≡ xs ++ ys → ys ≡ []
    → tokens ++ gap ≡ (xs ++ gap) ++ []
one_ends xs ys gap e none =
    ap (λ l. l ++ gap) (e ∙ ap (λ l. xs ++ l) none ∙ append-nil xs) ∙ sym (append-nil (xs ++ gap))

row_ends : {O : Type 0} {inner outer : Text ℕ O} → IsWithin inner outer → EndsIn inner outer
    → (o : O) (os : List O) (tokens gap : List ℕ) → EachText inner (o ∷ os) tokens
    → All IsMultispace gap → EachText outer (o ∷ os) (tokens ++ gap)
unfolding EachText
row_ends within last o [] tokens gap (xs, ys, a, none, e) all =
    (xs ++ gap, [], last.ends o xs gap a all, refl, one_ends xs ys gap e none)
row_ends within last o (p ∷ os) tokens gap (xs, ys, a, more, e) all = (
  xs,
  ys ++ gap,
  within.told o xs a,
  row_ends within last p os ys gap more all,
  ap (λ l. l ++ gap) e ∙ append_assoc xs ys gap,
)

pub parted_ends : {O D E : Type 0} (comma : Text ℕ D) (mark : Text ℕ E) {inner outer : Text ℕ O}
    → EndsIn inner outer → IsWithin inner outer
    → IsWithin (BothText latter comma inner) (BothText latter mark outer)
    → EndsIn (BothText latter comma inner) (BothText latter mark outer) → (o : O) (os : List O)
    (tokens gap : List ℕ) → PartedText comma inner (o ∷ os) tokens → All IsMultispace gap
    → PartedText mark outer (o ∷ os) (tokens ++ gap)
unfolding PartedText EachText
parted_ends comma mark first within more last o [] tokens gap (xs, ys, a, none, e) all =
    (xs ++ gap, [], first.ends o xs gap a all, refl, one_ends xs ys gap e none)
parted_ends comma mark first within more last o (p ∷ os) tokens gap (xs, ys, a, b, e) all = (
  xs,
  ys ++ gap,
  within.told o xs a,
  row_ends more last p os ys gap b all,
  ap (λ l. l ++ gap) e ∙ append_assoc xs ys gap,
)
