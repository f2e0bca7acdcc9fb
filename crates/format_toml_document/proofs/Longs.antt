-- From what may follow to what may precede: strings over lines, and their texts.
use Rattle.std.specs.Prelude.{◌≡◌, ◌⊎◌, ◌≤◌, ◌+◌, ℕ, zero, suc, false, List, [], ◌∷◌, ◌++◌}
use Rattle.std.specs.Prelude.{nat_lt, ⊤, true, length}
use Rattle.std.proofs.Common.{refl, sym, ap, subst, inl, inr, ◌∙◌, arith, append_assoc}
use Rattle.std.proofs.Common.{length-append}
use Rattle.std.proofs.lemmas.Bool.Decides.{nat_tests}
use Rattle.std.specs.Char.{IsScalar}
use Rattle.std.specs.Str.{all_scalars}
use Rattle.std.proofs.lemmas.List.{append-nil}
use Rattle.grammars.specs.Texts.{BothText, EachText, EitherText, Spelled, TokenOfText, GatheredText}
use Rattle.grammars.specs.Texts.{Text}
use Rattle.stream_sets.specs.AsChar.{IsSpace}
use Rattle.format_toml.specs.LongTexts.{BodyText, DelimiterText, NoneWritten, Trimmed, room_behind}
use Rattle.format_toml.specs.Toml.{BlankText, EscapedLineText, EscapedLines, IsOf, NewlineText}
use Rattle.format_toml.specs.Toml.{WsText}
use Rattle.format_toml_errors.specs.Steps.{mark_of}
use Rattle.format_toml_errors.specs.declared.modes.Bracket.{Bracket}
use Rattle.format_toml_errors.specs.declared.modes.Mark.{Mark}
use Rattle.format_toml_document.proofs.Rests.{After, LongRest, content_of, marked, skips_of, Firm}
use Rattle.format_toml_document.proofs.Rests.{LongStart}
use Rattle.format_toml_document.proofs.Thens.{Then, both, cons, nil, one, parts, to, Emits, Fits}
use Rattle.format_toml_document.proofs.Thens.{Spells, and_true, behind, fit_parts, gathered_text}
use Rattle.format_toml_document.proofs.Thens.{scalars_parts, token_emits}
use Rattle.format_toml_document.proofs.Escapes.{character_emits}
use Rattle.format_toml_errors.specs.declared.modes.Mark.TheVariants as marks
use Rattle.format_toml.specs.declared.characters.Characters.TheVariants as sets

-- ---- blanks

abbrev pub StartsBlank : ℕ → Type 0
StartsBlank c = IsSpace c ⊎ ((c ≡ 10) ⊎ (c ≡ 13))

newline_first : (o : ℕ) (xs : List ℕ) → NewlineText o xs
    → (c : ℕ) × (r : List ℕ) × (xs ≡ c ∷ r) × ((c ≡ 10) ⊎ (c ≡ 13))
unfolding EitherText BothText Spelled
newline_first o xs (inl (is, e)) = (10, [], e, inl refl)
newline_first o xs (inr (a, b, ps, qs, (i, f), (j, g), e, out)) =
    (13, qs, e ∙ ap (λ l. l ++ qs) f, inr refl)

blank_first : (o : ℕ) (xs : List ℕ) → BlankText o xs
    → (c : ℕ) × (r : List ℕ) × (xs ≡ c ∷ r) × StartsBlank c
unfolding EitherText TokenOfText
blank_first o xs (inl (is, e)) = (o, [], e, inl is)
blank_first o xs (inr x) = let (c, r, e, is) = newline_first o xs x in (c, r, e, inr is)

none_by : {text : Text ℕ ℕ} {starts : ℕ → Type 0}
    → ((o : ℕ) (xs : List ℕ) → text o xs
    → (c : ℕ) × (r : List ℕ) × (xs ≡ c ∷ r) × starts c)
    → (c : ℕ) (xs : List ℕ) → (starts c → ⊥) → NoneWritten text (c ∷ xs)
none_by {starts = starts} first c xs not o ps qs x e =
    let (d, r, f, is) = first o ps x in
    let whole : c ∷ xs ≡ d ∷ (r ++ qs) = rw f at e in
    let same : c ≡ d = cc in not (subst starts (sym same) is)

pub none_first : (c : ℕ) (xs : List ℕ) → (StartsBlank c → ⊥) → NoneWritten BlankText (c ∷ xs)
none_first = none_by blank_first

none_empty : NoneWritten BlankText []
none_empty o ps qs x e =
    let (d, r, f, is) = blank_first o ps x in
    let whole : [] ≡ d ∷ (r ++ qs) = rw f at e in cc

-- ---- bodies

module _ (mark : Mark) where
  abbrev Body : ℕ → List ℕ → List ℕ → Type 0
  Body room os xs = BodyText (mark_of mark) (content_of mark) (skips_of mark) room os xs

  skip_nil : (ys : List ℕ) → skips_of mark [] ys
  skip_nil = by mark
    where
      by : (mark : Mark) (ys : List ℕ) → skips_of mark [] ys
      by marks.Basic ys = inl refl
      by marks.Literal ys = refl

  body_nil : (room : ℕ) → Body room [] []
  unfolding BodyText
  body_nil room = skip_nil []

  pub body_content : (room o : ℕ) (os ys zs : List ℕ) → content_of mark o ys → Body 2 os zs
      → Body room (o ∷ os) (ys ++ zs)
  unfolding BodyText
  body_content room o os ys zs x b = ([], ys, zs, refl, skip_nil (ys ++ zs), inl (x, b))

  body_quote : (k : ℕ) (os zs : List ℕ) → Body k os zs
      → Body (suc k) (mark_of mark ∷ os) (mark_of mark ∷ zs)
  unfolding BodyText
  body_quote k os zs b =
      ([], mark_of mark ∷ [], zs, refl, skip_nil (mark_of mark ∷ zs), inr (k, refl, refl, refl, b))

  pub white_content : (c : ℕ) → IsSpace c → content_of mark c (c ∷ [])
  unfolding EitherText TokenOfText
  white_content c is = by mark
    where
      by : (mark : Mark) → content_of mark c (c ∷ [])
      by marks.Basic =
          inl (inl ((grind (arith, is), (grind (arith, is), grind (arith, is))), refl))
      by marks.Literal = inl ((grind (arith, is), grind (arith, is)), refl)

  blank_content : (o : ℕ) (xs : List ℕ) → BlankText o xs → content_of mark o xs
  unfolding EitherText TokenOfText
  blank_content o xs (inl (is, e)) = rw e (white_content o is)
  blank_content o xs (inr x) = by mark
    where
      by : (mark : Mark) → content_of mark o xs
      by marks.Basic = inr x
      by marks.Literal = inr x

  as_content : (bs xs os zs : List ℕ) → EachText BlankText bs xs → Body 2 os zs
      → (ks : List ℕ) × Body 2 ks (xs ++ zs)
  unfolding EachText
  as_content [] xs os zs e b = (os, rw e b)
  as_content (o ∷ bs) xs os zs (ps, qs, x, more, e) b =
      let (ks, y) = as_content bs qs os zs more b in
      let whole = body_content 2 o ks ps (qs ++ zs) (blank_content o ps x) y in
      (o ∷ ks, rw (e, append_assoc ps qs zs) whole)

  mark_no_blank : StartsBlank (mark_of mark) → ⊥
  mark_no_blank = by mark
    where
      by : (mark : Mark) → StartsBlank (mark_of mark) → ⊥
      by marks.Basic is = omega (arith, is)
      by marks.Literal is = omega (arith, is)

module _ (A : Type 0) (level : ℕ) (held : List Bracket) (mark : Mark) where
  abbrev Closed : List ℕ → Type 0
  Closed l = Then (DelimiterText (mark_of mark)) (After A level held) l

  abbrev LongAt : List ℕ → Type 0
  LongAt l = LongRest A level mark held l

  delimiter : (l : List ℕ) → After A level held l
      → Closed (mark_of mark ∷ mark_of mark ∷ mark_of mark ∷ l)
  delimiter l k =
      both _ (one (mark_of mark) (both _ (one (mark_of mark) (one (mark_of mark) k))))

  firm : (os xs ys : List ℕ) → Body mark 2 os xs → NoneWritten BlankText xs → Closed ys
      → LongAt (xs ++ ys)
  firm os xs ys b not k = nil _ (os, xs, ys, b, not, refl, k)

  -- at most two quotation marks before a text that may come after none
  pub pending : (n : ℕ) (os xs ys : List ℕ) → n ≤ 2 → ((room : ℕ) → Body mark room os xs)
      → (n ≡ 0 → NoneWritten BlankText xs) → Closed ys → LongAt (marked mark n (xs ++ ys))
  pending zero os xs ys few b not k = firm os xs ys (b 2) (not refl) k
  pending (suc zero) os xs ys few b not k =
      firm (mark_of mark ∷ os) (mark_of mark ∷ xs) ys (body_quote mark 1 os xs (b 1))
      (none_first (mark_of mark) xs (mark_no_blank mark)) k
  pending (suc (suc zero)) os xs ys few b not k =
      firm (mark_of mark ∷ mark_of mark ∷ os) (mark_of mark ∷ mark_of mark ∷ xs) ys
      (body_quote mark 1 (mark_of mark ∷ os) (mark_of mark ∷ xs) (body_quote mark 0 os xs (b 0)))
      (none_first (mark_of mark) (mark_of mark ∷ xs) (mark_no_blank mark)) k
  pending (suc (suc (suc n))) os xs ys few b not k = absurd (omega (arith, few))

  abbrev Whole : List ℕ → Type 0
  Whole l =
      (os : List ℕ) × (xs : List ℕ) × (ys : List ℕ) × Body mark 2 os xs × (l ≡ xs ++ ys)
      × Closed ys

  pub whole : (l : List ℕ) → LongAt l → Whole l
  whole l t =
      let (bs, ps, r, x, e, (os, xs, ys, b, not, f, k)) = parts t in
      let (ks, y) = as_content mark bs ps os xs x b in
      (ks, ps ++ xs, ys, y, e ∙ ap (λ m. ps ++ m) f ∙ sym (append_assoc ps xs ys), k)

  -- a character of the content, or a blank
  pub content_made : (n o : ℕ) (ps l : List ℕ) → n ≤ 2 → content_of mark o ps
      → ((zs : List ℕ) → n ≡ 0 → NoneWritten BlankText (ps ++ zs)) → LongAt l
      → LongAt (marked mark n (ps ++ l))
  content_made n o ps l few x not t =
      let (os, xs, ys, b, e, k) = whole l t in
      let P : List ℕ → Type 0 = λ m. LongAt (marked mark n m) in
      subst P (append_assoc ps xs ys ∙ ap (λ m. ps ++ m) (sym e))
      (pending n (o ∷ os) (ps ++ xs) ys few (λ room. body_content mark room o os ps xs x b)
      (not xs) k)

  pub blank_made : (n o : ℕ) (ps l : List ℕ) → n ≤ 2 → BlankText o ps → LongAt l
      → LongAt (marked mark n (ps ++ l))
  blank_made zero o ps l few x t = cons (to o ps l x refl t)
  blank_made (suc n) o ps l few x t =
      content_made (suc n) o ps l few (blank_content mark o ps x)
      (λ zs e. absurd (omega (arith, e))) t

  -- the closing ones
  pub closes : (n : ℕ) (l : List ℕ) → (nat_lt n 3 ≡ false) → n ≤ 5 → After A level held l
      → LongAt (marked mark n l)
  closes zero l many few k = absurd (grind (arith, nat_tests, many))
  closes (suc zero) l many few k = absurd (grind (arith, nat_tests, many))
  closes (suc (suc zero)) l many few k = absurd (grind (arith, nat_tests, many))
  closes (suc (suc (suc n))) l many few k =
      let P : List ℕ → Type 0 = λ m. LongAt m in
      subst P (sym (shift n)) (pending n [] [] (mark_of mark ∷ mark_of mark ∷ mark_of mark ∷ l)
      (omega (arith, few)) (λ room. body_nil mark room) (λ e. none_empty) (delimiter l k))
    where
      shift : (n : ℕ) → marked mark (suc (suc (suc n))) l
          ≡ marked mark n (mark_of mark ∷ mark_of mark ∷ mark_of mark ∷ l)
      shift zero = refl
      shift (suc n) = ap (λ m. mark_of mark ∷ m) (shift n)

  pub one_more : (n : ℕ) (l : List ℕ) → marked mark (n + 1) l ≡ marked mark n (mark_of mark ∷ l)
  one_more zero l = refl
  one_more (suc n) l =
      let P : ℕ → Type 0 = λ k. marked mark k l ≡ marked mark (suc n) (mark_of mark ∷ l) in
      let e : suc (n + 1) ≡ suc n + 1 = omega arith in
      subst P e (ap (λ m. mark_of mark ∷ m) (one_more n l))

-- ---- an escaped line

line_gathered : {K : List ℕ → Type 0} {l : List ℕ} → Then (EachText BlankText) K l
    → Then (GatheredText (λ (all : ⊤) parts. ⊤) (EachText BlankText)) K l
unfolding GatheredText
line_gathered t = let (os, xs, ys, x, e, k) = parts t in to tt xs ys (os, tt, x) e k

line_made : {K : List ℕ → Type 0} {l : List ℕ} → Fits l
    → Then WsText (Then NewlineText (Then (EachText BlankText) K)) l
    → Then EscapedLineText K (92 ∷ l)
line_made fits t =
    both _ (one 92 (both _ (behind fits
    (λ ys f k. both _ (behind f (λ zs g w. line_gathered w) k)) t)))

slash_first : (o : ⊤) (xs : List ℕ) → EscapedLineText o xs → (r : List ℕ) × (xs ≡ 92 ∷ r)
unfolding BothText Spelled
slash_first o xs (a, b, ps, qs, (is, e), x, f, out) = (qs, f ∙ ap (λ l. l ++ qs) e)

-- one more before others, or none
more_lines : (o : ⊤) (sk xs ys : List ℕ) → EscapedLineText o sk
    → EscapedLines xs ys
    → NoneWritten BlankText (xs ++ ys) → EscapedLines (sk ++ xs) ys
unfolding GatheredText EachText
more_lines o sk xs ys x (inl e) not =
    inr ((o ∷ [], tt, (sk, [], x, refl, ap (λ l. sk ++ l) e)), rw e at not)
more_lines o sk xs ys x (inr ((os, holds, y), none)) not =
    inr ((o ∷ os, tt, (sk, xs, x, y, refl)), none)

module _ (A : Type 0) (level : ℕ) (held : List Bracket) where
  -- an escaped line before the rest of a string
  pub escaped_line : (n : ℕ) (l : List ℕ) → n ≤ 2 → Fits l
      → Then WsText (Then NewlineText (LongRest A level marks.Basic held)) l
      → LongRest A level marks.Basic held (marked marks.Basic n (92 ∷ l))
  unfolding BodyText
  escaped_line n l few fits t =
      let (o, sk, r, x, e, (os, xs, ys, b, not, f, k)) = parts (line_made fits t) in
      let (q, g) = slash_first o sk x in
      let P : List ℕ → Type 0 = λ m. LongRest A level marks.Basic held (marked marks.Basic n m) in
      subst P (append_assoc sk xs ys ∙ ap (λ m. sk ++ m) (sym f) ∙ sym e)
      (pending A level held marks.Basic n os (sk ++ xs) ys few (attach o sk x q g os xs b not)
      (λ e. subst (λ m. NoneWritten BlankText (m ++ xs)) (sym g)
      (none_first 92 (q ++ xs) (λ is. omega (arith, is)))) k)
    where
      room_is : (room : ℕ) (sk q ps : List ℕ) → sk ≡ 92 ∷ q → room_behind room (sk ++ ps) ≡ 2
      room_is room sk q ps e = ap (λ m. room_behind room (m ++ ps)) e

      always : (ps : List ℕ) → room_behind 2 ps ≡ 2
      always [] = refl
      always (p ∷ ps) = refl

      attach : (o : ⊤) (sk : List ℕ) → EscapedLineText o sk → (q : List ℕ) → sk ≡ 92 ∷ q
          → (os xs : List ℕ) → BodyText 34 (content_of marks.Basic) EscapedLines 2 os xs
          → NoneWritten BlankText xs → (room : ℕ)
          → BodyText 34 (content_of marks.Basic) EscapedLines room os (sk ++ xs)
      attach o sk x q g [] xs b not room =
          more_lines o sk xs [] x b (rw (append-nil xs) not)
      attach o sk x q g (c ∷ os) xs (ps, cs, zs, e, skip, rest) not room =
          let split = ap (λ m. sk ++ m) e ∙ sym (append_assoc sk ps (cs ++ zs)) in
          let skips = more_lines o sk ps (cs ++ zs) x skip (rw e at not) in (
            sk ++ ps,
            cs,
            zs,
            split,
            skips,
            elim rest [
              | inl content ↦ inl content
              | inr (k, is, out, mark, body) ↦
                  inr (k, room_is room sk q ps g ∙ sym (always ps) ∙ is, out, mark, body)
            ],
          )

-- ---- the whole of a string

newline_emits : Emits NewlineText
unfolding EitherText BothText Spelled
newline_emits = record { is = is }
  where
    is : (o : ℕ) (xs : List ℕ) → NewlineText o xs → all_scalars xs ≡ true
        → IsScalar o × (1 ≤ length xs)
    is o xs (inl (same, e)) scalars =
        (rw same refl, omega (arith, ap (λ k. length k) e))
    is o xs (inr (a, b, ps, qs, (i, f), (j, g), e, out)) scalars =
        let size = ap (λ k. length k) e ∙ length-append ps qs in
        (rw (out, j) refl, omega (arith, size, ap (λ k. length k) f))

either_emits : {one two : Text ℕ ℕ} → Emits one → Emits two → Emits (EitherText one two)
unfolding EitherText
either_emits f g = record {
  is = λ o xs x scalars. elim x [
    | inl y ↦ f.is o xs y scalars
    | inr y ↦ g.is o xs y scalars
  ];
}

content_emits : (mark : Mark) → Emits (content_of mark)
content_emits marks.Basic = either_emits character_emits newline_emits
content_emits marks.Literal = either_emits (token_emits (IsOf sets.Literal)) newline_emits

mark_scalar : (mark : Mark) → IsScalar (mark_of mark)
mark_scalar marks.Basic = refl
mark_scalar marks.Literal = refl

body_spells : (mark : Mark) (room : ℕ)
    → Spells (BodyText (mark_of mark) (content_of mark) (skips_of mark) room)
unfolding BodyText
body_spells mark room = record { few = λ os xs b scalars. few os room xs b scalars }
  where
    few : (os : List ℕ) (room : ℕ) (xs : List ℕ)
        → BodyText (mark_of mark) (content_of mark) (skips_of mark) room os xs
        → all_scalars xs ≡ true → (all_scalars os ≡ true) × (length os ≤ length xs)
    few [] room xs b scalars = (refl, omega arith)
    few (o ∷ os) room xs (ps, cs, zs, e, skip, rest) scalars =
        let (before, behind) = scalars_parts ps (cs ++ zs) (rw e at scalars) in
        let (here, there) = scalars_parts cs zs behind in
        let size = ap (λ m. length m) e ∙ length-append ps (cs ++ zs) in
        let both = length-append cs zs in
        elim rest [
          | inl (x, body) ↦
              let (is, some) = (content_emits mark).is o cs x here in
              let (all, less) = few os 2 zs body there in
              (and_true _ (all_scalars os) is all, omega (arith, some, less, size, both))
          | inr (k, room-is, out, quote, body) ↦
              let (all, less) = few os k zs body there in
              let one = ap (λ m. length m) quote in
              let is : IsScalar o = rw out (mark_scalar mark) in
              (and_true _ (all_scalars os) is all, omega (arith, less, size, both, one))
        ]

newline_blank : (o : ℕ) (xs : List ℕ) → NewlineText o xs → BlankText o xs
unfolding EitherText
newline_blank o xs x = inr x

no_newline : (c : ℕ) (xs : List ℕ) → IsSpace c → NoneWritten NewlineText (c ∷ xs)
no_newline c xs space = none_by newline_first c xs (λ is. omega (arith, is, space))

module _ {A : Type 0} (alloc : A) (level : ℕ) (held : List Bracket) (mark : Mark) where
  abbrev Row : Text ℕ (List ℕ)
  Row = BodyText (mark_of mark) (content_of mark) (skips_of mark) 2

  pub long_start : (l : List ℕ) → Fits l → LongRest A level mark held l
      → LongStart A level mark held l
  unfolding Trimmed EachText EitherText TokenOfText BothText
  long_start l fits t =
      let (bs, xs, r, x, e, firm) = parts t in by bs xs r x e firm
    where
      trimmed : (os xs ys : List ℕ) → Row os xs → NoneWritten NewlineText xs → l ≡ xs ++ ys
          → Then (DelimiterText (mark_of mark)) (After A level held) ys
          → LongStart A level mark held l
      trimmed os xs ys b not e k =
          let (s, text) = gathered_text alloc os xs (fit_parts l xs ys e fits).0
          (body_spells mark 2) b in
          to s xs ys (inr (text, not)) e k

      after : (o : ℕ) (ps m : List ℕ) → NewlineText o ps → l ≡ ps ++ m
          → LongRest A level mark held m → LongStart A level mark held l
      after o ps m x e t =
          let (os, xs, ys, b, f, k) = whole A level held mark m t in
          let all = e ∙ ap (λ l. ps ++ l) f ∙ sym (append_assoc ps xs ys) in
          let inner = (fit_parts (ps ++ xs) ps xs refl (fit_parts l (ps ++ xs) ys all fits).0).1 in
          let (s, text) = gathered_text alloc os xs inner (body_spells mark 2) b in
          to s (ps ++ xs) ys (inl (o, s, ps, xs, x, text, refl, refl)) all k

      by : (bs xs r : List ℕ) → EachText BlankText bs xs → l ≡ xs ++ r → Firm A level mark held r
          → LongStart A level mark held l
      by [] xs r x e (os, zs, ys, b, not, f, k) =
          trimmed os zs ys b (λ o ps qs y g. not o ps qs (newline_blank o ps y) g)
          (e ∙ ap (λ m. m ++ r) x ∙ f) k
      by (o ∷ bs) xs r (ps, qs, inr newline, more, f) e firm =
          after o ps (qs ++ r) newline
          (e ∙ ap (λ m. m ++ r) f ∙ append_assoc ps qs r) (to bs qs r more refl firm)
      by (o ∷ bs) xs r (ps, qs, inl (is, g), more, f) e firm =
          let all = e ∙ ap (λ m. m ++ r) f ∙ append_assoc ps qs r in
          let (os, zs, ys, b, h, k) = whole A level held mark (qs ++ r) (to bs qs r more refl firm)
          in
          let body = body_content mark 2 o os (o ∷ []) zs (white_content mark o is) b in
          trimmed (o ∷ os) (o ∷ zs) ys body (no_newline o zs is)
          (all ∙ ap (λ m. m ++ (qs ++ r)) g ∙ ap (λ m. o ∷ m) h) k
