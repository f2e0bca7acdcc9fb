-- Lemmas about the data of a string.
use Rattle.std.specs.Prelude.{◌≡◌, ◌<◌, ◌-◌, ℕ, List, [], ◌∷◌, ◌++◌, length, take, zero, suc}
use Rattle.std.specs.Borrow.{Bor}
use Rattle.std.specs.List.{IsSplitAt}
use Rattle.std.proofs.Common.{refl, sym, ap, subst, ◌∙◌, arith, append_assoc, length-append}
use Rattle.std.proofs.lemmas.List.{nil_from_length, take-append-drop}
use Rattle.grammars.specs.Grammar.Lengths.{same_beginnings}
use Rattle.winnow_grammar.specs.InTurn.{First}
use Rattle.grammars.specs.Texts.{CountedText}
use Rattle.format_resp.proofs.Encodings.{data_determined}
use Rattle.format_resp.specs.Extents.{IsNoString, IsPartOfData}
use Rattle.format_resp.specs.Resp.{DataText, FitsFormat, StringText, WithLineEnd, line_end}
use Rattle.format_resp.specs.declared.extent.Bulk.{Bulk}

-- a list of `n` bytes
some_list : (n : ℕ) → (xs : List ℕ) × (length xs ≡ n)
some_list zero = ([], refl)
some_list (suc n) = let (xs, e) = some_list n in (0 ∷ xs, ap (λ k. suc k) e)

-- fewer bytes are there
pub data_short : (size : ℕ) (tokens : List ℕ) → length tokens < size → IsPartOfData size tokens
data_short size tokens less =
    let (fill, many) = some_list (size - length tokens) in
    record {
      bytes = tokens ++ fill;
      more = fill ++ line_end;
      enough = omega (arith, less, many, length-append tokens fill);
      some = omega (arith, length-append fill line_end);
      whole = sym (append_assoc tokens fill line_end);
    }

-- a proper prefix of a line ending
pub end_none : (tokens : List ℕ) → length tokens ≡ 0
    → (x : ℕ) × (more : List ℕ) × (line_end ≡ tokens ++ (x ∷ more))
end_none tokens none =
    (13, 10 ∷ [], ap (λ l. l ++ (13 ∷ 10 ∷ [])) (sym (nil_from_length tokens none)))

pub end_return : (tokens left : List ℕ) (first : ℕ) → tokens ≡ first ∷ left → first ≡ 13
    → length left ≡ 0 → (x : ℕ) × (more : List ℕ) × (line_end ≡ tokens ++ (x ∷ more))
end_return tokens left first e is none =
    let empty = nil_from_length left none in
    let same : tokens ≡ 13 ∷ [] = cc in (10, [], ap (λ l. l ++ (10 ∷ [])) (sym same))

-- the data and the rest
module _ (size : ℕ) (tokens : List ℕ) (text : Bor (List ℕ)) (behind : List ℕ)
    (split : IsSplitAt tokens size text.now behind) where
  data_split : tokens ≡ text.now ++ behind
  data_split =
      let (enough, before, after, many, left) = split in
      sym (take-append-drop size tokens) ∙ ap (λ l. take size tokens ++ l) (sym after)
      ∙ ap (λ l. l ++ behind) (sym before)

  data_many : length text.now ≡ size
  data_many = let (enough, before, after, many, left) = split in many

  pub data_ended : (left : List ℕ) → behind ≡ line_end ++ left
      → First (DataText size) tokens text left
  unfolding First DataText WithLineEnd CountedText
  data_ended left e = (
    text.now ++ line_end,
    (text.now, (data_many, refl), refl),
    data_split ∙ ap (λ l. text.now ++ l) e ∙ sym (append_assoc text.now line_end left),
  )

  pub data_open : (x : ℕ) (more : List ℕ) → line_end ≡ behind ++ (x ∷ more)
      → IsPartOfData size tokens
  data_open x more e = record {
    bytes = text.now;
    more = x ∷ more;
    enough = data_many;
    some = omega arith;
    whole = ap (λ l. l ++ (x ∷ more)) data_split ∙ append_assoc text.now behind (x ∷ more)
        ∙ ap (λ l. text.now ++ l) (sym e);
  }

  pub data_refused : ((more left : List ℕ) → behind ++ more ≡ line_end ++ left → ⊥)
      → (more : List ℕ) (bytes : Bor (List ℕ)) (left : List ℕ)
      → First (DataText size) (tokens ++ more) bytes left → ⊥
  unfolding First DataText WithLineEnd CountedText
  data_refused none more bytes left (front, (xs, (many, shown), e), d) =
      none more left (same_beginnings text.now xs (behind ++ more) (line_end ++ left)
      (data_many ∙ sym many)
      (sym (append_assoc text.now behind more) ∙ ap (λ l. l ++ more) (sym data_split) ∙ d
      ∙ ap (λ l. l ++ left) e ∙ append_assoc xs line_end left)).1

-- data that are those of a string, or not
module _ (bulk : Bulk) (tokens : List ℕ) where
  pub string_stands : (text : Bor (List ℕ)) (left : List ℕ) → FitsFormat bulk.verbatim text.now
      → First (DataText bulk.size) tokens text left
      → (bytes : Bor (List ℕ)) × First (StringText bulk) tokens bytes left
  unfolding First
  string_stands text left fits (front, t, e) = (text, (front, (fits, t), e))

  pub string_none : ((more : List ℕ) (bytes : Bor (List ℕ)) (left : List ℕ)
      → First (DataText bulk.size) (tokens ++ more) bytes left → ⊥) → IsNoString bulk tokens
  unfolding First
  string_none none more bytes left (front, (fits, t), e) = none more bytes left (front, t, e)

  pub string_unfit : (text : Bor (List ℕ)) (left : List ℕ) → (FitsFormat bulk.verbatim text.now → ⊥)
      → First (DataText bulk.size) tokens text left → IsNoString bulk tokens
  unfolding First
  string_unfit text left unfit (front, t, e) more bytes rest (back, (fits, u), f) =
      let same : text.now ≡ bytes.now =
      (data_determined bulk.size text bytes (tokens ++ more) (left ++ more) rest
      (front, t, ap (λ l. l ++ more) e ∙ append_assoc front left more) (back, u, f)).0 in
      unfit (subst (FitsFormat bulk.verbatim) (sym same) fits)

  -- the rest is shorter
  pub string_less : (text : Bor (List ℕ)) (left : List ℕ)
      → First (DataText bulk.size) tokens text left → length left < length tokens
  unfolding First DataText WithLineEnd
  string_less text left (front, (xs, many, e), d) = omega (
    arith,
    ap (λ l. length l) d,
    length-append front left,
    ap (λ l. length l) e,
    length-append xs (13 ∷ 10 ∷ []),
  )

  -- incomplete data are not complete data
  pub part_none : IsPartOfData bulk.size tokens → (bytes : Bor (List ℕ)) (left : List ℕ)
      → First (StringText bulk) tokens bytes left → ⊥
  unfolding First DataText WithLineEnd CountedText
  part_none p bytes left (front, (fits, (xs, (many, shown), e)), d) = omega (
    arith,
    p.some,
    p.enough,
    many,
    ap (λ l. length l) p.whole,
    length-append tokens p.more,
    length-append p.bytes line_end,
    ap (λ l. length l) d,
    length-append front left,
    ap (λ l. length l) e,
    length-append xs line_end,
  )
