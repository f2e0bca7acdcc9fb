-- Lines of a text are texts.
use lib.Utf8.{encode}
use Rattle.std.specs.Prelude.{◌≡◌, ◌+◌, ◌<◌, ◌++◌, ℕ, List, [], ◌∷◌, length, drop, take}
use Rattle.std.specs.Str.{IsUtf8}
use Rattle.std.proofs.Common.{◌∙◌, ap, arith, inl, inr, length-append, refl, subst, sym}
use Rattle.std.proofs.Math.ListN.{get_or}
use Rattle.std.proofs.Math.Seq.{drop-append_seam, take-append_seam}
use Rattle.std.proofs.lemmas.List.{drop-drop}
use Rattle.std.proofs.lemmas.Str.{IsCharBoundary-after_ascii, IsCharBoundary-before_ascii}
use Rattle.std.proofs.lemmas.Str.{IsCharBoundary-from_take, IsUtf8-drop, IsUtf8-nil}
use Rattle.std.proofs.lemmas.Str.{IsUtf8-take}
use Rattle.format_ini.proofs.Passing.{drop_zero}
use Rattle.format_ini.specs.Documents.{AfterByteOrderMark, AreLines}
use Rattle.format_ini.specs.Front.{FirstLine}

at_seam : (line rest : List ℕ) → get_or (line ++ (10 ∷ rest)) (length line) 0 ≡ 10
at_seam [] rest = refl
at_seam (b ∷ line) rest = at_seam line rest

take_none : (bytes : List ℕ) → take 0 bytes ≡ []
take_none [] = refl
take_none (b ∷ bytes) = refl

pub line_text : (text line rest : List ℕ) → FirstLine text line rest → IsUtf8 text
    → IsUtf8 line × IsUtf8 rest
line_text text line rest (none, inl e) is =
    let all = line ++ (10 ∷ rest) in
    let n = length line in
    let known : IsUtf8 all = subst (λ l. IsUtf8 l) e is in
    let within : n < length all = omega (arith, length-append line (10 ∷ rest)) in
    let ascii : get_or all n 0 < 128 = omega (arith, at_seam line rest) in
    let left : drop (n + 1) all ≡ rest =
    sym (drop-drop 1 n all) ∙ ap (λ l. drop 1 l) (drop-append_seam line (10 ∷ rest))
    ∙ drop_zero rest in (
      subst (λ l. IsUtf8 l) (take-append_seam line (10 ∷ rest))
          (IsUtf8-take all n known (IsCharBoundary-before_ascii all n within ascii)),
      subst (λ l. IsUtf8 l) left
          (IsUtf8-drop all (n + 1) known (IsCharBoundary-after_ascii all n known within ascii)),
    )
line_text text line rest (none, inr (e, nil, some)) is =
    (subst (λ l. IsUtf8 l) e is, subst (λ l. IsUtf8 l) (sym nil) IsUtf8-nil)

pub rest_text : (lines : List (List ℕ)) (text rest : List ℕ) → AreLines text lines rest
    → IsUtf8 text → IsUtf8 rest
unfolding AreLines
rest_text [] text rest are is = subst (λ l. IsUtf8 l) are is
rest_text (line ∷ lines) text rest (behind, first, are) is =
    rest_text lines behind rest are (line_text text line behind first is).1

-- the byte order mark is a character
mark_is_text : IsUtf8 (239 ∷ 187 ∷ 191 ∷ [])
unfolding encode
mark_is_text = (65279 ∷ [], (refl, refl))

pub mark_text : (bytes lines : List ℕ) → AfterByteOrderMark bytes lines → IsUtf8 bytes
    → IsUtf8 lines
mark_text bytes lines (inl e) is =
    let all = 239 ∷ 187 ∷ 191 ∷ lines in
    let known : IsUtf8 all = subst (λ l. IsUtf8 l) e is in
    let mark : IsUtf8 (take 3 all) = subst (λ l. IsUtf8 l)
    (sym (ap (λ l. 239 ∷ 187 ∷ 191 ∷ l) (take_none lines)))
    mark_is_text in
    subst (λ l. IsUtf8 l) (drop_zero lines)
    (IsUtf8-drop all 3 known (IsCharBoundary-from_take all 3 known (omega arith) mark))
mark_text bytes lines (inr (e, none)) is = subst (λ l. IsUtf8 l) (sym e) is
