-- The fields of a head that are read, and those so far.
use Rattle.std.proofs.Common.{◌≡◌, ◌∙◌, ◌<◌, ◌≤◌, ◌+◌, ◌++◌, ◌∷◌, [], ap, ℕ, List}
use Rattle.std.proofs.Common.{append_assoc, arith, drop, length, refl, slice_set, subst, sym, take}
use Rattle.std.proofs.Common.{length-append}
use Rattle.std.proofs.lemmas.List.{drop-drop, take_more_set}
use Rattle.format_http.specs.Heads.Bytes.{line_end}
use Rattle.format_http.specs.Heads.FieldLine.{IsFieldLine}
use Rattle.format_http.specs.Heads.Head.{AreFieldLines, Pair}
use Rattle.format_http_places.specs.Places.{AreShown, ShowsField, ShowsFieldLine, ShowsFields}
use Rattle.format_http_places.specs.declared.line.FieldLine.{FieldLine}
use Rattle.format_http_places.specs.declared.places.Field.{Field}
use Rattle.format_http_places.proofs.Lines.{past_lines}

-- one field more is shown after the others
shown_behind : (input lines : List ℕ) (places : List Field) (fields : List Pair)
    (line rest : List ℕ) (p : Field) (f : Pair) → AreShown input lines places fields line
    → ShowsField input p f line rest
    → AreShown input lines (places ++ p ∷ []) (fields ++ f ∷ []) rest
shown_behind input lines [] [] line rest p f e is =
    let P : List ℕ → Type 0 = λ l. ShowsField input p f l rest in
    (rest, subst P (sym e) is, refl)
shown_behind input lines [] (g ∷ fields) line rest p f never is = absurd never
shown_behind input lines (q ∷ places) [] line rest p f never is = absurd never
shown_behind input lines (q ∷ places) (g ∷ fields) line rest p f (behind, shows, others) is =
    (behind, shows, shown_behind input behind places fields line rest p f others is)

lines_behind : (fields : List Pair) (f : Pair) (bytes line rest : List ℕ)
    → AreFieldLines fields bytes line → IsFieldLine f.0 f.1 line rest
    → AreFieldLines (fields ++ f ∷ []) bytes rest
lines_behind [] f bytes line rest e is =
    let P : List ℕ → Type 0 = λ l. IsFieldLine f.0 f.1 l rest in
    (rest, subst P (sym e) is, refl)
lines_behind (g ∷ fields) f bytes line rest (behind, shows, others) is =
    (behind, shows, lines_behind fields f behind line rest others is)

-- fewer bytes follow a field
pub line_less : {name value line rest : List ℕ} → IsFieldLine name value line rest
    → length rest < length line
line_less is = omega (arith, is.some_name, simp length-append at (ap length is.splits))

-- the field lines read so far, whose offsets count from the end of the input
pub record SoFar (whole : ℕ) (bytes rest : List ℕ) (places : List Field) (count : ℕ) : Type 0 where
  pub fields : List Pair
  pub are : AreFieldLines fields bytes rest
  pub counts : count ≡ length fields
  pub shown : count ≤ length places → (input before : List ℕ) → input ≡ before ++ bytes
      → length input ≡ whole → AreShown input bytes (take count places) fields rest
  pub small : count + length rest ≤ length bytes

pub so_far_none : (whole : ℕ) (bytes : List ℕ) (places : List Field)
    → SoFar whole bytes bytes places 0
so_far_none whole bytes places = record {
  fields = [];
  are = refl;
  counts = refl;
  shown = λ room input before e size. refl;
  small = omega arith;
}

pub so_far_more : {whole : ℕ} {bytes rest : List ℕ} {places others : List Field} {count : ℕ}
    {found : FieldLine} → SoFar whole bytes rest places count → ShowsFieldLine whole rest found
    → length others ≡ length places
    → (count < length places → others ≡ slice_set places count found.field)
    → SoFar whole bytes found.rest.now others (count + 1)
so_far_more {bytes = bytes} {rest = rest} {places = places} {count = count} {found = found} it
    shows same writes =
    let field = shows.field in
    let left = found.rest.now in
    let past = past_lines it.fields it.are in record {
      fields = it.fields ++ field ∷ [];
      are = lines_behind it.fields field bytes rest left it.are shows.is_line;
      counts = omega (arith, it.counts, length-append it.fields (field ∷ []));
      shown = λ room input before at size.
          let less : count < length places = omega (arith, room, same) in
          let P : List Field → Type 0 = λ l.
          AreShown input bytes l (it.fields ++ field ∷ []) left in
          subst P (sym (ap (take (count + 1)) (writes less)
          ∙ take_more_set places count found.field less))
          (shown_behind input bytes (take count places) it.fields rest left found.field field
          (it.shown (omega (arith, less)) input before at size)
          (shows.shows input (before ++ past.front)
          (at ∙ ap (λ l. before ++ l) past.splits ∙ sym (append_assoc before past.front rest))
          size));
      small = omega (arith, it.small, line_less shows.is_line);
    }

-- the entries after those so far are unchanged
pub behind_more : (places others old : List Field) (count : ℕ)
    → drop count places ≡ drop count old
    → drop (count + 1) others ≡ drop (count + 1) places
    → drop (count + 1) others ≡ drop (count + 1) old
behind_more places others old count kept e =
    e ∙ sym (drop-drop 1 count places) ∙ ap (λ l. drop 1 l) kept ∙ drop-drop 1 count old

-- the fields read, once the empty line is there
pub so_far_ends : {whole : ℕ} {bytes rest end left : List ℕ} {places : List Field} {count : ℕ}
    → SoFar whole bytes rest places count → rest ≡ 13 ∷ end → end ≡ 10 ∷ left
    → ShowsFields whole bytes count places left
so_far_ends {bytes = bytes} {rest = rest} {left = left} {places = places} {count = count} it e f =
    let ended : rest ≡ line_end ++ left = e ∙ ap (λ l. 13 ∷ l) f in record {
      fields = it.fields;
      are_fields = record { end = rest; lines = it.are; ended = ended };
      counts = it.counts;
      shows = λ room input before at size.
          let P : List ℕ → Type 0 = λ l. AreShown input bytes (take count places) it.fields l in
          subst P ended (it.shown room input before at size);
    }
