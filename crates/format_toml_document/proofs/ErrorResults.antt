-- Lemmas about the position and the contents of a `TomlError`.
use Rattle.std.specs.Prelude.{◌≡◌, ◌-◌, ℕ, List, [], ◌∷◌, ◌++◌, Option, Some, length, take}
use Rattle.std.specs.Prelude.{◌<◌, ◌^◌, Err, IfOk, Ok, Result, true}
use Rattle.std.specs.Borrow.{Bor}
use Rattle.std.specs.Str.{IsCharBoundary, IsUtf8, all_scalars, chars, encode_utf8_all}
use Rattle.std.specs.declared.vec.Vec.{Vec}
use Rattle.std.proofs.Common.{refl, sym, ap, subst, ◌∙◌, arith, append_assoc}
use Rattle.std.proofs.Common.{length-append}
use Rattle.std.proofs.Math.Seq.{take-append_seam}
use Rattle.std.proofs.lemmas.Bool.{and_from, and_parts}
use Rattle.std.proofs.lemmas.Str.{IsCharBoundary-at_seam, IsUtf8-take, encodes-append}
use Rattle.std.proofs.lemmas.Str.{encodes-chars, scalars-chars}
use Rattle.format_parts.specs.Location.{IsLocation}
use Rattle.format_parts.specs.declared.location.Location.{Location}
use Rattle.format_toml.specs.Starts.{IsStart, start_end}
use Rattle.format_toml.specs.Toml.{DocumentText}
use Rattle.format_toml_document.specs.Fault.{IsAfter, IsDocument, IsErrorOf, IsOpening}
use Rattle.format_toml_document.specs.Fault.{IsRefusal, IsUnexpected, NoneBegins, OneBegins}
use Rattle.format_toml_document.proofs.AlikeLines.{texts_alike}
use Rattle.format_toml_document.proofs.AlikeRuns.{tree_or_refusal}
use Rattle.format_toml_document.proofs.Documents.{none_begins}
use Rattle.format_toml_document.proofs.Thens.{scalars_parts}
use Rattle.format_toml_document.proofs.Whole.{only_documents}
use Rattle.format_toml_document.specs.declared.fault.TomlError.{TomlError}
use Rattle.format_toml_document.specs.declared.fault.TomlError.TheVariants as faults
use Rattle.format_toml_errors.specs.Stop.{IsCompletable, IsStopIn, IsStopped}
use Rattle.format_toml_errors.specs.Unclosed.{IsUnclosed, text_of, unclosed_is_end}
use Rattle.format_toml_errors.specs.declared.walk.Stop.{Stop}
use Rattle.format_toml_tree.specs.Runs.{Gives, empty}
use Rattle.format_toml_tree.specs.declared.build.TreeError.{TreeError}
use Rattle.format_toml_tree.specs.declared.build.TreeError.TheVariants as built
use Rattle.format_toml_tree.specs.declared.roles.Reason.{Reason}
use Rattle.format_toml_tree.specs.declared.tree.Tree.{Tree}
use Rattle.format_toml_tree.specs.declared.value.Item.{Item}
use Rattle.text_positions.specs.Position.{IsPosition}

pub after_of : (text rest front : List ℕ) (offset : ℕ) (at : Location) → IsUtf8 text
    → IsUtf8 rest → chars text ≡ front ++ chars rest → offset ≡ length text - length rest
    → IsLocation text offset at → IsAfter text rest at
after_of text rest front offset at utf8 too e size location =
    let bytes = encode_utf8_all front in
    let split : text ≡ bytes ++ rest =
    sym (encodes-chars text utf8) ∙ ap encode_utf8_all e ∙ encodes-append front (chars rest)
    ∙ ap (λ l. bytes ++ l) (encodes-chars rest too) in
    let place : offset ≡ length bytes =
    omega (arith, size, ap (λ l. length l) split, length-append bytes rest) in
    let is : take offset text ≡ bytes =
    ap (λ n. take n text) place ∙ ap (λ l. take (length bytes) l) split
    ∙ take-append_seam bytes rest in
    let B : ℕ → Type 0 = λ n. IsCharBoundary text n in
    let boundary : IsCharBoundary text offset =
    subst B (sym place) (IsCharBoundary-at_seam text bytes rest split too) in
    let front_is : IsUtf8 (take offset text) = IsUtf8-take text offset utf8 boundary in
    let P : List ℕ → Type 0 = λ l. IsPosition (chars l) at.line at.column in (
      bytes,
      split,
      subst (λ l. IsUtf8 l) is front_is,
      location.0 ∙ place,
      subst P is (location.1 front_is),
    )

pub opening_told : (text : List ℕ) (stop : Stop) (start : Bor (List ℕ)) (at : Location)
    → stop.unclosed ≡ Some start
    → ((front : List ℕ) → chars text ≡ front ++ chars start.now → IsAfter text start.now at)
    → IsUnclosed (chars text) (chars stop.rest.now) (text_of stop.unclosed)
    → IsOpening text stop.rest.now (Some at)
opening_told text stop start at is after unclosed =
    let P : Option (Bor (List ℕ)) → Type 0 =
    λ o. IsUnclosed (chars text) (chars stop.rest.now) (text_of o) in
    let found : P (Some start) = subst P is unclosed in
    let (front, e) =
    unclosed_is_end (chars text) (chars stop.rest.now) (Some (chars start.now)) found in
    (start.now, found, after front e)

-- no document begins with the text before such a position and the character there
none_told : (A : Type 0) (level : ℕ) (front rest : List ℕ) → IsStopped level front rest
    → NoneBegins A level front rest
none_told A level front [] stopped = tt
none_told A level front (c ∷ rest) stopped = λ more lines text.
    none_begins level (front ++ c ∷ []) more stopped lines
    (subst (λ l. DocumentText level lines l) (sym (append_assoc front (c ∷ []) more)) text)

scalars_both : (xs ys : List ℕ) → all_scalars xs ≡ true → all_scalars ys ≡ true
    → all_scalars (xs ++ ys) ≡ true
scalars_both [] ys one two = two
scalars_both (x ∷ xs) ys one two =
    let (first, more) = and_parts _ (all_scalars xs) one in
    and_from _ _ first (scalars_both xs ys more two)

-- a document begins with what the walk accepts
pub one_told : {A : Type 0} (alloc : A) (level : ℕ) (front : List ℕ) → all_scalars front ≡ true
    → length front < 2 ^ 58 → IsCompletable level front → OneBegins A level front
one_told alloc level front scalars few (more, accepted, permitted, short) =
    let (lines, text) =
    only_documents alloc level (front ++ more) (scalars_both front more scalars permitted)
    (omega (arith, few, short, length-append front more)) accepted in
    (more, lines, text)

pub unexpected_told : {A : Type 0} (alloc : A) (level : ℕ) (text : List ℕ) (stop : Stop)
    (at : Location) (unclosed : Option Location) → IsUtf8 text
    → IsStopIn level (chars text) (Some stop)
    → ((front : List ℕ) → chars text ≡ front ++ chars stop.rest.now
    → IsAfter text stop.rest.now at)
    → (IsUnclosed (chars text) (chars stop.rest.now) (text_of stop.unclosed)
    → IsOpening text stop.rest.now unclosed)
    → IsUnexpected A level text (faults.Unexpected at stop.expected unclosed)
unexpected_told {A} alloc level text stop at unclosed utf8 (stops, starts) after opens =
    let (front, e, completable, stopped, wants) = stops in
    let P : List ℕ → Type 0 = λ l. all_scalars l ≡ true in
    let rest = chars stop.rest.now in
    let scalars = scalars_parts front rest (subst P e (scalars-chars text utf8)) in (
      stop.rest.now,
      stops,
      after front e,
      opens starts,
      (
        front,
        e,
        none_told A level front rest stopped,
        λ few. one_told alloc level front scalars.0 few completable,
      ),
    )

module _ (A : Type 0) (level : ℕ) (text : List ℕ) where
  pub refusal_told : (n : ℕ) (why : Reason) (rest : Bor (List ℕ)) (at : Location)
      → IsStart A level (chars text) n (Some rest)
      → ((front : List ℕ) → chars text ≡ front ++ chars rest.now → IsAfter text rest.now at)
      → IsRefusal A level text (built.Invalid n why) (faults.Invalid at why)
  refusal_told n why rest at start after =
      let (front, e) = start_end A level start in
      (n, refl, rest.now, start, after front e)

  pub lines_told : (lines : Vec (Item A) A) (fault : TreeError) (told : TomlError)
      → DocumentText level lines (chars text)
      → ((n : ℕ) (why : Reason) → fault ≡ built.Invalid n why
      → Gives level (empty, []) 0 lines.items (Err (n, why)))
      → IsRefusal A level text fault told → IsErrorOf A level text told
  lines_told lines fault (faults.Invalid at why) stands refused (n, is, rest, before, after) =
      (lines, stands, (n, refused n why is, (rest, before, after)))
  lines_told lines fault (faults.Unexpected at what start) stands refused never = absurd never
  lines_told lines fault (faults.NotUtf8 at) stands refused never = absurd never
  lines_told lines fault faults.OutOfMemory stands refused told = tt

  -- a text is its bytes
  pub document_told : (bytes : List ℕ) (result : Result (Tree A) TomlError) → IsUtf8 bytes
      → text ≡ bytes → IfOk result (λ tree. IsDocument A level text tree)
      → IfOk result (λ tree. IsUtf8 bytes × IsDocument A level bytes tree)
  document_told bytes (Ok tree) utf8 e stands =
      let P : List ℕ → Type 0 = λ l. IsDocument A level l tree in (utf8, subst P e stands)
  document_told bytes (Err fault) utf8 e stands = tt

  -- a text that has a tree has no other error
  pub document_faults : (tree : Tree A) (fault : TomlError) → IsUtf8 text
      → IsDocument A level text tree → IsErrorOf A level text fault → fault ≡ faults.OutOfMemory
  document_faults tree (faults.Unexpected at what start) utf8 (lines, stands, given) told =
      absurd (told.0 lines stands)
  document_faults tree (faults.Invalid at why) utf8 (lines, stands, (given, f, held, within))
      (other, has, (n, g, place)) =
      tree_or_refusal level f g (texts_alike level lines other (chars text) stands has)
  document_faults tree (faults.NotUtf8 at) utf8 is told = absurd (told.0 utf8)
  document_faults tree faults.OutOfMemory utf8 is told = refl
