-- The results of parsing a text that was written.
use Rattle.std.specs.Prelude.{◌≡◌, ℕ, List, Result, Ok, IfErr}
use Rattle.std.specs.Str.{chars}
use Rattle.std.proofs.Common.{sym, subst}
use Rattle.streams.specs.Kind.{Kind}
use Rattle.streams.specs.declared.needed.Needed.{Needed}
use Rattle.stream_errors.specs.declared.fault.ParseFault.{ParseFault}
use Rattle.format_json_texts.specs.Values.{JsonText, ValueText}
use Rattle.format_json_texts.specs.declared.value.Value.{Value}
use Rattle.format_json_writer.specs.Alike.{AreAlike}
use Rattle.format_json_writer.proofs.Equivalent.{texts_alike}
use Rattle.format_json_writer.proofs.Within.{IsWithin, within_alone, within_refl, within_spaced}
use Rattle.winnow_core.specs.Exact.Whole.{IsWant}
use Rattle.stream_sets.specs.Accumulator.Holds.{HasCharacters}
use Rattle.winnow_grammar.specs.Told.{IsTextOf, text_found}

module _ {A : Type 0} where
  as_json : (level : ℕ) → IsWithin (ValueText {A = A} HasCharacters level)
      (JsonText HasCharacters level)
  as_json level = within_alone (within_spaced within_refl)

  pub written_alike : (level : ℕ) (v w : Value A) (tokens : List ℕ)
      → ValueText HasCharacters level v tokens → JsonText HasCharacters level w tokens
      → AreAlike level v w
  written_alike level v w tokens written read =
      texts_alike level v w tokens ((as_json level).told v tokens written) read

module _ {A : Type 0} (level : ℕ) (v : Value A) {text : List ℕ} (shown : List ℕ)
    (same : shown ≡ text) (written : ValueText HasCharacters level v (chars text)) where
  shown_text : ValueText HasCharacters level v (chars shown)
  shown_text =
      let P : List ℕ → Type 0 = λ l. ValueText HasCharacters level v (chars l) in
      subst P (sym same) written

  module _ {I X : Type 0} {kind : X → Kind} where
    pub read_alike : {read : Value A}
        → IsTextOf {I = I} kind (JsonText HasCharacters level) (chars shown) (Ok read)
        → AreAlike level v read
    read_alike {read} told = written_alike level v read (chars shown) shown_text told.stands

    -- only memory may be wanting
    pub read_wants : {result : Result (Value A) (ParseFault I X Needed)}
        → IsTextOf kind (JsonText HasCharacters level) (chars shown) result
        → IfErr result (λ fault. IsWant kind fault)
    read_wants told =
        text_found told v ((as_json level).told v (chars shown) shown_text)
