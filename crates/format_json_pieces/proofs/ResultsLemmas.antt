-- The result of a call for a value, also with more bytes.
use Rattle.std.specs.Prelude.{◌≡◌, ℕ, true, Bool, List, [], ◌++◌, Ok, Err}
use Rattle.std.specs.Str.{IsUtf8, chars}
use Rattle.std.proofs.Common.{refl, sym, subst, inl, inr, ◌∙◌}
use Rattle.std.proofs.lemmas.List.{append-nil}
use Rattle.format_json_pieces.specs.Value.{InUtf8}
use Rattle.streams.specs.declared.needed.Needed.{Needed}
use Rattle.stream_errors.specs.declared.fault.ParseFault.{ParseFault}
use Rattle.streams.specs.Bytes.{bytes_follow, bytes_input, bytes_reading}
use Rattle.streams.specs.Equal.{true_is_false}
use Rattle.streams.specs.Input.{Input, is_end_of_refl}
use Rattle.streams.specs.Kind.{Kind}
use Rattle.streams.specs.Partial.{with_flag}
use Rattle.winnow_grammar.specs.Cut.{ReadsOrAsks}
use Rattle.winnow_core.specs.Exact.Whole.{IsNotIncomplete, IsWant}
use Rattle.grammars.specs.Grammar.{Grammar, NoMatch}
use Rattle.grammars.specs.Texts.{Text}
use Rattle.winnow_grammar.specs.Told.{IsTextOf}
use Rattle.format_json_pieces.specs.Results.{Allows, MatchesWithMore, FailsWithMore}

-- ---- what a call tells

cut_allows_more : (cut : Bool) (more : List ℕ) → cut ≡ true → Allows cut more
cut_allows_more cut more is whole = true_is_false (sym is ∙ whole)

module _ {E O : Type 0} {kind : E → Kind} (grammar : Grammar ℕ O) (cut : Bool)
    (bytes : List ℕ) where
  pub match_is_told : (o : O) (left : List ℕ) (i j : Input ℕ)
      → ((tokens : List ℕ) (p : O) (rest : List ℕ) → grammar tokens p rest
      → (front : List ℕ) × (tokens ≡ front ++ rest)) → MatchesWithMore grammar cut bytes o left
      → i ≡ with_flag (bytes_input bytes) cut → j ≡ with_flag (bytes_input left) cut
      → ReadsOrAsks bytes_reading bytes_follow kind grammar i (Ok o) j
  match_is_told o left i j ends stands from to =
      let P : Input ℕ → Type 0 =
      λ x. ReadsOrAsks bytes_reading bytes_follow kind grammar x (Ok o) j in
      let Q : Input ℕ → Type 0 = λ y.
      ReadsOrAsks bytes_reading bytes_follow kind grammar (with_flag (bytes_input bytes) cut)
      (Ok o) y
      in
      let R : List ℕ → List ℕ → Type 0 = λ l r. grammar l o r in
      let S : List ℕ → Type 0 = λ l. R l (left ++ []) in
      let here : grammar bytes o left = subst (λ r. R bytes r) (append-nil left)
      (subst S (append-nil bytes) (stands [] (λ whole. refl))) in
      let (front, splits) = ends bytes o left here in
      subst P (sym from) (subst Q (sym to) (record {
        whole = record {
          ends = record {
            ends = record { dropped = front; tokens = splits; place = refl; possible = refl };
            cut = refl;
          };
          stands = λ whole. here;
          none = λ whole. tt;
        };
        cut = λ is. record {
          stands = λ more follows. stands more (cut_allows_more cut more is);
          none = tt;
        };
      }))

  pub failure_is_told : (e : E) (i j : Input ℕ) → FailsWithMore grammar cut bytes (kind e)
      → i ≡ with_flag (bytes_input bytes) cut → j ≡ i
      → ReadsOrAsks bytes_reading bytes_follow kind grammar i (Err e) j
  failure_is_told e i j fails from to =
      let P : Input ℕ → Type 0 =
      λ x. ReadsOrAsks bytes_reading bytes_follow kind grammar x (Err e) x in
      let Q : Input ℕ → Type 0 = λ y.
      ReadsOrAsks bytes_reading bytes_follow kind grammar i (Err e) y in
      let N : List ℕ → Type 0 = λ l. NoMatch grammar l in
      subst Q (sym to) (subst P (sym from) (record {
        whole = record {
          ends = is_end_of_refl bytes_reading _;
          stands = λ whole. tt;
          none = λ whole. elim fails [
            | inl wants ↦ inl wants
            | inr (inl (asks, is)) ↦ true_is_false (sym is ∙ whole)
            | inr (inr (backs, none)) ↦ inr (
              backs,
              subst N (append-nil bytes) (none [] (λ w. refl)),
            )
          ];
        };
        cut = λ is. record {
          stands = tt;
          none = elim fails [
            | inl wants ↦ inl wants
            | inr (inl (asks, _)) ↦ inr (inl asks)
            | inr (inr (backs, none)) ↦ inr (inr (λ more follows. (
              backs,
              none more (cut_allows_more cut more is),
            )))
          ];
        };
      }))

-- ---- what a whole text is in bytes

module _ {I O X : Type 0} {inner_kind : X → Kind} (text : Text ℕ O) (bytes : List ℕ) where
  pub invalid_utf8_is_told : (fault : ParseFault I X Needed) → IsNotIncomplete fault
      → (IsUtf8 bytes → ⊥)
      → IsTextOf inner_kind (InUtf8 text) bytes (Err fault)
  unfolding InUtf8
  invalid_utf8_is_told fault refused broken =
      record { stands = tt; none = inr (λ o (utf8, written). broken utf8); whole = refused }

  module _ {J : Type 0} (seen : List ℕ) (same : seen ≡ bytes) where
    pub text_told : (o : O) → IsUtf8 bytes → IsTextOf {I = J} inner_kind text (chars seen) (Ok o)
        → IsTextOf {I = I} inner_kind (InUtf8 text) bytes (Ok o)
    unfolding InUtf8
    text_told o utf8 told =
        let P : List ℕ → Type 0 = λ l. text o (chars l) in
        record { stands = (utf8, subst P same told.stands); none = tt; whole = tt }

    pub fault_told : {kind : X → Kind} (fault : ParseFault J X Needed)
        (other : ParseFault I X Needed) → IsTextOf kind text (chars seen) (Err fault)
        → (IsWant kind fault → IsWant inner_kind other) → (IsNotIncomplete fault
        → IsNotIncomplete other)
        → IsTextOf inner_kind (InUtf8 text) bytes (Err other)
    unfolding InUtf8
    fault_told fault other told wants refuses = record {
      stands = tt;
      none = elim told.none [
        | inl want ↦ inl (wants want)
        | inr none ↦ inr (λ o (utf8, written).
            let P : List ℕ → Type 0 = λ l. text o (chars l) in none o (subst P (sym same) written))
      ];
      whole = refuses told.whole;
    }
