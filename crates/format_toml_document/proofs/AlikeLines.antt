-- Values and lines of the same text are equivalent, so a text of TOML is one list of lines.
use Rattle.std.specs.Prelude.{◌≡◌, ◌⊎◌, ℕ, ⊤, zero, suc, Bool, true, false, List, [], ◌∷◌}
use Rattle.std.specs.Prelude.{◌++◌}
use Rattle.std.specs.Prelude.{Option, Some, None}
use Rattle.std.specs.declared.vec.Vec.{Vec}
use Rattle.std.proofs.Common.{refl, sym, ap, subst, subst₂, inl, inr, ◌∙◌}
use Rattle.format_parts.specs.Unique.{char_unique, run_unique}
use Rattle.format_parts.specs.Words.{Word, former, pair}
use Rattle.format_toml.proofs.LineTexts.{document_of}
use Rattle.format_toml.specs.Grammars.{AnyBoolean, AnyItem, AnyValue, Array, Document}
use Rattle.format_toml.specs.Grammars.{Header, Inline, IsPlain, Line, Mark, Pair}
use Rattle.format_toml.specs.Grammars.{Plain, Scalar, Table}
use Rattle.format_toml.specs.Statements.{stated}
use Rattle.format_toml.specs.Toml.{DocumentText, IsArray, IsBoolean, IsEntry, IsInline, IsTable}
use Rattle.format_toml.specs.Toml.{IsTables, IsText, PlainText, false_word, true_word}
use Rattle.format_toml.specs.Unique.{gap_unique, key_unique, line_unique}
use Rattle.format_toml.specs.Unique.{newline_unique, unquoteds_unique, value_unique}
use Rattle.format_toml.specs.Unique.{wide_mark_unique}
use Rattle.format_toml_document.proofs.AlikeChoices.{led_agrees}
use Rattle.format_toml_document.proofs.AlikePlain.{plain_alike}
use Rattle.format_toml_document.proofs.AlikeStrings.{any_basic_agrees, any_literal_agrees}
use Rattle.format_toml_document.proofs.AlikeStrings.{key_agrees}
use Rattle.format_toml_document.specs.Alike.{AreAlike, AreAlikeBy, AreAlikeEntries, AreAlikeItems}
use Rattle.format_toml_document.specs.Alike.{AreAlikeKeys, AreAlikeSingles}
use Rattle.format_toml_tree.specs.declared.value.Item.{Item}
use Rattle.format_toml_tree.specs.declared.value.Value.{Value}
use Rattle.format_toml_tree.specs.declared.value.Value as values
use Rattle.grammars.specs.Agreed.{Agrees, between_agrees, former_agrees, gathered_agree}
use Rattle.grammars.specs.Agreed.{latter_agrees, means_agree, optional_agrees, parted_agree}
use Rattle.grammars.specs.Agreed.{sides_agree}
use Rattle.grammars.specs.Pairwise.{ArePairwise}
use Rattle.grammars.specs.Strings.{taken_agrees}
use Rattle.grammars.specs.Grammar.{Gathered, Grammar, IsUnique}
use Rattle.grammars.specs.Grammar.Meaning.{Meaning}
use Rattle.grammars.specs.Grammar.Sequences.{three_unique}
use Rattle.grammars.specs.Grammar.Unique.{both_unique}
use Rattle.stream_sets.specs.AsChar.{IsSpace}

mark_unique : (c : ℕ) → IsUnique (Mark c)
mark_unique c = both_unique pair (char_unique c) (run_unique IsSpace 0)

word_agrees : (word : List ℕ) (o : Bool) → Agrees (λ a b. a ≡ b) (Word word o)
unfolding Word
word_agrees word o = record { one = λ tokens a b rest other (is, e) (was, f). is ∙ sym was }

module _ {A : Type 0} where
  -- ---- values

  module _ (alike : Value A → Value A → Type 0) where
    boolean_agrees : (word : List ℕ) (is : Bool) → Agrees (AreAlikeBy alike) (AnyBoolean word is)
    boolean_agrees word is =
        means_agree IsBoolean (word_agrees word is)
        (λ o p v w e x y. inl (x ∙ ap (λ b. values.Boolean b) e ∙ sym y))

    single : (v w : Value A) → (v ≡ w) ⊎ AreAlikeSingles v w → AreAlikeBy alike v w
    single v w (inl e) = inl e
    single v w (inr is) = inr (inl is)

    plain_agrees : Agrees (AreAlikeBy alike) Plain
    plain_agrees =
        means_agree IsPlain (taken_agrees _ unquoteds_unique)
        (λ s t v w e x y.
        let P : List ℕ → Type 0 = λ l. PlainText w l in
        single v w (plain_alike v w s.now x (subst P (sym e) y)))

    scalar_agrees : Agrees (AreAlikeBy alike) Scalar
    scalar_agrees =
        led_agrees (λ c. c ≡ 34)
        (means_agree IsText any_basic_agrees
        (λ s t v w e is was. inr (inl (inl (s, t, is, was, e)))))
        (led_agrees (λ c. c ≡ 39)
        (means_agree IsText any_literal_agrees
        (λ s t v w e is was. inr (inl (inl (s, t, is, was, e)))))
        (led_agrees (λ c. c ≡ 116) (boolean_agrees true_word true)
        (led_agrees (λ c. c ≡ 102) (boolean_agrees false_word false) plain_agrees)))

    -- the values of an array, where there are some
    abbrev AreAlikeLists : Option (Vec (Value A) A) → Option (Vec (Value A) A) → Type 0
    AreAlikeLists None None = ⊤
    AreAlikeLists None (Some m) = ⊥
    AreAlikeLists (Some l) None = ⊥
    AreAlikeLists (Some l) (Some m) = ArePairwise alike l.items m.items

    arrays : (o p : Option (Vec (Value A) A)) (v w : Value A) → AreAlikeLists o p → IsArray o v
        → IsArray p w → AreAlikeBy alike v w
    arrays None None v w any (l, e, is) (m, f, was) =
        inr (inr (inl (l, m, is, was, subst₂ (ArePairwise alike) (sym e) (sym f) tt)))
    arrays None (Some m) v w never x y = absurd never
    arrays (Some l) None v w never x y = absurd never
    arrays (Some l) (Some m) v w are is was = inr (inr (inl (l, m, is, was, are)))

    module _ {g : Grammar ℕ (Value A)} (unique : IsUnique g) (agree : Agrees alike g) where
      array_agrees : Agrees (AreAlikeBy alike) (Meaning IsArray (Array g))
      array_agrees =
          means_agree IsArray (between_agrees _ (wide_mark_unique 91)
          (optional_agrees {like = AreAlikeLists} tt (λ l m are. are)
          (former_agrees _ (gathered_agree (parted_agree 1 (both_unique former unique gap_unique)
          (wide_mark_unique 44) (former_agrees _ agree))))))
          arrays

      pair_agrees : Agrees (AreAlikeEntries alike) (Pair g)
      pair_agrees =
          sides_agree (λ k s v. (k, v)) key_unique (mark_unique 61) key_agrees agree
          (λ o p m n q r keys vals. (keys, vals))

      pair_unique : IsUnique (Pair g)
      pair_unique = three_unique (λ k s v. (k, v)) key_unique (mark_unique 61) unique

      inline_agrees : Agrees (AreAlikeBy alike) (Meaning IsInline (Inline g))
      inline_agrees =
          means_agree IsInline (between_agrees _ (mark_unique 123) (gathered_agree (parted_agree 0
          (both_unique former pair_unique (run_unique IsSpace 0)) (mark_unique 44)
          (former_agrees _ pair_agrees))))
          (λ l m v w are is was. inr (inr (inr (l, m, is, was, are))))

  value_agrees : (level : ℕ) → Agrees (AreAlike {A = A} level) (AnyValue level)
  unfolding AnyValue AreAlike
  value_agrees zero = scalar_agrees (λ v w. v ≡ w)
  value_agrees (suc level) =
      led_agrees (λ c. c ≡ 91)
      (array_agrees (AreAlike level) (value_unique level) (value_agrees level))
      (led_agrees (λ c. c ≡ 123)
      (inline_agrees (AreAlike level) (value_unique level) (value_agrees level))
      (scalar_agrees (AreAlike level)))

  -- ---- lines

  header_agrees : Agrees (AreAlikeKeys {A = A}) Header
  header_agrees = between_agrees _ (run_unique IsSpace 0) key_agrees

  table_agrees : (level : ℕ) → Agrees (AreAlikeItems {A = A} level) Table
  table_agrees level =
      led_agrees (λ c. c ≡ 91)
      (means_agree IsTables (between_agrees _ (char_unique 91) header_agrees)
      (λ k l i j are is was. inr (inl (k, l, is, was, are))))
      (means_agree IsTable header_agrees (λ k l i j are is was. inl (k, l, is, was, are)))

  item_agrees : (level : ℕ) → Agrees (AreAlikeItems {A = A} level) (AnyItem level)
  item_agrees level =
      led_agrees (λ c. c ≡ 91) (latter_agrees (char_unique 91) (table_agrees level))
      (means_agree IsEntry (pair_agrees (AreAlike level) (value_unique level) (value_agrees level))
      (λ e f i j are is was. inr (inr (e.0, f.0, e.1, f.1, is, was, are))))

  -- equivalent lines: without a statement, or with equivalent ones
  abbrev AreAlikeLines : ℕ → Option (Item A) → Option (Item A) → Type 0
  AreAlikeLines level None None = ⊤
  AreAlikeLines level None (Some j) = ⊥
  AreAlikeLines level (Some i) None = ⊥
  AreAlikeLines level (Some i) (Some j) = AreAlikeItems level i j

  line_agrees : (level : ℕ) → Agrees (AreAlikeLines level) (Line level)
  line_agrees level =
      between_agrees _ (run_unique IsSpace 0)
      (optional_agrees {like = AreAlikeLines level} tt (λ i j are. are)
      (former_agrees _ (item_agrees level)))

  -- the statements of equivalent lines
  stated_alike : (level : ℕ) (lines others : List (Option (Item A)))
      → ArePairwise (AreAlikeLines level) lines others
      → ArePairwise (AreAlikeItems level) (stated lines) (stated others)
  stated_alike level [] [] are = tt
  stated_alike level [] (o ∷ others) are = absurd are
  stated_alike level (o ∷ lines) [] are = absurd are
  stated_alike level (None ∷ lines) (None ∷ others) are = stated_alike level lines others are.1
  stated_alike level (None ∷ lines) (Some j ∷ others) are = absurd are.0
  stated_alike level (Some i ∷ lines) (None ∷ others) are = absurd are.0
  stated_alike level (Some i ∷ lines) (Some j ∷ others) are =
      (are.0, stated_alike level lines others are.1)

  document_agrees : (level : ℕ) → Agrees (λ (list other : Vec (Item A) A).
      ArePairwise (AreAlikeItems level) list.items other.items) (Document level)
  unfolding Gathered
  document_agrees level = record {
    one = λ tokens list other rest end (lines, e, x) (others, f, y).
        let agree = parted_agree 1 (line_unique level) newline_unique (line_agrees level) in
        subst₂ (ArePairwise (AreAlikeItems level)) (sym e) (sym f)
        (stated_alike level lines others (agree.one tokens lines others rest end x y));
  }

  pub texts_alike : (level : ℕ) (lines other : Vec (Item A) A) (text : List ℕ)
      → DocumentText level lines text → DocumentText level other text
      → ArePairwise (AreAlikeItems level) lines.items other.items
  texts_alike level lines other text a b =
      (document_agrees level).one (text ++ []) lines other [] []
      ((document_of level).back lines text [] a refl)
      ((document_of level).back other text [] b refl)
