-- Lemmas about equivalent values: they are of one kind, and have equivalent parts.
use Rattle.std.specs.Prelude.{◌≡◌, ℕ, zero, suc}
use Rattle.std.specs.declared.vec.Vec.{Vec}
use Rattle.std.proofs.Common.{refl, sym, ap, subst, inl, inr, ◌∙◌, arith}
use Rattle.grammars.specs.Pairwise.{ArePairwise, itself_pairwise, more_pairwise}
use Rattle.format_toml_document.specs.Alike.{AreAlike, AreAlikeBy, AreAlikeEntries}
use Rattle.format_toml_document.specs.Alike.{AreAlikeSingles}
use Rattle.format_toml_document.specs.AlikeTrees.{AreAlikeValues}
use Rattle.format_toml_tree.specs.Rules.{no_table}
use Rattle.format_toml_tree.specs.declared.roles.Reason.{Reason}
use Rattle.format_toml_tree.specs.declared.roles.Reason.TheVariants.{Closed, NoTable}
use Rattle.format_toml_tree.specs.declared.value.Key.{Key}
use Rattle.format_toml_tree.specs.declared.value.Value.{Value, out-Value}
use Rattle.format_toml_tree.specs.declared.value.Value.TheOpen as forms
use Rattle.format_toml_tree.specs.declared.value.Value.TheOpen.{Value-F}
use Rattle.format_toml_tree.specs.declared.value.Value.TheVariants as values

-- ---- kinds

-- the reason why a name in a value of a kind is rejected
abbrev reason_of : ℕ → Reason
reason_of (suc (suc zero)) = Closed
reason_of _ = NoTable

module _ {A X : Type 0} where
  abbrev kind_in : Value-F A X → ℕ
  kind_in (Value-F.Array elements) = 1
  kind_in (Value-F.Table entries) = 2
  kind_in _ = 0

module _ {A : Type 0} where
  -- 1 for an array, 2 for a table, 0 for any other value
  abbrev kind_of : Value A → ℕ
  kind_of v = kind_in (out-Value A v)

  array_kind : (v : Value A) (l : Vec (Value A) A) → v ≡ values.Array l → kind_of v ≡ 1
  array_kind v l e = ap kind_of e ∙ ap kind_in (values.outs-Array l)

  table_kind : (v : Value A) (l : Vec (Key A × Value A) A) → v ≡ values.Table l → kind_of v ≡ 2
  table_kind v l e = ap kind_of e ∙ ap kind_in (values.outs-Table l)

  single_kinds : (v w : Value A) → AreAlikeSingles v w → (kind_of v ≡ 0) × (kind_of w ≡ 0)
  single_kinds v w (inl (s, t, e, f, same)) = (
    ap kind_of e ∙ ap kind_in (values.outs-Text s),
    ap kind_of f ∙ ap kind_in (values.outs-Text t),
  )
  single_kinds v w (inr (inl (s, t, e, f, same))) = (
    ap kind_of e ∙ ap kind_in (values.outs-Float s),
    ap kind_of f ∙ ap kind_in (values.outs-Float t),
  )
  single_kinds v w (inr (inr (s, t, e, f, same))) = (
    ap kind_of e ∙ ap kind_in (values.outs-DateTime s),
    ap kind_of f ∙ ap kind_in (values.outs-DateTime t),
  )

  pub array_or_table : {P : Type 0} (v : Value A) (l : Vec (Value A) A)
      (m : Vec (Key A × Value A) A) → v ≡ values.Array l → v ≡ values.Table m → P
  array_or_table v l m e f = absurd (omega (arith, array_kind v l e, table_kind v m f))

  pub array_once : (v : Value A) (l m : Vec (Value A) A) → v ≡ values.Array l → v ≡ values.Array m
      → l ≡ m
  array_once v l m e f =
      let same : forms.Array l ≡ forms.Array m =
      sym (values.outs-Array l) ∙ ap (out-Value A) (sym e ∙ f) ∙ values.outs-Array m in cc same

  pub table_once : (v : Value A) (l m : Vec (Key A × Value A) A) → v ≡ values.Table l
      → v ≡ values.Table m → l ≡ m
  table_once v l m e f =
      let same : forms.Table l ≡ forms.Table m =
      sym (values.outs-Table l) ∙ ap (out-Value A) (sym e ∙ f) ∙ values.outs-Table m in cc same

  reason_is : (f : Value-F A (Value A))
      → elim f [ forms.Table entries ↦ Closed | _ ↦ NoTable ] ≡ reason_of (kind_in f)
  reason_is (Value-F.Text text) = refl
  reason_is (Value-F.Integer n) = refl
  reason_is (Value-F.Float float) = refl
  reason_is (Value-F.Boolean b) = refl
  reason_is (Value-F.DateTime date_time) = refl
  reason_is (Value-F.Array elements) = refl
  reason_is (Value-F.Table entries) = refl

  same_reason : (v w : Value A) → kind_of v ≡ kind_of w → no_table v ≡ no_table w
  same_reason v w e =
      reason_is (out-Value A v) ∙ ap reason_of e ∙ sym (reason_is (out-Value A w))

  -- ---- what is equivalent

  more_alike : (alike like : Value A → Value A → Type 0)
      → ((v w : Value A) → alike v w → like v w) → (v w : Value A) → AreAlikeBy alike v w
      → AreAlikeBy like v w
  more_alike alike like more v w (inl e) = inl e
  more_alike alike like more v w (inr (inl x)) = inr (inl x)
  more_alike alike like more v w (inr (inr (inl (l, m, e, f, are)))) =
      inr (inr (inl (l, m, e, f, more_pairwise alike like more l.items m.items are)))
  more_alike alike like more v w (inr (inr (inr (l, m, e, f, are)))) =
      inr (inr (inr (
        l,
        m,
        e,
        f,
        more_pairwise (AreAlikeEntries alike) (AreAlikeEntries like)
            (λ x y z. (z.0, more x.1 y.1 z.1)) l.items m.items are,
      )))

  -- a value of each level
  pub itself_alike : (v : Value A) → AreAlikeValues v v
  unfolding AreAlike
  itself_alike v = (0, inl refl)

  parts_alike : (v w : Value A) → AreAlikeValues v w → AreAlikeBy AreAlikeValues v w
  unfolding AreAlike
  parts_alike v w (zero, x) =
      more_alike (λ a b. a ≡ b) AreAlikeValues (λ a b e. (0, inl e)) v w x
  parts_alike v w (suc level, x) =
      more_alike (AreAlike level) AreAlikeValues (λ a b y. (level, y)) v w x

  abbrev HasAlike : (Vec (Value A) A) → Value A → Type 0
  HasAlike l w =
      (m : Vec (Value A) A) × (w ≡ values.Array m) × ArePairwise AreAlikeValues l.items m.items

  abbrev HasAlikeEntries : (Vec (Key A × Value A) A) → Value A → Type 0
  HasAlikeEntries l w =
      (m : Vec (Key A × Value A) A) × (w ≡ values.Table m)
      × ArePairwise (AreAlikeEntries AreAlikeValues) l.items m.items

  module _ (v w : Value A) where
    array_by : AreAlikeBy AreAlikeValues v w → (l : Vec (Value A) A) → v ≡ values.Array l
        → HasAlike l w
    array_by (inl e) l f = (l, sym e ∙ f, itself_pairwise AreAlikeValues itself_alike l.items)
    array_by (inr (inl x)) l f =
        absurd (omega (arith, (single_kinds v w x).0, array_kind v l f))
    array_by (inr (inr (inl (k, m, e, g, are)))) l f =
        let P : Vec (Value A) A → Type 0 = λ a. ArePairwise AreAlikeValues a.items m.items in
        (m, g, subst P (array_once v k l e f) are)
    array_by (inr (inr (inr (k, m, e, g, are)))) l f =
        absurd (omega (arith, table_kind v k e, array_kind v l f))

    table_by : AreAlikeBy AreAlikeValues v w → (l : Vec (Key A × Value A) A) → v ≡ values.Table l
        → HasAlikeEntries l w
    table_by (inl e) l f = (
      l,
      sym e ∙ f,
      itself_pairwise (AreAlikeEntries AreAlikeValues)
          (λ x. (itself_pairwise _ (λ s. refl) x.0.names.items, itself_alike x.1)) l.items,
    )
    table_by (inr (inl x)) l f =
        absurd (omega (arith, (single_kinds v w x).0, table_kind v l f))
    table_by (inr (inr (inl (k, m, e, g, are)))) l f =
        absurd (omega (arith, array_kind v k e, table_kind v l f))
    table_by (inr (inr (inr (k, m, e, g, are)))) l f =
        let P : Vec (Key A × Value A) A → Type 0 =
        λ a. ArePairwise (AreAlikeEntries AreAlikeValues) a.items m.items in
        (m, g, subst P (table_once v k l e f) are)

    array_back_by : AreAlikeBy AreAlikeValues v w → (m : Vec (Value A) A) → w ≡ values.Array m
        → (l : Vec (Value A) A) × (v ≡ values.Array l)
    array_back_by (inl e) m f = (m, e ∙ f)
    array_back_by (inr (inl x)) m f =
        absurd (omega (arith, (single_kinds v w x).1, array_kind w m f))
    array_back_by (inr (inr (inl (l, k, e, g, are)))) m f = (l, e)
    array_back_by (inr (inr (inr (l, k, e, g, are)))) m f =
        absurd (omega (arith, table_kind w k g, array_kind w m f))

    table_back_by : AreAlikeBy AreAlikeValues v w → (m : Vec (Key A × Value A) A)
        → w ≡ values.Table m → (l : Vec (Key A × Value A) A) × (v ≡ values.Table l)
    table_back_by (inl e) m f = (m, e ∙ f)
    table_back_by (inr (inl x)) m f =
        absurd (omega (arith, (single_kinds v w x).1, table_kind w m f))
    table_back_by (inr (inr (inl (l, k, e, g, are)))) m f =
        absurd (omega (arith, array_kind w k g, table_kind w m f))
    table_back_by (inr (inr (inr (l, k, e, g, are)))) m f = (l, e)

    closed_by : AreAlikeBy AreAlikeValues v w → no_table v ≡ no_table w
    closed_by (inl e) = ap no_table e
    closed_by (inr (inl x)) =
        let kinds = single_kinds v w x in same_reason v w (kinds.0 ∙ sym kinds.1)
    closed_by (inr (inr (inl (l, m, e, f, are)))) =
        same_reason v w (array_kind v l e ∙ sym (array_kind w m f))
    closed_by (inr (inr (inr (l, m, e, f, are)))) =
        same_reason v w (table_kind v l e ∙ sym (table_kind w m f))

    module _ (alike : AreAlikeValues v w) where
      pub array_across : (l : Vec (Value A) A) → v ≡ values.Array l → HasAlike l w
      array_across = array_by (parts_alike v w alike)

      pub table_across : (l : Vec (Key A × Value A) A) → v ≡ values.Table l
          → HasAlikeEntries l w
      table_across = table_by (parts_alike v w alike)

      pub array_back : (m : Vec (Value A) A) → w ≡ values.Array m
          → (l : Vec (Value A) A) × (v ≡ values.Array l)
      array_back = array_back_by (parts_alike v w alike)

      pub table_back : (m : Vec (Key A × Value A) A) → w ≡ values.Table m
          → (l : Vec (Key A × Value A) A) × (v ≡ values.Table l)
      table_back = table_back_by (parts_alike v w alike)

      -- a name in them is rejected alike
      pub closed_alike : no_table v ≡ no_table w
      closed_alike = closed_by (parts_alike v w alike)
