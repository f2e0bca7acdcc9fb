-- The first item of a kind in a list, and the contract of `parse_table` from that of its parts.
use Rattle.std.specs.Prelude.{◌≡◌, ◌+◌, ◌<◌, ◌≤◌, ℕ, List, [], ◌∷◌, ◌++◌, length, Result, Ok, Err}
use Rattle.std.specs.List.{All}
use Rattle.std.specs.declared.vec.Vec.{Vec}
use Rattle.std.proofs.Common.{sym, subst, ap, ◌∙◌, arith, append_assoc, take, drop, get_or}
use Rattle.std.proofs.Common.{length-take}
use Rattle.std.proofs.lemmas.List.{take_more, take-append-drop, take_all}
use Rattle.std.proofs.lemmas.List.Elements.{All-more}
use Rattle.streams.specs.Kind.{Kind}
use Rattle.streams.specs.declared.needed.Needed.{Needed}
use Rattle.stream_errors.specs.declared.fault.ParseFault.{ParseFault}
use Rattle.format_csv.specs.Csv.{AreRecords, IsRecord}
use Rattle.format_csv.specs.declared.LineEnd.{LineEnd}
use Rattle.format_csv.specs.declared.table.Table.{Table}
use Rattle.format_csv.specs.declared.table.TableError.{TableError}
use Rattle.format_csv.specs.declared.table.TableError.TheVariants.{Document, Empty, Width}
use Rattle.winnow_core.specs.Exact.Whole.{ReadsAll}
use Rattle.grammars.specs.Grammar.{Each}
use Rattle.grammars.specs.Grammar.Inversion.{Listed}
use Rattle.format_csv.specs.Table.{HeadTold, IsFirst, TableTold}

module _ {X : Type 0} (such : X → Type 0) (xs : List X) (place : ℕ) where
  pub is_first_at_place : {those : X → Type 0} (x : X) → x ≡ get_or xs place x → place < length xs
      → All such (take place xs) → those x → IsFirst such those xs place
  is_first_at_place x is within all one = record {
    before = take place xs;
    found = x;
    behind = drop (place + 1) xs;
    whole = sym (take-append-drop (place + 1) xs)
        ∙ ap (λ l. l ++ drop (place + 1) xs) (take_more xs place x within)
        ∙ append_assoc (take place xs) (get_or xs place x ∷ []) (drop (place + 1) xs)
        ∙ ap (λ y. take place xs ++ (y ∷ drop (place + 1) xs)) (sym is);
    place_is = omega (arith, length-take place xs, within);
    all_such = all;
    is_one = one;
  }

  -- so is this one
  pub all_before_next : (x : X) → x ≡ get_or xs place x → place < length xs
      → All such (take place xs)
      → such x → All such (take (place + 1) xs)
  all_before_next x is within all it = All-more such xs place x within all (subst such is it)

  -- nothing remains
  pub all_before_end : length xs ≤ place → All such (take place xs) → All such xs
  all_before_end past all = subst (All such) (take_all place xs past) all

-- what a document's records are, the document is
pub table_told : {A I X : Type 0} {inner_kind : X → Kind} {bytes : List ℕ}
    {document : Vec (Vec (Vec ℕ A) A) A} (ends : LineEnd)
    (result : Result (Table A) (TableError (ParseFault I X Needed)))
    → ReadsAll {I = I} inner_kind (AreRecords ends) bytes (Ok document)
    → HeadTold document.items result → TableTold inner_kind ends bytes result
unfolding Listed
table_told {document} ends (Ok table) r told = (document, r.stands, told)
table_told ends (Err (Document fault)) r told = absurd told
table_told {A} {bytes} ends (Err Empty) r none =
    let P : List (Vec (Vec ℕ A) A) → Type 0 = λ l. Each (IsRecord ends) bytes l [] in
    sym (subst P none r.stands.0)
table_told {document} ends (Err (Width ragged)) r told = (document, r.stands, told)
