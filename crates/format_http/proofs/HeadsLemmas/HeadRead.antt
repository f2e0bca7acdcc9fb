-- The grammar of the parsers of a head matches heads.
use Rattle.std.specs.Prelude.{◌≡◌, ℕ, List, ◌∷◌, ◌++◌, None, map, Ok, Err, []}
use Rattle.std.specs.declared.vec.Vec.{Vec}
use Rattle.std.proofs.Common.{refl, sym, ap, subst, inl, inr, ◌∙◌, arith}
use Rattle.streams.specs.Counted.{counted_input, counted_reading}
use Rattle.streams.specs.Input.{IsEndOf}
use Rattle.streams.specs.Kind.{Kind, memory}
use Rattle.stream_sets.specs.Range.{from_to}
use Rattle.format_http.specs.Heads.FieldLine.{FieldLineStands}
use Rattle.format_http.proofs.HeadsLemmas.FieldRead.{field_unique, none_returns}
use Rattle.format_http.specs.Heads.Head.{AreFieldLines, FieldsStand, HeadStands, IsHead, pair}
use Rattle.format_http.specs.Heads.Head.{request}
use Rattle.format_http.specs.Heads.Parts.{EndStands, LinesStand, Lists}
use Rattle.format_http.specs.Heads.RequestLine.{RequestLineStands}
use Rattle.format_http.specs.declared.heads.field_line.Field.{Field}
use Rattle.format_http.specs.declared.heads.head.Head.{Head}
use Rattle.format_http.specs.declared.heads.request_line.RequestLine.{RequestLine}
use Rattle.winnow_core.specs.Exact.{Reads}
use Rattle.winnow_grammar.specs.Steps.{Steps}
use Rattle.grammars.specs.Grammar.{Both, Each, Gathered, Grammar, IsUnique, Many}
use Rattle.grammars.specs.Grammar.Unique.{gathered_unique, many_unique}

-- ---- field lines

each_lines : (os : List Field) (bytes rest : List ℕ) → Each FieldLineStands bytes os rest
    → AreFieldLines (map pair os) bytes rest
each_lines [] bytes rest e = sym e
each_lines (o ∷ os) bytes rest (mid, x, more) = (mid, x, each_lines os mid rest more)

lines_each : (os : List Field) (bytes rest : List ℕ) → AreFieldLines (map pair os) bytes rest
    → Each FieldLineStands bytes os rest
lines_each [] bytes rest e = sym e
lines_each (o ∷ os) bytes rest (mid, x, more) = (mid, x, lines_each os mid rest more)

module _ {A : Type 0} where
  pub lines_unique : IsUnique (LinesStand {A = A})
  lines_unique = gathered_unique Lists (many_unique field_unique (from_to 0 None))

  pub fields_there : (fields : Vec Field A) (u : Unit {0}) (bytes rest : List ℕ)
      → Steps LinesStand EndStands bytes (fields, u) rest → FieldsStand bytes fields rest
  unfolding Both Gathered Many
  fields_there fields u bytes rest (list, v, mid, (os, held, (each, enough, stops)), end, out) =
      let items : Vec Field A × Unit {0} → List Field = λ p. p.0.items in
      let P : List Field → Type 0 = λ l. AreFieldLines (map pair l) bytes mid in record {
        end = mid;
        lines = subst P (sym (ap items out ∙ held)) (each_lines os bytes mid each);
        ended = end;
      }

  pub fields_back : (bytes : List ℕ) (fields : Vec Field A) (rest : List ℕ)
      → FieldsStand bytes fields rest
      → (parts : Vec Field A × Unit {0}) × Steps LinesStand EndStands bytes parts rest
  unfolding Both Gathered Many
  fields_back bytes fields rest is = (
    (fields, tt),
    (
      fields,
      tt,
      is.end,
      (
        fields.items,
        refl,
        (
          lines_each fields.items bytes is.end is.lines,
          omega arith,
          inr (tt, λ field more line. none_returns is.end field more (10 ∷ rest) line is.ended),
        ),
      ),
      is.ended,
      refl,
    ),
  )

  -- ---- a head

  -- by a reader of the one after that of the other
  abbrev pub HeadRead : Grammar ℕ (RequestLine × Vec Field A)
  HeadRead = Steps RequestLineStands FieldsStand

  pub head_there : (line : RequestLine) (fields : Vec Field A) (bytes rest : List ℕ)
      → HeadRead bytes (line, fields) rest
      → IsHead (request line) (map pair fields.items) bytes rest
  unfolding Both
  head_there line fields bytes rest (l, f, mid, x, y, out) =
      let P : RequestLine × Vec Field A → Type 0 = λ p. IsHead (request p.0) (map pair p.1.items)
      bytes rest in
      subst P (sym out) (record { behind = mid; is_line = x; are_fields = y })

  pub head_back : (bytes : List ℕ) (head : Head A) (rest : List ℕ) → HeadStands bytes head rest
      → (parts : RequestLine × Vec Field A) × HeadRead bytes parts rest
  unfolding Both
  head_back bytes head rest is = (
    (head.line, head.fields),
    (head.line, head.fields, is.behind, is.is_line, is.are_fields, refl),
  )

-- ---- field lines, by a loop

-- one line more
pub lines_more : (os : List Field) (field : Field) (list : List Field) (start mid rest : List ℕ)
    → Each FieldLineStands start os mid → FieldLineStands mid field rest → list ≡ os ++ field ∷ []
    → Each FieldLineStands start list rest
lines_more os field list start mid rest each line same =
    let P : List Field → Type 0 = λ l. Each FieldLineStands start l rest in
    subst P (sym same) (by os start each)
  where
    by : (fields : List Field) (bytes : List ℕ) → Each FieldLineStands bytes fields mid
        → Each FieldLineStands bytes (fields ++ field ∷ []) rest
    by [] bytes e =
        let Q : List ℕ → Type 0 = λ l. FieldLineStands l field rest in
        (rest, subst Q e line, refl)
    by (o ∷ others) bytes (next, x, more) = (next, x, by others next more)

module _ {A E : Type 0} {kind : E → Kind} {start here now : List ℕ} where
  -- if no line follows, these are all
  pub lines_stop : {error : E} (list : Vec Field A) → Each FieldLineStands start list.items here
      → IsEndOf counted_reading (counted_input here) (counted_input start)
      → (kind error ≡ memory → ⊥)
      → Reads counted_reading kind FieldLineStands (counted_input here) (Err error)
      (counted_input now)
      → Reads counted_reading kind LinesStand (counted_input start) (Ok list) (counted_input here)
  unfolding Gathered Many
  lines_stop list each ends other r = record {
    ends = ends;
    stands = λ whole. elim (r.none refl) [
      | inl want ↦ absurd (other want)
      | inr (b, none) ↦ (list.items, refl, (each, omega arith, inr (tt, none)))
    ];
    none = λ whole. tt;
  }
