-- Lemmas about written records: reading them returns the same fields.
use Rattle.std.specs.Prelude.{◌≡◌, ◌<◌, ◌+◌, ℕ, List, [], ◌∷◌, ◌++◌, length, take, drop}
use Rattle.std.specs.Prelude.{◌-◌, Bool, true, false, MatchBool, if◌then◌else◌, is_ok, OnOk}
use Rattle.std.specs.Prelude.{Result, Ok, Err}
use Rattle.std.specs.List.{All}
use Rattle.std.specs.Borrow.{Bor}
use Rattle.std.proofs.Common.{refl, sym, ap, subst, inl, inr, ◌∙◌, arith, append_assoc, get_or}
use Rattle.std.proofs.Common.{length-append}
use Rattle.std.proofs.lemmas.List.{append-nil, drop_more, map_more}
use Rattle.std.proofs.lemmas.List.{take-append-drop, take-append-le, take_all}
use Rattle.format_csv_records.specs.Dialects.{IsFieldText, IsLineEnd}
use Rattle.format_csv_records.specs.Dialects.{doubled}
use Rattle.format_csv_records.specs.Parts.{DelimitedFields, IsNotQuote, LongestPrefixLength}
use Rattle.format_csv_records.specs.Written.{Extends, IsLastOf, IsLastWritten, IsWritten, ReadsBack}
use Rattle.format_csv_records.specs.Written.{Writes, WrittenFields, bytes_of, written_end}
use Rattle.format_csv_records.specs.declared.dialect.Dialect.{Dialect}
use Rattle.format_csv_records.specs.declared.dialect.LineEnds.{LineEnds}
use Rattle.format_csv_records.specs.declared.dialect.LineEnds.TheVariants.{CrLf, Lf, Either}
use Rattle.format_csv_records.proofs.Alone.{doubled_append_run, doubled_nil, doubled_two}
use Rattle.format_csv_records.proofs.Alone.{line_end_is_not_empty, take_quote}
use Rattle.format_csv_records.proofs.Whole.{done_fields, last_field}

pub fewer_are_not_all : (these : ℕ → Type 0) (xs : List ℕ) (n : ℕ) → LongestPrefixLength these xs n
    → (n ≡ length xs → ⊥) → All these xs → ⊥
fewer_are_not_all these xs n (within, first, not) some all =
    let less : n < length xs = omega arith in
    (rw (drop_more xs n 0 less) at not) (all n 0 less)

-- a run and its quote more
pub write_more : (quote : ℕ) (field rest base out : List ℕ) (n : ℕ) (done : List ℕ)
    → field ≡ done ++ rest → out ≡ base ++ doubled quote done
    → LongestPrefixLength (IsNotQuote quote) rest n
    → (n ≡ length rest → ⊥) → (next added mid new : List ℕ) → next ≡ drop (n + 1) rest
    → added ≡ take (n + 1) rest → mid ≡ out ++ added → new ≡ mid ++ quote ∷ []
    → (all : List ℕ) × (field ≡ all ++ next) × (new ≡ base ++ doubled quote all)
write_more quote field rest base out n done e o run some next added mid new is adds m w =
    let runs = take n rest in
    let D = doubled quote done in
    let taken = take_quote quote rest n run some in
    let tidy : ((base ++ D) ++ (runs ++ quote ∷ [])) ++ quote ∷ []
    ≡ base ++ (D ++ (runs ++ (quote ∷ quote ∷ []))) =
    simp append_assoc in (
      done ++ (runs ++ quote ∷ []),
      e ∙ ap (λ l. done ++ l)
          (sym (take-append-drop (n + 1) rest) ∙ ap (λ l. l ++ drop (n + 1) rest) taken
          ∙ ap (λ l. (runs ++ quote ∷ []) ++ l) (sym is)) ∙ sym (append_assoc done
          (runs ++ quote ∷ []) next),
      w ∙ ap (λ l. l ++ quote ∷ [])
          (m ∙ ap (λ l. l ++ added) o ∙ ap (λ l. (base ++ D) ++ l) (adds ∙ taken))
          ∙ tidy ∙ ap (λ l. base ++ l) (sym (doubled_two quote done runs run.1)),
    )

-- the last run
pub write_end : (quote : ℕ) (field rest base out : List ℕ) (n : ℕ) (done : List ℕ)
    → field ≡ done ++ rest → out ≡ base ++ doubled quote done
    → LongestPrefixLength (IsNotQuote quote) rest n
    → n ≡ length rest → (mid new : List ℕ) → mid ≡ out ++ rest → new ≡ mid ++ quote ∷ []
    → new ≡ base ++ (doubled quote field ++ quote ∷ [])
write_end quote field rest base out n done e o run is mid new m w =
    let text : doubled quote field ≡ doubled quote done ++ rest =
    ap (λ l. doubled quote l) e
    ∙ doubled_append_run quote done rest (rw (take_all n rest (omega arith)) at run.1) in
    let tidy : ((base ++ doubled quote done) ++ rest) ++ quote ∷ []
    ≡ base ++ ((doubled quote done ++ rest) ++ quote ∷ []) = simp append_assoc in
    w ∙ ap (λ l. l ++ quote ∷ []) (m ∙ ap (λ l. l ++ rest) o) ∙ tidy
    ∙ ap (λ l. base ++ (l ++ quote ∷ [])) (sym text)

-- a field more
pub wrote_more : (d : Dialect) (fields : List (List ℕ)) (before field text : List ℕ)
    → WrittenFields d fields before → IsWritten d field text
    → WrittenFields d (fields ++ field ∷ []) (before ++ (text ++ (d.delimiter ∷ [])))
unfolding WrittenFields
wrote_more d [] before field text e t =
    (text, [], t, ap (λ l. l ++ (text ++ (d.delimiter ∷ []))) e, refl)
wrote_more d (other ∷ fields) before field text (front, more, u, e, others) t = (
  front,
  more ++ (text ++ (d.delimiter ∷ [])),
  u,
  ap (λ l. l ++ (text ++ (d.delimiter ∷ []))) e
      ∙ append_assoc front (d.delimiter ∷ more) (text ++ (d.delimiter ∷ [])),
  wrote_more d fields more field text others t,
)

pub bytes_more : (fields : List (Bor (List ℕ))) (i : ℕ) (d : Bor (List ℕ)) → i < length fields
    → bytes_of (take (i + 1) fields) ≡ bytes_of (take i fields) ++ (get_or fields i d).now ∷ []
bytes_more fields i d less = map_more (λ (f : Bor (List ℕ)). f.now) fields i d less

-- ---- what was there stays

pub extends_refl : (old new : List ℕ) → new ≡ old → Extends old new
extends_refl old new e = ([], e ∙ sym (append-nil old))

pub extends_trans : (old mid new : List ℕ) → Extends old mid → Extends mid new → Extends old new
extends_trans old mid new (more, e) (others, f) =
    (more ++ others, f ∙ ap (λ l. l ++ others) e ∙ append_assoc old more others)

pub extends_after_append : (old more mid new : List ℕ) → mid ≡ old ++ more → Extends mid new
    → Extends old new
extends_after_append old more mid new e is = extends_trans old mid new (more, e) is

pub kept_added : {E : Type 0} (r : Result (Unit {0}) E) (old new more : List ℕ)
    → new ≡ (if is_ok r then old ++ more else old) → Extends old new
kept_added (Ok u) old new more e = (more, e)
kept_added (Err x) old new more e = extends_refl old new e

pub front_of_extension : (old new end : List ℕ) (n : ℕ) → Extends old new → n ≡ length old
    → end ≡ take n new → end ≡ old
front_of_extension old new end n (more, e) size t =
    t ∙ ap (λ l. take n l) e ∙ take-append-le n old more (omega (arith, size))
    ∙ take_all n old (omega (arith, size))

-- ---- back

is_text : (d : Dialect) (field text : List ℕ) → IsWritten d field text → IsFieldText d field text
is_text d field text (inl plain) = inr plain
is_text d field text (inr (is, not)) = inl is

last_is_text : (d : Dialect) (others : List (List ℕ)) (last text : List ℕ)
    → IsLastWritten d others last text → IsFieldText d last text
last_is_text d others last text (inl (alone, none, is)) =
    rw none (inl (is ∙ ap (λ l. d.quote ∷ (l ++ d.quote ∷ [])) (sym (doubled_nil d.quote))))
last_is_text d others last text (inr (some, t)) = is_text d last text t

wrote_done : (d : Dialect) (fields : List (List ℕ)) (before : List ℕ)
    → WrittenFields d fields before
    → DelimitedFields d fields before
unfolding WrittenFields DelimitedFields
wrote_done d [] before e = e
wrote_done d (field ∷ fields) before (text, more, t, e, others) =
    (text, more, is_text d field text t, e, wrote_done d fields more others)

ends_line : (ends : LineEnds) → IsLineEnd ends (written_end ends)
ends_line CrLf = refl
ends_line Lf = refl
ends_line Either = inl refl

pub reads_back : (d : Dialect) (fields : List (List ℕ)) (old new : List ℕ)
    → Writes d fields old new → ReadsBack d fields old new
reads_back d fields old new it =
    let P : List ℕ → Type 0 = λ l. IsLineEnd d.ends l in
    let ended : IsLineEnd d.ends it.end = subst P (sym it.is_end) (ends_line d.ends) in (
      it.before ++ (it.text ++ it.end),
      it.behind,
      λ rest.
          let tidy : (it.before ++ (it.text ++ it.end)) ++ rest
          ≡ it.before ++ (it.text ++ (it.end ++ rest)) = simp append_assoc in (
            omega (
              arith,
              length-append (it.before ++ (it.text ++ it.end)) rest,
              length-append it.before (it.text ++ it.end),
              length-append it.text it.end,
              line_end_is_not_empty d.ends it.end ended,
            ),
            rw (it.all, tidy) (done_fields d it.others it.before
                (it.text ++ (it.end ++ rest)) (it.last ∷ []) rest
                (wrote_done d it.others it.before it.wrote)
                (last_field d it.last it.text (it.end ++ rest) rest
                (last_is_text d it.others it.last it.text it.is_last)
                (inl (it.end, ended, refl)))),
          ),
    )

-- the text of the last field, with a test for whether it is the only one
pub last_by : (d : Dialect) (others : List (Bor (List ℕ))) (alone : Bool) (last text : List ℕ)
    → MatchBool alone (others ≡ []) (others ≡ [] → ⊥) → IsLastOf d alone last text
    → IsLastWritten d (bytes_of others) last text
last_by d others true last text told (inl (is, none, t)) =
    inl (ap (λ l. bytes_of l) told, none, t)
last_by d others false last text told (inl (is, none, t)) = cc
last_by d [] true last text told (inr (not, t)) = inr (λ both. not (refl, both.1), t)
last_by d [] false last text told (inr (not, t)) = absurd (told refl)
last_by d (field ∷ others) alone last text told (inr (not, t)) =
    inr (λ both. let h = both.0 in cc, t)

-- what was added, where a call that adds succeeds
pub extended : {E : Type 0} (r : Result (Unit {0}) E) (new old more : List ℕ) (P : Type 0)
    → new ≡ (if is_ok r then old ++ more else old) → (new ≡ old ++ more → P) → OnOk r P
extended (Ok u) new old more P e f = f e
extended (Err x) new old more P e f = tt

pub bytes_last : (fields : List (Bor (List ℕ))) (d : Bor (List ℕ)) → (length fields ≡ 0 → ⊥)
    → bytes_of (take (length fields - 1) fields) ++ (get_or fields (length fields - 1) d).now ∷ []
    ≡ bytes_of fields
bytes_last fields d some =
    let n = length fields - 1 in
    let less : n < length fields = omega arith in
    sym (bytes_more fields n d less) ∙ ap (λ l. bytes_of l) (take_all (n + 1) fields (omega arith))
