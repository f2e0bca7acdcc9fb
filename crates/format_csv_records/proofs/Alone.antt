-- Uniqueness of fields: bytes start with at most one field; the contents of quotes, runs of bytes
-- of one class, and the ends of records.
use Rattle.std.specs.Prelude.{◌≡◌, ◌⊎◌, ◌==◌, ℕ, Bool, List, None, Option, Some, [], ◌∷◌, ◌++◌}
use Rattle.std.specs.Prelude.{false, if◌then◌else◌, option_map, true, ◌≤◌, ◌<◌, ◌+◌, length, take}
use Rattle.std.specs.Prelude.{drop}
use Rattle.std.specs.List.{All}
use Rattle.std.proofs.Common.{refl, sym, ap, subst, inl, inr, ◌∙◌, append_assoc, eq-eqb, arith}
use Rattle.std.proofs.Common.{get_or}
use Rattle.std.proofs.lemmas.Bool.{ne_eqb}
use Rattle.std.proofs.lemmas.Bool.Decides.{eqb_tells}
use Rattle.std.proofs.lemmas.List.{append_cancel_left, drop_more, drop_all, take-append-drop}
use Rattle.std.proofs.lemmas.List.{take_all, take_more}
use Rattle.std.proofs.lemmas.List.Elements.{All-head, All-tail}
use Rattle.format_csv_records.specs.Apart.{IsApart, IsBreak}
use Rattle.format_csv_records.specs.Dialects.{IsFieldText, IsPlain, doubled, RecordEnds, IsLineEnd}
use Rattle.format_csv_records.specs.Parts.{StartsWithField, IsNotQuote, FirstIfAny, NotFirst}
use Rattle.format_csv_records.specs.Parts.{StartsWithOpenQuote, ClosedQuotes, LongestPrefixLength}
use Rattle.format_csv_records.specs.Parts.{UnclosedQuotes}
use Rattle.format_csv_records.specs.declared.dialect.Dialect.{Dialect}
use Rattle.format_csv_records.specs.declared.dialect.LineEnds.{LineEnds}
use Rattle.format_csv_records.specs.declared.dialect.LineEnds.TheVariants.{CrLf, Lf, Either}

pub heads_equal : {X : Type 0} {x y : X} {xs ys : List X} → x ∷ xs ≡ y ∷ ys → x ≡ y
heads_equal e = cc

pub tails_equal : {X : Type 0} {x y : X} {xs ys : List X} → x ∷ xs ≡ y ∷ ys → xs ≡ ys
tails_equal e = cc

pub is_or_not : (b c : ℕ) → (b ≡ c) ⊎ (b ≡ c → ⊥)
is_or_not b c = elim (eqb_tells b c) [
  | inl (_, is) ↦ inl is
  | inr (_, not) ↦ inr not
]

-- ---- runs

-- bytes of one kind, and after them none
pub runs_apart : (these : ℕ → Type 0) (xs ys zs ws : List ℕ) → All these xs → NotFirst these ys
    → All these zs → NotFirst these ws → xs ++ ys ≡ zs ++ ws → (xs ≡ zs) × (ys ≡ ws)
runs_apart these [] ys [] ws a b c d e = (refl, e)
runs_apart these [] ys (z ∷ zs) ws a b c d e =
    let P : List ℕ → Type 0 = λ l. NotFirst these l in
    absurd (subst P e b (All-head these z zs c))
runs_apart these (x ∷ xs) ys [] ws a b c d e =
    let P : List ℕ → Type 0 = λ l. NotFirst these l in
    absurd (subst P (sym e) d (All-head these x xs a))
runs_apart these (x ∷ xs) ys (z ∷ zs) ws a b c d e =
    let (f, g) = runs_apart these xs ys zs ws (All-tail these x xs a) b (All-tail these z zs c) d
    (tails_equal e) in
    let h = heads_equal e in
    (cc, g)

-- ---- quotes twice

pub doubled_quote : (quote b : ℕ) (bs : List ℕ) → b ≡ quote
    → doubled quote (b ∷ bs) ≡ quote ∷ quote ∷ doubled quote bs
unfolding doubled
doubled_quote quote b bs e = rw (eq-eqb b quote e) refl

pub doubled_other : (quote b : ℕ) (bs : List ℕ) → (b ≡ quote → ⊥)
    → doubled quote (b ∷ bs) ≡ b ∷ doubled quote bs
unfolding doubled
doubled_other quote b bs e = rw (ne_eqb b quote e) refl

pub doubled_nil : (quote : ℕ) → doubled quote [] ≡ []
unfolding doubled
doubled_nil quote = refl

-- the contents of quotes, if the closing quote is there; `true`: after a quote
unfoldable unquoted : ℕ → Bool → List ℕ → Option (List ℕ)
unquoted quote false [] = None
unquoted quote true [] = Some []
unquoted quote false (b ∷ bs) =
    if b == quote then unquoted quote true bs
    else option_map (λ l. b ∷ l) (unquoted quote false bs)
unquoted quote true (b ∷ bs) =
    if b == quote then option_map (λ l. b ∷ l) (unquoted quote false bs) else Some []

unquoted_closed : (quote : ℕ) (xs ys : List ℕ) → NotFirst (λ b. b ≡ quote) ys
    → unquoted quote false (doubled quote xs ++ (quote ∷ ys)) ≡ Some xs
unfolding unquoted doubled
unquoted_closed quote [] [] not = rw (eq-eqb quote quote refl) refl
unquoted_closed quote [] (y ∷ ys) not = rw (eq-eqb quote quote refl, ne_eqb y quote not) refl
unquoted_closed quote (x ∷ xs) ys not = elim (is_or_not x quote) [
  | inl is ↦ rw (
    is,
    eq-eqb quote quote refl,
    eq-eqb quote quote refl,
    unquoted_closed quote xs ys not,
  ) refl
  | inr other ↦
      rw (ne_eqb x quote other, ne_eqb x quote other, unquoted_closed quote xs ys not) refl
]

unquoted_open : (quote : ℕ) (xs run : List ℕ) → All (IsNotQuote quote) run
    → unquoted quote false (doubled quote xs ++ run) ≡ None
unfolding unquoted doubled
unquoted_open quote [] [] all = refl
unquoted_open quote [] (b ∷ run) all = rw (
  ne_eqb b quote (All-head (IsNotQuote quote) b run all),
  unquoted_open quote [] run (All-tail (IsNotQuote quote) b run all),
) refl
unquoted_open quote (x ∷ xs) run all = elim (is_or_not x quote) [
  | inl is ↦ rw (
    is,
    eq-eqb quote quote refl,
    eq-eqb quote quote refl,
    unquoted_open quote xs run all,
  ) refl
  | inr other ↦
      rw (ne_eqb x quote other, ne_eqb x quote other, unquoted_open quote xs run all) refl
]

closed_apart : (quote : ℕ) (xs zs ys ws : List ℕ) → NotFirst (λ b. b ≡ quote) ys
    → NotFirst (λ b. b ≡ quote) ws
    → doubled quote xs ++ (quote ∷ ys) ≡ doubled quote zs ++ (quote ∷ ws)
    → (xs ≡ zs) × (ys ≡ ws)
closed_apart quote xs zs ys ws a b e =
    let same : Some xs ≡ Some zs = sym (unquoted_closed quote xs ys a)
    ∙ ap (λ l. unquoted quote false l) e ∙ unquoted_closed quote zs ws b in
    let f : xs ≡ zs = cc in
    (f, tails_equal (append_cancel_left (doubled quote zs) (quote ∷ ys) (quote ∷ ws) (rw f at e)))

unclosed_apart : (quote : ℕ) (done run field rest : List ℕ) → All (IsNotQuote quote) run
    → NotFirst (λ b. b ≡ quote) rest
    → doubled quote done ++ run ≡ doubled quote field ++ (quote ∷ rest) → ⊥
unclosed_apart quote done run field rest all not e =
    let same : None ≡ Some field = sym (unquoted_open quote done run all)
    ∙ ap (λ l. unquoted quote false l) e ∙ unquoted_closed quote field rest not in
    cc

-- what is written for bytes, and for bytes after them
pub doubled_append : (quote : ℕ) (xs ys : List ℕ)
    → doubled quote (xs ++ ys) ≡ doubled quote xs ++ doubled quote ys
doubled_append quote [] ys = ap (λ l. l ++ doubled quote ys) (sym (doubled_nil quote))
doubled_append quote (x ∷ xs) ys = elim (is_or_not x quote) [
  | inl is ↦ doubled_quote quote x (xs ++ ys) is
      ∙ ap (λ l. quote ∷ quote ∷ l) (doubled_append quote xs ys)
      ∙ ap (λ l. l ++ doubled quote ys) (sym (doubled_quote quote x xs is))
  | inr not ↦ doubled_other quote x (xs ++ ys) not ∙ ap (λ l. x ∷ l) (doubled_append quote xs ys)
      ∙ ap (λ l. l ++ doubled quote ys) (sym (doubled_other quote x xs not))
]

pub doubled_run : (quote : ℕ) (run : List ℕ) → All (IsNotQuote quote) run → doubled quote run ≡ run
doubled_run quote [] all = doubled_nil quote
doubled_run quote (x ∷ run) all = doubled_other quote x run (All-head (IsNotQuote quote) x run all)
    ∙ ap (λ l. x ∷ l) (doubled_run quote run (All-tail (IsNotQuote quote) x run all))

-- ---- fields

-- a byte that may follow a field
abbrev pub IsStop : Dialect → ℕ → Type 0
IsStop d b = (b ≡ d.delimiter) ⊎ IsBreak b

pub stops_not_quote : (d : Dialect) → IsApart d.delimiter d.quote → (rest : List ℕ)
    → FirstIfAny (IsStop d) rest → NotFirst (λ b. b ≡ d.quote) rest
stops_not_quote d apart [] stop = tt
stops_not_quote d apart (b ∷ rest) (inl is) = λ e. apart.others (sym is ∙ e)
stops_not_quote d apart (b ∷ rest) (inr (inl is)) = λ e. apart.quote_stays.0 (sym e ∙ is)
stops_not_quote d apart (b ∷ rest) (inr (inr is)) = λ e. apart.quote_stays.1 (sym e ∙ is)

pub stops_not_plain : (d : Dialect) (rest : List ℕ) → FirstIfAny (IsStop d) rest
    → NotFirst (IsPlain d) rest
stops_not_plain d [] stop = tt
stops_not_plain d (b ∷ rest) (inl is) = λ plain. plain.1.0 is
stops_not_plain d (b ∷ rest) (inr (inl is)) = λ plain. plain.1.1.0 is
stops_not_plain d (b ∷ rest) (inr (inr is)) = λ plain. plain.1.1.1 is

pub quoted_behind : (quote : ℕ) (field rest : List ℕ)
    → (quote ∷ (doubled quote field ++ quote ∷ [])) ++ rest
    ≡ quote ∷ (doubled quote field ++ (quote ∷ rest))
quoted_behind quote field rest =
    ap (λ l. quote ∷ l) (append_assoc (doubled quote field) (quote ∷ []) rest)

-- no quote in front of plain bytes, nor of what stops them
plain_not_quote : (d : Dialect) → IsApart d.delimiter d.quote → (field rest : List ℕ)
    → All (IsPlain d) field → FirstIfAny (IsStop d) rest
    → NotFirst (λ b. b ≡ d.quote) (field ++ rest)
plain_not_quote d apart [] rest all stop = stops_not_quote d apart rest stop
plain_not_quote d apart (b ∷ field) rest all stop = (All-head (IsPlain d) b field all).0

pub text_first : (d : Dialect) → IsApart d.delimiter d.quote → (bytes field text rest : List ℕ)
    → IsFieldText d field text → bytes ≡ text ++ rest → FirstIfAny (IsStop d) rest
    → StartsWithField d bytes field rest
text_first d apart bytes field text rest (inl is) e stop = inl (
  doubled d.quote field ++ (d.quote ∷ rest),
  e ∙ ap (λ l. l ++ rest) is ∙ quoted_behind d.quote field rest,
  (refl, stops_not_quote d apart rest stop),
)
text_first d apart bytes field text rest (inr (is, all)) e stop =
    let P : List ℕ → Type 0 = λ l. NotFirst (λ b. b ≡ d.quote) l in
    let f = e ∙ ap (λ l. l ++ rest) is in
    inr (
      f,
      all,
      stops_not_plain d rest stop,
      subst P (sym f) (plain_not_quote d apart field rest all stop),
    )

pub first_field_unique : (d : Dialect) (bytes field rest other behind : List ℕ)
    → StartsWithField d bytes field rest → StartsWithField d bytes other behind
    → (field ≡ other) × (rest ≡ behind)
first_field_unique d bytes field rest other behind (inl (here, e, (f, a)))
    (inl (there, g, (h, b))) =
    closed_apart d.quote field other rest behind a b (sym f ∙ tails_equal (sym e ∙ g) ∙ h)
first_field_unique d bytes field rest other behind (inl (here, e, q)) (inr (f, all, stop, not)) =
    let P : List ℕ → Type 0 = λ l. NotFirst (λ b. b ≡ d.quote) l in absurd (subst P e not refl)
first_field_unique d bytes field rest other behind (inr (f, all, stop, not)) (inl (here, e, q)) =
    let P : List ℕ → Type 0 = λ l. NotFirst (λ b. b ≡ d.quote) l in absurd (subst P e not refl)
first_field_unique d bytes field rest other behind (inr (e, all, a, n)) (inr (f, each, b, m)) =
    runs_apart (IsPlain d) field rest other behind all a each b (sym e ∙ f)

pub open_apart : (d : Dialect) (bytes field rest : List ℕ) → StartsWithOpenQuote d bytes
    → StartsWithField d bytes field rest → ⊥
open_apart d bytes field rest (here, e, (done, run, f, all)) (inl (there, g, (h, not))) =
    unclosed_apart d.quote done run field rest all not (sym f ∙ tails_equal (sym e ∙ g) ∙ h)
open_apart d bytes field rest (here, e, unclosed) (inr (f, all, stop, not)) =
    let P : List ℕ → Type 0 = λ l. NotFirst (λ b. b ≡ d.quote) l in subst P e not refl

-- ---- runs of bytes of one class

-- all are such
pub all_first : (these : ℕ → Type 0) (xs : List ℕ) (i n : ℕ) → length xs ≤ i → length xs ≡ n
    → All these (take i xs) → LongestPrefixLength these xs n
all_first these xs i n past is all = (
  omega arith,
  rw (take_all n xs (omega arith)) (rw (take_all i xs past) at all),
  rw (drop_all n xs (omega arith)) tt,
)

-- ---- between quotes

-- the run ends at a quote
pub run_quote : (quote : ℕ) (rest : List ℕ) (n : ℕ) → LongestPrefixLength (IsNotQuote quote) rest n
    → (n ≡ length rest → ⊥)
    → (rest ≡ take n rest ++ (quote ∷ drop (n + 1) rest)) × (n + 1 ≤ length rest)
run_quote quote rest n (within, all, not) some =
    let less : n < length rest = omega arith in
    let at = rw (drop_more rest n 0 less) at not in
    elim (is_or_not (get_or rest n 0) quote) [
      | inl is ↦ (
        sym (take-append-drop n rest) ∙ ap (λ l. take n rest ++ l)
            (drop_more rest n 0 less ∙ ap (λ b. b ∷ drop (n + 1) rest) is),
        omega arith,
      )
      | inr other ↦ absurd (at other)
    ]

-- a run after bytes that are read
pub doubled_append_run : (quote : ℕ) (done run : List ℕ) → All (IsNotQuote quote) run
    → doubled quote (done ++ run) ≡ doubled quote done ++ run
doubled_append_run quote done run all = doubled_append quote done run
    ∙ ap (λ l. doubled quote done ++ l) (doubled_run quote run all)

-- the run and its quote
pub take_quote : (quote : ℕ) (rest : List ℕ) (n : ℕ) → LongestPrefixLength (IsNotQuote quote) rest n
    → (n ≡ length rest → ⊥) → take (n + 1) rest ≡ take n rest ++ quote ∷ []
take_quote quote rest n run some =
    let (split, within) = run_quote quote rest n run some in
    let less : n < length rest = omega arith in
    let same = append_cancel_left (take n rest) (drop n rest) (quote ∷ drop (n + 1) rest)
    (take-append-drop n rest ∙ split) in
    take_more rest n 0 less
    ∙ ap (λ b. take n rest ++ b ∷ []) (heads_equal (sym (drop_more rest n 0 less) ∙ same))

-- a quote after a run is written twice
pub doubled_two : (quote : ℕ) (done run : List ℕ) → All (IsNotQuote quote) run
    → doubled quote (done ++ (run ++ quote ∷ []))
    ≡ doubled quote done ++ (run ++ (quote ∷ quote ∷ []))
doubled_two quote done run all = doubled_append quote done (run ++ quote ∷ [])
    ∙ ap (λ l. doubled quote done ++ l) (doubled_append quote run (quote ∷ [])
    ∙ ap (λ l. l ++ doubled quote (quote ∷ [])) (doubled_run quote run all)
    ∙ ap (λ l. run ++ l) (doubled_quote quote quote [] refl
    ∙ ap (λ l. quote ∷ quote ∷ l) (doubled_nil quote)))

-- the contents of quotes that were read, and the bytes added to the current field
pub record Between (quote : ℕ) (input rest base begun : List ℕ) : Type 0 where
  pub done : List ℕ
  pub whole : input ≡ doubled quote done ++ rest
  pub all : begun ≡ base ++ done

module _ (quote : ℕ) (input rest base begun : List ℕ) (n : ℕ)
    (it : Between quote input rest base begun)
    (run : LongestPrefixLength (IsNotQuote quote) rest n) where
  pub unclosed_here : n ≡ length rest → UnclosedQuotes quote input
  unclosed_here is = (it.done, rest, it.whole, rw (take_all n rest (omega arith)) at run.1)

  pub closed_here : (n ≡ length rest → ⊥) → (left added new : List ℕ) → left ≡ drop (n + 1) rest
      → NotFirst (λ b. b ≡ quote) left → added ≡ take n rest → new ≡ begun ++ added
      → (field : List ℕ) × ClosedQuotes quote input field left × (new ≡ base ++ field)
  closed_here some left added new is not adds e =
      let split = (run_quote quote rest n run some).0 in (
        it.done ++ take n rest,
        (
          it.whole ∙ ap (λ l. doubled quote it.done ++ l) split
              ∙ sym (append_assoc (doubled quote it.done) (take n rest) (quote ∷ drop (n + 1) rest))
              ∙ ap (λ l. l ++ (quote ∷ drop (n + 1) rest))
              (sym (doubled_append_run quote it.done (take n rest) run.1))
              ∙ ap (λ l. doubled quote (it.done ++ take n rest) ++ (quote ∷ l)) (sym is),
          not,
        ),
        e ∙ ap (λ l. begun ++ l) adds ∙ ap (λ l. l ++ take n rest) it.all
            ∙ append_assoc base it.done (take n rest),
      )

  pub more_here : (n ≡ length rest → ⊥) → (left next added new : List ℕ) → left ≡ drop (n + 1) rest
      → left ≡ quote ∷ drop 1 left → next ≡ drop 1 left → added ≡ take (n + 1) rest
      → new ≡ begun ++ added → Between quote input next base new
  more_here some left next added new is two goes adds e =
      let runs = take n rest in
      let tidy : (doubled quote it.done ++ (runs ++ (quote ∷ quote ∷ []))) ++ next
      ≡ doubled quote it.done ++ (runs ++ (quote ∷ quote ∷ next)) = simp append_assoc in
      record {
        done = it.done ++ (runs ++ quote ∷ []);
        whole = it.whole ∙ ap (λ l. doubled quote it.done ++ l)
            ((run_quote quote rest n run some).0
            ∙ ap (λ l. runs ++ (quote ∷ l)) (sym is ∙ two ∙ ap (λ l. quote ∷ l) (sym goes)))
            ∙ sym tidy ∙ ap (λ l. l ++ next) (sym (doubled_two quote it.done runs run.1));
        all = e ∙ ap (λ l. begun ++ l) (adds ∙ take_quote quote rest n run some)
            ∙ ap (λ l. l ++ (runs ++ quote ∷ [])) it.all
            ∙ append_assoc base it.done (runs ++ quote ∷ []);
      }

-- ---- the ends of records

-- the ways in which bytes end a record
abbrev IsEnded : List ℕ → List ℕ → Type 0
IsEnded bytes rest = (bytes ≡ 13 ∷ 10 ∷ rest)
    ⊎ ((bytes ≡ 10 ∷ rest) ⊎ ((bytes ≡ []) × (rest ≡ [])))

ended : (ends : LineEnds) (bytes rest : List ℕ) → RecordEnds ends bytes rest → IsEnded bytes rest
ended ends bytes rest (inr none) = inr (inr none)
ended CrLf bytes rest (inl (end, is, e)) = inl (rw is at e)
ended Lf bytes rest (inl (end, is, e)) = inr (inl (rw is at e))
ended Either bytes rest (inl (end, inl is, e)) = inl (rw is at e)
ended Either bytes rest (inl (end, inr is, e)) = inr (inl (rw is at e))

ended_one : (bytes rest left : List ℕ) → IsEnded bytes rest → IsEnded bytes left → rest ≡ left
ended_one bytes rest left (inl e) (inl f) = tails_equal (tails_equal (sym e ∙ f))
ended_one bytes rest left (inl e) (inr (inl f)) =
    let h : 13 ≡ 10 = heads_equal (sym e ∙ f) in absurd (omega (arith, h))
ended_one bytes rest left (inl e) (inr (inr (none, over))) = let h = sym e ∙ none in cc
ended_one bytes rest left (inr (inl e)) (inl f) =
    let h : 13 ≡ 10 = heads_equal (sym f ∙ e) in absurd (omega (arith, h))
ended_one bytes rest left (inr (inl e)) (inr (inl f)) = tails_equal (sym e ∙ f)
ended_one bytes rest left (inr (inl e)) (inr (inr (none, over))) = let h = sym e ∙ none in cc
ended_one bytes rest left (inr (inr (none, over))) (inl f) = let h = sym f ∙ none in cc
ended_one bytes rest left (inr (inr (none, over))) (inr (inl f)) = let h = sym f ∙ none in cc
ended_one bytes rest left (inr (inr (none, over))) (inr (inr (nothing, done))) = over ∙ sym done

pub line_end_is_unique : (ends : LineEnds) (bytes rest left : List ℕ) → RecordEnds ends bytes rest
    → RecordEnds ends bytes left → rest ≡ left
line_end_is_unique ends bytes rest left it other =
    ended_one bytes rest left (ended ends bytes rest it) (ended ends bytes left other)

break_first : (b : ℕ) (bytes rest : List ℕ) → IsEnded (b ∷ bytes) rest → IsBreak b
break_first b bytes rest (inl e) = inl (heads_equal e)
break_first b bytes rest (inr (inl e)) = inr (heads_equal e)
break_first b bytes rest (inr (inr (none, over))) = cc

-- what ends a record stops a field
pub ends_stop : (d : Dialect) (ends : LineEnds) (bytes rest : List ℕ) → RecordEnds ends bytes rest
    → FirstIfAny (IsStop d) bytes
ends_stop d ends [] rest it = tt
ends_stop d ends (b ∷ bytes) rest it =
    inr (break_first b bytes rest (ended ends (b ∷ bytes) rest it))

pub ends_apart : (d : Dialect) → IsApart d.delimiter d.quote → (bytes rest more : List ℕ)
    → RecordEnds d.ends bytes rest → bytes ≡ d.delimiter ∷ more → ⊥
ends_apart d apart bytes rest more it e =
    elim (break_first d.delimiter more rest (ended d.ends (d.delimiter ∷ more) rest (rw e at it))) [
      | inl is ↦ apart.delimiter_stays.0 is
      | inr is ↦ apart.delimiter_stays.1 is
    ]

-- nothing ends at a carriage return with no line feed after it
lone : (tail rest : List ℕ) → NotFirst (λ b. b ≡ 10) tail → IsEnded (13 ∷ tail) rest → ⊥
lone tail rest not (inl e) =
    let P : List ℕ → Type 0 = λ l. NotFirst (λ b. b ≡ 10) l in subst P (tails_equal e) not refl
lone tail rest not (inr (inl e)) = let h : 13 ≡ 10 = heads_equal e in omega (arith, h)
lone tail rest not (inr (inr (none, over))) = cc

pub lone_return : (ends : LineEnds) (tail rest : List ℕ) → NotFirst (λ b. b ≡ 10) tail
    → RecordEnds ends (13 ∷ tail) rest → ⊥
lone_return ends tail rest not it = lone tail rest not (ended ends (13 ∷ tail) rest it)

pub line_end_is_not_empty : (ends : LineEnds) (end : List ℕ) → IsLineEnd ends end → 0 < length end
line_end_is_not_empty CrLf end is = omega (arith, ap (λ l. length l) is)
line_end_is_not_empty Lf end is = omega (arith, ap (λ l. length l) is)
line_end_is_not_empty Either end (inl is) = omega (arith, ap (λ l. length l) is)
line_end_is_not_empty Either end (inr is) = omega (arith, ap (λ l. length l) is)
