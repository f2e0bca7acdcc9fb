-- Lemmas about results that are `Incomplete` only if the tokens do not start with a match. On
-- complete input of the same tokens they are results whose errors backtrack, so lemmas about
-- successive calls apply to both.
use Rattle.std.specs.Prelude.{◌≡◌, ◌⊎◌, Bool, true, false, Result, Ok, Err}
use Rattle.std.proofs.Common.{refl, sym, ap, inl, inr}
use Rattle.streams.specs.Equal.{true_is_false}
use Rattle.streams.specs.Following.{Following}
use Rattle.streams.specs.Input.{Input}
use Rattle.streams.specs.Kind.{Kind, backtrack, cut, incomplete, memory}
use Rattle.streams.specs.Partial.{with_flag}
use Rattle.streams.specs.Reading.{Reading}
use Rattle.grammars.specs.Grammar.{Grammar}
use Rattle.winnow_grammar.specs.Cut.{ReadsOrAsks}
use Rattle.format_resp.specs.MustAsk.{ReadsOrMustAsk}

-- the input as it is, or its tokens as complete input
abbrev pub input_if : {T : Type 0} → Bool → Input T → Input T
input_if true i = i
input_if false i = with_flag i false

-- the kind of an error on that input: on complete input each but out of memory is a backtrack
abbrev pub kind_if : Bool → Kind → Kind
kind_if true k = k
kind_if false memory = memory
kind_if false k = backtrack

pub backtracks_if : (more : Bool) {k : Kind} → k ≡ backtrack → kind_if more k ≡ backtrack
backtracks_if true e = e
backtracks_if false e = ap (λ k. kind_if false k) e

pub wants : (more : Bool) {k : Kind} → k ≡ memory → kind_if more k ≡ memory
wants true e = e
wants false e = ap (λ k. kind_if false k) e

none_if : {P : Type 0} (k : Kind) → (k ≡ memory) ⊎ P
    → (kind_if false k ≡ memory) ⊎ ((kind_if false k ≡ backtrack) × P)
none_if k (inl is) = inl (wants false is)
none_if memory (inr none) = inl refl
none_if backtrack (inr none) = inr (refl, none)
none_if cut (inr none) = inr (refl, none)
none_if (incomplete need) (inr none) = inr (refl, none)

if_none : {P : Type 0} (k : Kind)
    → (kind_if false k ≡ memory) ⊎ ((kind_if false k ≡ backtrack) × P) → (k ≡ memory) ⊎ P
if_none memory found = inl refl
if_none backtrack (inl is) = absurd (cc)
if_none cut (inl is) = absurd (cc)
if_none (incomplete need) (inl is) = absurd (cc)
if_none k (inr (is, none)) = inr none

-- the result on that input
abbrev pub ReadsIf : {T L O E : Type 0} → Bool → Reading T L → Following T → (E → Kind)
    → Grammar T O → Input T → Result O E → Input T → Type 0
ReadsIf more reading following kind grammar i result j =
    ReadsOrAsks reading following (λ e. kind_if more (kind e)) grammar (input_if more i) result
    (input_if more j)

module _ {T L O E : Type 0} {reading : Reading T L} {following : Following T} {kind : E → Kind}
    {grammar : Grammar T O} {i j : Input T} where
  pub reads_if : {result : Result O E} → ReadsOrMustAsk reading following kind grammar i result j
      → (more : Bool) → ReadsIf more reading following kind grammar i result j
  reads_if r true = r.reads
  reads_if {result = Ok o} r false = record {
    whole = record {
      ends = record { ends = r.reads.whole.ends.ends; cut = refl };
      stands = λ whole. r.first;
      none = λ whole. tt;
    };
    cut = λ cut. true_is_false (sym cut);
  }
  reads_if {result = Err e} r false = record {
    whole = record {
      ends = record { ends = r.reads.whole.ends.ends; cut = refl };
      stands = λ whole. tt;
      none = λ whole. none_if (kind e) r.first;
    };
    cut = λ cut. true_is_false (sym cut);
  }

  pub reads_both_ways : {result : Result O E}
      → ((more : Bool) → ReadsIf more reading following kind grammar i result j)
      → ReadsOrMustAsk reading following kind grammar i result j
  reads_both_ways {result = Ok o} r =
      record { reads = r true; first = (r false).whole.stands refl }
  reads_both_ways {result = Err e} r =
      record { reads = r true; first = if_none (kind e) ((r false).whole.none refl) }
