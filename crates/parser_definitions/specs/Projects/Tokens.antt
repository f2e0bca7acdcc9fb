-- Grammars of parsers of tokens and of takes.
use Rattle.std.specs.Prelude.{◌≡◌, ◌<◌, ℕ, Bool, List, [], ◌++◌, length, Some, None}
use Rattle.std.proofs.Common.{refl, sym, ap, inl, inr, ◌∙◌, arith, length-append}
use Rattle.std.proofs.lemmas.List.{append-nil}
use Rattle.streams.specs.Equal.{same_first, true_is_false}
use Rattle.streams.specs.Reading.{Reading}
use Rattle.streams.specs.Stream.{AnswersSeen}
use Rattle.stream_sets.specs.Longest.{one_longest, within_is}
use Rattle.stream_sets.specs.Once.{SetIsFunction}
use Rattle.stream_sets.specs.Range.{Bounds, IsWithin}
use Rattle.grammars.specs.Grammar.{AllTokens, Counted, Grammar, IsUnique, Longest, NoMatch}
use Rattle.grammars.specs.Grammar.{TakesTokens, Token, TokenOf, UnitsLeft}
use Rattle.grammars.specs.Grammar.Lengths.{same_beginnings}
use Rattle.grammars.specs.Grammar.Searches.{Before}
use Rattle.grammars.specs.Grammar.Searches.Unique.{as_long, before_unique, stands_behind}
use Rattle.grammars.specs.Grammar.Unique.{token_of_unique, token_unique}
use Rattle.parser_definitions.specs.Any.{AnyDoes, IsFirst}
use Rattle.parser_definitions.specs.Left.{Left}
use Rattle.parser_definitions.specs.Members.{InBounds, IsDescending}
use Rattle.parser_definitions.specs.OneOf.{IsMember, IsNonMember, OneOfDoes}
use Rattle.parser_definitions.specs.Outcome.{Does}
use Rattle.parser_definitions.specs.Projects.{Complete, Projects, Reads, complete, reads_cases}
use Rattle.parser_definitions.specs.Projects.{reads_fails, reads_given, reads_lacks, reads_misused}
use Rattle.parser_definitions.specs.Projects.{reads_takes}
use Rattle.parser_definitions.specs.Rest.{AllPassed, CountsRest, RestDoes, RestLenDoes}
use Rattle.parser_definitions.specs.Shown.{first_of_none}
use Rattle.parser_definitions.specs.Take.{AreCounted, AreTooFew, TakeDoes, missing_from}
use Rattle.parser_definitions.specs.TakeUntil.{IsOutOfBounds, LacksMatch, PrecedesMatch}
use Rattle.parser_definitions.specs.TakeUntil.{TakeUntilDoes}
use Rattle.parser_definitions.specs.TakeWhile.{HasEnough, HasTooFew, MayContinue, TakeWhileDoes}
use Rattle.parser_definitions.specs.TakeWhile.{missing_members}

-- ---- one token

pub token_takes : {K T : Type 0} (seen : K → T) → TakesTokens (Token seen)
unfolding Token
token_takes seen = record { fewer = λ tokens k rest e. omega (arith, ap (λ l. length l) e) }

module _ {X K T L : Type 0} {b m : Type 0} {at : Complete} {x : X} (seen : K → T)
    (reading : Reading T L) where
  pub any_projects : Projects b m (AnyDoes seen reading) at x (Token seen)
  unfolding Token
  any_projects = record {
    reads = reads_cases (reads_takes (IsFirst seen reading) (λ w k rest p. p.tokens))
        (reads_lacks (λ x w. Some 1) (λ x at w. w.tokens ≡ [])
        (λ w none k rest e. first_of_none none e));
    unique = token_unique seen;
  }

  -- also of `none_of`, with the tokens outside the set
  pub one_of_projects : (tells : X → K → Bool → Type 0)
      → SetIsFunction (AnswersSeen seen (tells x))
      → Projects b m (OneOfDoes seen reading tells) at x (TokenOf seen tells x)
  unfolding TokenOf
  one_of_projects tells once = record {
    reads = reads_cases
        (reads_takes (IsMember seen reading tells) (λ w k rest (p, has). (has, p.tokens)))
        (reads_cases
        (reads_fails (IsNonMember seen reading tells) (λ w (k, rest, is, lacks) l more (has, e).
        once (seen l) (l, refl, has) (k, same_first (sym is ∙ e), lacks)))
        (reads_lacks (λ x w. Some 1) (λ x at w. w.tokens ≡ [])
        (λ w none k rest (has, e). first_of_none none e)));
    unique = token_of_unique seen tells x;
  }

-- ---- takes by number

module _ {X T L : Type 0} {b m : Type 0} {at : Complete} {x : X} (reading : Reading T L) where
  pub take_projects : (counts : Bool) (count : X → ℕ)
      → Projects b m (TakeDoes reading counts count) at x (Counted reading (count x))
  unfolding Counted
  take_projects counts count = record {
    reads = reads_cases
        (reads_takes (AreCounted reading counts count)
        (λ w v rest (f, many, shown, p). (f, many, shown, p.tokens)))
        (reads_lacks (missing_from reading counts count) (AreTooFew reading counts count)
        (λ w few v rest (f, many, shown, e).
        absurd (omega (arith, few, many, ap (λ l. length l) e, length-append f rest))));
    unique = record {
      ends = λ tokens v rest (f, many, shown, e). (f, e);
      one = λ tokens u v rest end (f, many, shown, e) (g, too, shows, d).
          (same_beginnings f g rest end (many ∙ sym too) (sym e ∙ d)).1;
    };
  }

  pub rest_projects : Projects b m (RestDoes reading) at x (AllTokens reading)
  unfolding AllTokens
  rest_projects = record {
    reads = reads_takes (AllPassed reading) (λ w v rest (shown, p, none). (shown, none));
    unique = record {
      ends = λ tokens v rest (shown, e).
          (tokens, sym (append-nil tokens) ∙ ap (λ l. tokens ++ l) (sym e));
      one = λ tokens u v rest end (shown, e) (shows, f). e ∙ sym f;
    };
  }

  pub rest_len_projects : Projects b m (RestLenDoes reading) at x (UnitsLeft reading)
  unfolding UnitsLeft
  rest_len_projects = record {
    reads = reads_takes (CountsRest reading)
        (λ w n rest (e, same). (e, ap (λ l. l.tokens) same));
    unique = record {
      ends = λ tokens n rest (is, e). ([], sym e);
      one = λ tokens m n rest end (is, e) (be, f). e ∙ sym f;
    };
  }

-- ---- takes by set

as_many : {T : Type 0} {tokens : List T} (f g : List T) {rest more : List T}
    → tokens ≡ f ++ rest → tokens ≡ g ++ more → rest ≡ more → length f ≡ length g
as_many f g {rest} {more} a b e = omega (
  arith,
  ap (λ l. length l) (sym a ∙ b),
  length-append f rest,
  length-append g more,
  ap (λ l. length l) e,
)

module _ {X K T L : Type 0} (reading : Reading T L) (seen : K → T)
    (tells : X → K → Bool → Type 0) (set : X) (bounds : Bounds) where
  pub longest_unique : SetIsFunction (AnswersSeen seen (tells set))
      → IsUnique (Longest reading seen tells set bounds)
  unfolding Longest
  longest_unique once = record {
    ends = λ tokens o rest (f, longest, enough, shown). (f, longest.splits);
    one = λ tokens o p rest other (f, longest, enough, shown) (g, too, enough2, shown2).
        one_longest (AnswersSeen seen (tells set)) bounds.greatest once longest too;
  }

  -- if the least number is at least one, tokens are taken
  pub longest_takes : 0 < bounds.least → TakesTokens (Longest reading seen tells set bounds)
  unfolding Longest
  longest_takes some = record {
    fewer = λ tokens o rest (front, longest, enough, shown). omega
        (arith, ap (λ l. length l) longest.splits, length-append front rest, some, enough);
  }

-- within bounds that contain a number
reads_bounds : {X T O : Type 0} {b m : Type 0} {at : Complete} {x : X} {grammar : Grammar T O}
    (bounds : X → Bounds) {does : Does X T O}
    → IsWithin (bounds x).greatest (bounds x).least → Reads b m does at x grammar
    → Reads b m (InBounds bounds does) at x grammar
reads_bounds {x = x} bounds possible r = reads_cases
    (reads_misused (λ x. IsDescending (bounds x)) (λ (most, e, below).
    absurd (omega (arith, within_is e possible, below))))
    (reads_given (λ x. IsWithin (bounds x).greatest (bounds x).least) (λ within. r))

-- the members of the set of a state
abbrev Members : {X S K T : Type 0} → (K → T) → (S → K → Bool → Type 0) → (X → S) → X → T → Bool
    → Type 0
Members seen tells set x = AnswersSeen seen (tells (set x))

-- also of `take_till`, with the tokens outside the set
pub take_while_projects : {X S K T L : Type 0} {b m : Type 0} {at : Complete} {x : X}
    (reading : Reading T L) (seen : K → T) (tells : S → K → Bool → Type 0) (set : X → S)
    (bounds : X → Bounds) → SetIsFunction (Members seen tells set x)
    → IsWithin (bounds x).greatest (bounds x).least
    → Projects b m (TakeWhileDoes reading (Members seen tells set) bounds) at x
    (Longest reading seen tells (set x) (bounds x))
unfolding Longest
take_while_projects {x = x} reading seen tells set bounds once possible = record {
  reads = reads_bounds bounds possible (reads_cases
      (reads_lacks (missing_members reading (Members seen tells set) bounds)
      (MayContinue reading (Members seen tells set) bounds)
      (λ w (all, more). true_is_false (sym more)))
      (reads_cases
      (reads_takes (HasEnough reading (Members seen tells set) bounds)
      (λ w v rest (f, (longest, over), enough, shown, p). (f, longest, enough, shown)))
      (reads_fails (HasTooFew reading (Members seen tells set) bounds)
      (λ w (f, rest, (longest, over), few) v other (g, too, enough, shown).
      let left = one_longest (Members seen tells set x) (bounds x).greatest once longest too in
      absurd (omega (arith, as_many f g longest.splits too.splits left, few, enough))))));
  unique = longest_unique reading seen tells (set x) (bounds x) once;
}

-- ---- takes up to a literal

module _ {X T L : Type 0} {b m : Type 0} {at : Complete} {x : X} (reading : Reading T L)
    (sought : X → List T → Type 0) (bounds : X → Bounds) where
  pub take_until_projects : IsWithin (bounds x).greatest (bounds x).least
      → Projects b m (TakeUntilDoes reading sought bounds) at x
      (Before reading (sought x) (bounds x))
  unfolding Before
  take_until_projects possible = record {
    reads = reads_bounds bounds possible (reads_cases
        (reads_lacks (λ x w. None) (LacksMatch reading sought bounds) lacks)
        (reads_cases
        (reads_takes (PrecedesMatch reading sought bounds)
        (λ w v rest (f, before, enough, fits, shown, p). (f, before, enough, fits, shown)))
        (reads_fails (IsOutOfBounds reading sought bounds) outside)));
    unique = before_unique reading (sought x) (bounds x);
  }
    where
      lacks : (w : Left T) → LacksMatch reading sought bounds x (complete at) w
          → NoMatch (Before reading (sought x) (bounds x)) w.tokens
      lacks w (inl nowhere) v rest (f, before, enough, fits, shown) =
          let (hit, behind, there) = stands_behind before in nowhere f hit behind there
      lacks w (inr (g, end, also, few, most, is)) v rest (f, before, enough, fits, shown) =
          omega (arith, as_long before also, few, enough)

      outside : (w : Left T) → IsOutOfBounds reading sought bounds x (complete at) w
          → NoMatch (Before reading (sought x) (bounds x)) w.tokens
      outside w (g, end, also, inl (few, none)) v rest (f, before, enough, fits, shown) =
          omega (arith, as_long before also, few, enough)
      outside w (g, end, also, inr (most, is, le, much)) v rest
          (f, before, enough, fits, shown) =
          omega (arith, as_long before also, much, within_is is fits)
