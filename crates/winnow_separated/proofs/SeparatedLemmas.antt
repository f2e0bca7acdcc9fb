-- Calls of elements with separators: the first element, and the links after it.
use Rattle.std.proofs.Common.{◌≡◌, ◌-◌, ℕ, Option, Some, None, Ok}
use Rattle.std.proofs.Common.{refl, subst, ◌∙◌, inl, inr}
use Rattle.std.specs.Prelude.{MatchOption}
use Rattle.streams.specs.Input.{Input, is_end_of_trans}
use Rattle.streams.specs.Reading.{Reading}
use Rattle.stream_errors.specs.Form.{Answer, ErrorForm}
use Rattle.stream_sets.specs.Accumulator.{Accumulator}
use Rattle.stream_sets.specs.Range.{Bounds, IsBelow}
use Rattle.parser_definitions.specs.Does.{Ran}
use Rattle.parser_definitions.specs.Folding.{gathering}
use Rattle.parser_definitions.specs.Items.{Items}
use Rattle.parser_definitions.specs.Left.{left_of}
use Rattle.parser_definitions.specs.Outcome.{Does, took}
use Rattle.parser_definitions.specs.Separated.{Elements, links_within, one_less}
use Rattle.parser_definitions.specs.Threes.{one_of, pair_of, with_one, with_pair}
use Rattle.winnow_separated.specs.Separated.{OnlyElements}
use Rattle.winnow_repeat.specs.Called.{there}

-- after the first element, one is missing less, and there is room for one less
pub fewer_links : (links : ℕ → Option ℕ → Type 0) (least missing : ℕ) (greatest room : Option ℕ)
    → missing ≡ least - 1 → MatchOption greatest (room ≡ None) (λ n. room ≡ Some (n - 1))
    → links missing room → links (least - 1) (one_less greatest)
fewer_links links least missing None room m r ran =
    let P : ℕ → Type 0 = λ n. links n None in subst P m (subst (links missing) r ran)
fewer_links links least missing (Some most) room m r ran =
    let P : ℕ → Type 0 = λ n. links n (Some (most - 1)) in
    subst P m (subst (links missing) r ran)

-- the first element, and links after it
pub links_follow : {S W R T L C O D : Type 0} (reading : Reading T L) (into : Accumulator C O)
    (element : Does S T O) (separator : Does W T D) (bounds : Bounds) (form : ErrorForm) (c : C)
    (s : S × W × R) (i : Input T) → IsBelow bounds.greatest 0 → (o : O) (v : S) (x : Input T)
    → Ran reading element form s.0 i (Ok o) v x → (d : C) → into.takes c o d → (a : Answer C)
    (t : S × W × R) (j : Input T)
    → Ran reading (Items pair_of with_pair (gathering into) (links_within bounds)
    (OnlyElements element separator) d) form (v, s.1, s.2) x a t j
    → Ran reading
    (Elements one_of with_one pair_of with_pair (gathering into) element separator bounds c) form s
    i a t j
links_follow reading into element separator bounds form c s i below o v x ran d taken a t j links =
    let follows = Items pair_of with_pair (gathering into) (links_within bounds)
    (OnlyElements element separator) d in (
      is_end_of_trans links.0 ran.0,
      links.1 ∙ ran.1,
      links.2 ∙ ran.2,
      inr (
        below,
        (
          took o (v, left_of x),
          ran.3,
          inl (
            d,
            (v, s.1, s.2),
            (taken, refl),
            there reading follows form i x (v, s.1, s.2) a t j ran.0 links,
          ),
        ),
      ),
    )
