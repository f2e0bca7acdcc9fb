-- The bytes that the scanner for the end of a value has passed, and its results.
use Rattle.std.specs.Prelude.{◌≡◌, ◌↔◌, ◌≤◌, ◌+◌, ◌-◌, ◌++◌, ⊤, ℕ, suc, List, []}
use Rattle.std.specs.Prelude.{◌∷◌, length}
use Rattle.std.proofs.Common.{◌∙◌, ap, append_assoc, arith, length-append, refl, subst, sym}
use Rattle.std.proofs.lemmas.List.{append-nil}
use Rattle.std.proofs.lemmas.List.{nil_from_length}
use Rattle.format_json_pieces.specs.Begun.{HoldsAfterStep, HoldsAfterValue, IsViablePrefix}
use Rattle.format_json_pieces.specs.Begun.{last_open, next_step, others_open}
use Rattle.format_json_pieces.specs.Extents.{Begins, EndsAt, EndsBefore, EndsNowhere, IsExtentOf}
use Rattle.format_json_pieces.specs.Extents.{IsNew, IsReason, IsRejected, IsRejectedStep, IsTurn}
use Rattle.format_json_pieces.specs.Extents.{IsWalkedTo, SkipsPlain, Walked, brackets_in}
use Rattle.format_json_pieces.specs.declared.begun.Bracket.{Bracket}
use Rattle.format_json_pieces.specs.declared.begun.Mode.TheVariants as modes
use Rattle.format_json_pieces.specs.declared.begun.Step.{Step}
use Rattle.format_json_pieces.specs.declared.begun.Step.TheVariants as steps
use Rattle.format_json_pieces.specs.declared.extent.Reason.{Reason}
use Rattle.format_json_pieces.specs.declared.extent.Reason.TheVariants as reasons
use Rattle.format_json_pieces.specs.declared.extent.Turn.TheVariants as turns
use Rattle.format_json_pieces.specs.declared.extent.ValueExtent.{ValueExtent}
use Rattle.format_json_pieces.proofs.Extents.{ends_on, to_deeper, to_on, walked_deeper, walked_on}
use Rattle.format_json_pieces.proofs.Extents.Turns.{brackets_length}

-- ---- the bytes passed

pub of_new : (e : ValueExtent) (opened bytes : List ℕ) → IsNew e → IsExtentOf e opened bytes
of_new e opened bytes (none, closed, mode) = (
  bytes,
  record {
    front = [];
    splits = refl;
    few = omega (arith, closed);
    leads = (sym mode, ap (λ n. brackets_in opened n) (sym closed));
  },
  omega (arith, none),
)

-- a value that ends with a byte ends there before more
module _ (level b : ℕ) (more : List ℕ) where
  ends_after : (held : List Bracket)
      → HoldsAfterValue (◌≡◌ {A = List ℕ} [] []) (λ m o. EndsBefore level m o [] []) held
      → HoldsAfterValue (more ≡ more) (λ m o. EndsBefore level m o more more) held
  ends_after [] x = refl
  ends_after (k ∷ held) x = absurd x

  ends_more : (held : List Bracket) (s : Step)
      → HoldsAfterStep (b ∷ [] ≡ []) (◌≡◌ {A = List ℕ} [] [])
      (λ m o. EndsBefore level m o [] []) level
      held s
      → HoldsAfterStep (b ∷ more ≡ more) (more ≡ more) (λ m o. EndsBefore level m o more more) level
      held s
  ends_more held steps.Invalid x = x
  ends_more held steps.Ended x = absurd (omega (arith, ap (λ l. length l) x))
  ends_more held (steps.Goes m) x = absurd x
  ends_more held (steps.Opens k) x = absurd x.1
  ends_more held steps.Closes x = ends_after (others_open held) x
  ends_more held steps.Ends x = ends_after held x

module _ {e : ValueExtent} {opened bytes left : List ℕ} (w : Walked e opened bytes left) where
  abbrev inner : List Bracket
  inner = brackets_in opened e.depth

  abbrev levels : ℕ
  levels = length opened

  measured : (n : ℕ) → n ≡ length bytes - length left → length w.front ≡ n
  measured n is = omega (arith, is, ap (λ l. length l) w.splits, length-append w.front left)

  pub walked_skip : (rest : List ℕ) → SkipsPlain e.mode left rest → Walked e opened bytes rest
  walked_skip rest (run, split, stays) = record {
    front = w.front ++ run;
    splits = w.splits ∙ ap (λ l. w.front ++ l) split ∙ sym (append_assoc w.front run rest);
    few = w.few;
    leads = to_on e.mode inner levels e.mode inner run w.front modes.Value [] w.leads
        (stays levels inner);
  }

  begins_to : (deep : ℕ) → levels ≤ deep → (more : List ℕ)
      → IsViablePrefix deep e.mode inner more ↔ Begins deep (w.front ++ more)
  begins_to deep less more =
      walked_on (λ rest. ⊤) deep e.mode inner more w.front modes.Value []
      (to_deeper levels deep less e.mode inner w.front modes.Value [] w.leads)

  begins : Begins levels w.front
  begins =
      subst (λ l. Begins levels l) (append-nil w.front)
      ((begins_to levels (omega arith) []).0 tt)

  pub ends_to : (rest more : List ℕ)
      → EndsBefore levels e.mode inner more rest
      ↔ EndsBefore levels modes.Value [] (w.front ++ more) rest
  ends_to rest more = ends_on rest levels e.mode inner more w.front modes.Value [] w.leads

  -- at the end of the bytes
  all_of : length left ≡ 0 → bytes ≡ w.front ++ []
  all_of none = w.splits ∙ ap (λ l. w.front ++ l) (nil_from_length left none)

  pub of_end : length left ≡ 0 → (n : ℕ) → n ≡ length bytes → (more : List ℕ)
      → IsExtentOf (record { passed = n; depth = e.depth; mode = e.mode }) opened (bytes ++ more)
  of_end none n size more = (
    more,
    record {
      front = w.front;
      splits = ap (λ l. l ++ more) (all_of none ∙ append-nil w.front);
      few = w.few;
      leads = w.leads;
    },
    omega (arith, size, length-append bytes more),
  )

  pub at_end : length left ≡ 0 → Begins levels bytes × EndsNowhere levels bytes
  at_end none =
      let whole = all_of none in (
        subst (λ l. Begins levels l) (sym (whole ∙ append-nil w.front)) begins,
        λ rest x. (ends_to rest []).1
            (subst (λ l. EndsBefore levels modes.Value [] l rest) whole x),
      )

  module _ {b : ℕ} {more : List ℕ} (first : left ≡ b ∷ more) where
    abbrev next : Step
    next = next_step e.mode (last_open inner) b

    here : bytes ≡ w.front ++ b ∷ more
    here = w.splits ∙ ap (λ l. w.front ++ l) first

    pub walked_byte : (new : ValueExtent) (others : List ℕ)
        → IsTurn e opened b new others turns.Goes → Walked new others bytes more
    walked_byte new others (long, few, to) =
        let leads = to_on new.mode (brackets_in others new.depth) levels e.mode inner (b ∷ [])
        w.front modes.Value [] w.leads to in record {
          front = w.front ++ b ∷ [];
          splits = here ∙ sym (append_assoc w.front (b ∷ []) more);
          few = omega (arith, few, long);
          leads = subst (λ n. IsWalkedTo n modes.Value [] (w.front ++ b ∷ []) new.mode
              (brackets_in others new.depth)) (sym long) leads;
        }

    ends_here : (rest : List ℕ) → EndsBefore levels e.mode inner (b ∷ more) rest
        → EndsBefore levels modes.Value [] bytes rest
    ends_here rest x =
        subst (λ l. EndsBefore levels modes.Value [] l rest) (sym here)
        ((ends_to rest (b ∷ more)).0 x)

    pub at_ended : (new : ValueExtent) (others : List ℕ) → IsTurn e opened b new others turns.Ended
        → (n : ℕ) → n ≡ length bytes - length left → EndsAt levels bytes n
    at_ended new others is n size =
        let P : Step → Type 0 = λ s. HoldsAfterStep (b ∷ more ≡ b ∷ more) (more ≡ b ∷ more)
        (λ m o. EndsBefore levels m o more (b ∷ more)) levels inner s in (
          w.front,
          b ∷ more,
          here,
          measured n size,
          ends_here (b ∷ more) (subst P (sym is) refl),
        )

    pub at_ends : (new : ValueExtent) (others : List ℕ) → IsTurn e opened b new others turns.Ends
        → (n : ℕ) → n ≡ length bytes - length more → EndsAt levels bytes n
    at_ends new others is n size = (
      w.front ++ b ∷ [],
      more,
      here ∙ sym (append_assoc w.front (b ∷ []) more),
      omega (
        arith,
        size,
        ap (λ l. length l) here,
        length-append w.front (b ∷ more),
        length-append w.front (b ∷ []),
      ),
      ends_here more (ends_more levels b more inner next is),
    )

    why : (reason : Reason) → IsRejectedStep e opened next reason
        → IsReason levels (w.front ++ b ∷ []) reason
    why reasons.Malformed is = λ deep x.
        let big = levels + deep in
        let P : Step → Type 0 = λ s. HoldsAfterStep ⊤ ⊤ (λ m o. ⊤) big inner s in
        subst P is ((begins_to big (omega arith) (b ∷ [])).1
        (walked_deeper deep big (omega arith) (λ rest. ⊤) (w.front ++ b ∷ []) modes.Value [] x))
    why reasons.TooDeep (k, is, full) =
        let P : ℕ → Step → Type 0 = λ n s. HoldsAfterStep ⊤ ⊤ (λ m o. ⊤) n inner s in (
          λ x. absurd (omega (
            arith,
            full,
            brackets_length opened e.depth,
            (subst (λ s. P levels s) is ((begins_to levels (omega arith) (b ∷ [])).1 x)).0,
          )),
          (begins_to (suc levels) (omega arith) (b ∷ [])).0
              (subst (λ s. P (suc levels) s) (sym is)
              (omega (arith, w.few, brackets_length opened e.depth), tt)),
        )
    why reasons.Unfinished is = is

    pub at_never : (new : ValueExtent) (others : List ℕ) (reason : Reason)
        → IsTurn e opened b new others (turns.Never reason) → (n : ℕ)
        → n ≡ length bytes - length left
        → IsRejected levels bytes (record { reason = reason; offset = n })
    at_never new others reason is n size =
        (w.front, b, more, here, measured n size, begins, why reason is)
