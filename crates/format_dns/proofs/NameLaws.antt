-- Uniqueness: at each offset of a message there is either one name or an error.
use Rattle.std.specs.Prelude.{◌≡◌, ◌⊎◌, ◌≤◌, ◌<◌, ◌+◌, ◌-◌, ◌*◌, ◌++◌, ℕ, zero, suc, List}
use Rattle.std.specs.Prelude.{None, drop, length, take}
use Rattle.std.specs.Prelude.{Err, Ok, Result, slice_range}
use Rattle.std.specs.Result.{IsErrAnd}
use Rattle.std.specs.declared.vec.Vec.{Vec}
use Rattle.std.proofs.Common.{refl, sym, ap, subst, inl, inr, ◌∙◌, arith, length-append}
use Rattle.std.proofs.Common.{append_assoc, length-drop}
use Rattle.std.proofs.lemmas.List.{length-take-le, take-append-drop, take_all}
use Rattle.streams.specs.Equal.{same_some}
use Rattle.stream_sets.specs.Range.{from_to}
use Rattle.grammars.specs.Grammar.{Each, Gathered, Many}
use Rattle.grammars.specs.Grammar.Lengths.{same_beginnings}
use Rattle.grammars.specs.Grammar.Unique.{many_unique}
use Rattle.format_dns.specs.Names.{AreLabels, SuffixAt, FaultBy, HasNoName, IsNameEnding}
use Rattle.format_dns.specs.Names.{IsNoNameEnding, HasMore, IsLabel, IsName, IsPointer, IsRoot}
use Rattle.format_dns.specs.Names.{Label, NameBy, NameWithin, NoEnding, octets}
use Rattle.format_dns.proofs.Octets.{each_here, none_here, octets_append, octets_each}
use Rattle.format_dns.proofs.Octets.{octets_least, octets_most}
use Rattle.format_dns.specs.declared.fault.PartError.{PartError}
use Rattle.format_dns.specs.declared.fault.PartError.TheVariants.{NoMemory, NotPrior, TooLong}
use Rattle.format_dns.specs.declared.fault.PartError.TheVariants.{TooMany}
use Rattle.format_dns.specs.declared.name.Name.{Name}
use Rattle.format_dns.proofs.Laws.{LabelsRead, goes_one, label_unique, root_pointer}

-- ---- either one name or an error

module _ (message : List ℕ) where
  pub suffix_unique : {place : ℕ} {tokens others : List ℕ} → SuffixAt message place tokens
      → SuffixAt message place others → tokens ≡ others
  suffix_unique {place} {tokens} {others} (front, size, e) (other, size2, f) =
      (same_beginnings front other tokens others (size ∙ sym size2) (sym e ∙ f)).1

  -- the rest after the labels at an offset is unique
  one_rest : {start end end2 : ℕ} {here here2 : List Label} {rest rest2 : List ℕ}
      → AreLabels message start here end rest → AreLabels message start here2 end2 rest2
      → rest ≡ rest2
  one_rest {here = here} {here2 = here2} {rest = rest} {rest2 = rest2} a b =
      let P : List ℕ → Type 0 = λ l. Many IsLabel (from_to 0 None) l here2 rest2 in
      (many_unique label_unique (from_to 0 None)).one a.tokens here here2 rest rest2 a.each
      (subst P (suffix_unique b.starts a.starts) b.each)

  -- ... and the place of it
  one_end : {start end end2 : ℕ} {here here2 : List Label} {rest rest2 : List ℕ}
      → AreLabels message start here end rest → AreLabels message start here2 end2 rest2
      → end ≡ end2
  one_end {rest = rest} {rest2 = rest2} a b =
      let (front, size, e) = a.ends in
      let (front2, size2, f) = b.ends in
      omega (
        arith,
        size,
        size2,
        ap (λ l. length l) e,
        ap (λ l. length l) f,
        length-append front rest,
        length-append front2 rest2,
        ap (λ l. length l) (one_rest a b),
      )

  behind_by : {others : ℕ → List Label → Type 0} (start : ℕ) (labels more : List Label)
      (behind other : ℕ) → NameBy message others start labels behind
      → NameBy message others start more other → behind ≡ other
  behind_by start labels more behind other (here, end, rest, a, inl (root, e, is))
      (here2, end2, rest2, b, inl (root2, f, is2)) = omega (arith, is, is2, one_end a b)
  behind_by start labels more behind other (here, end, rest, a, inl (root, e, is))
      (here2, end2, rest2, b, inr (to, p, prior, o)) =
      let P : List ℕ → Type 0 = λ l. IsRoot l in
      absurd (root_pointer (subst P (one_rest a b) root) p)
  behind_by start labels more behind other (here, end, rest, a, inr (to, p, prior, o))
      (here2, end2, rest2, b, inl (root, f, is)) =
      let P : List ℕ → Type 0 = λ l. IsRoot l in
      absurd (root_pointer (subst P (sym (one_rest a b)) root) p)
  behind_by start labels more behind other
      (here, end, rest, a, inr (to, p, prior, (x, o, out, is)))
      (here2, end2, rest2, b, inr (to2, p2, prior2, (y, o2, out2, is2))) =
      omega (arith, is, is2, one_end a b)

  -- the offset after a name is unique
  pub name_end_unique : (pointers start : ℕ) (labels more : List Label) (behind other : ℕ)
      → IsName message pointers start labels behind → IsName message pointers start more other
      → behind ≡ other
  name_end_unique zero start labels more behind other a b =
      behind_by start labels more behind other a b
  name_end_unique (suc pointers) start labels more behind other a b =
      behind_by start labels more behind other a b

  -- a place past the end has no labels
  not_past : {start end : ℕ} {here : List Label} {rest : List ℕ} → length message < start
      → AreLabels message start here end rest → ⊥
  not_past past a =
      let (front, size, e) = a.starts in
      omega (arith, past, size, ap (λ l. length l) e, length-append front a.tokens)

  -- what a name has after labels, and its octets
  within : {others : ℕ → List Label → Type 0} (room few start : ℕ) (here : List Label) (end : ℕ)
      (rest : List ℕ) (labels : List Label) (behind : ℕ) → few ≤ octets here
      → octets labels ≤ room → IsNameEnding others start here end rest labels behind
      → IsNameEnding (λ to more. others to more × (octets more ≤ room - few)) start here end
      rest labels
      behind
  within room few start here end rest labels behind least fits (inl root) = inl root
  within room few start here end rest labels behind least fits
      (inr (to, p, prior, (more, o, out, is))) =
      inr (
        to,
        p,
        prior,
        (
          more,
          (o, omega (arith, least, fits, ap octets out, octets_append here more)),
          out,
          is,
        ),
      )

  -- a name has no fewer octets than its first labels
  first_octets : {others : ℕ → List Label → Type 0} (start : ℕ) (here : List Label) (end : ℕ)
      (rest : List ℕ) (labels : List Label) (behind : ℕ)
      → IsNameEnding others start here end rest labels behind → octets here ≤ octets labels
  first_octets start here end rest labels behind (inl (root, e, is)) = omega (arith, ap octets e)
  first_octets start here end rest labels behind (inr (to, p, prior, (more, o, out, is))) =
      omega (arith, ap octets out, octets_append here more)

  not_both : {others : ℕ → List Label → Type 0} {faults : ℕ → ℕ → ℕ → PartError → Type 0}
      → ((left end to : ℕ) (fault : PartError) (more : List Label) → faults left end to fault
      → others to more × (octets more ≤ left) → ⊥) → (room start : ℕ) (fault : PartError)
      (labels : List Label) (behind : ℕ) → FaultBy message faults room start fault
      → NameBy message others start labels behind → octets labels ≤ room → ⊥
  not_both below room start fault labels behind (inl (is, past)) (here, end, rest, a, ends) fits =
      not_past past a
  not_both below room start fault labels behind
      (inr (inl (is, (tokens, some, other, at, each, many)))) (here, end, rest, a, ends) fits =
      let P : List ℕ → Type 0 = λ l. Each IsLabel l some other in
      omega (
        arith,
        many,
        octets_most some here a.tokens other rest (subst P (suffix_unique at a.starts) each)
            (each_here a) (none_here a),
        first_octets start here end rest labels behind ends,
        fits,
      )
  not_both {others} {faults} below room start fault labels behind
      (inr (inr (here, end, rest, a, enough, why))) (here2, end2, rest2, b, ends) fits =
      let P : List ℕ → Type 0 =
      λ l. IsNoNameEnding (faults (room - octets here)) start end l fault in
      let Q : List ℕ → Type 0 = λ l. Each IsLabel l here rest in
      goes_one (below (room - octets here)) start end rest2 fault here2 end2 labels behind
      (subst P (one_rest a b) why)
      (within room (octets here) start here2 end2 rest2 labels behind
      (octets_most here here2 b.tokens rest rest2 (subst Q (suffix_unique a.starts b.starts)
      (each_here a)) (each_here b) (none_here b)) fits ends)

  pub invalid_is_no_name : (pointers room start : ℕ) (fault : PartError)
      → HasNoName message pointers room start fault
      → (labels : List Label) (behind : ℕ) → IsName message pointers start labels behind
      → octets labels ≤ room → ⊥
  invalid_is_no_name zero room start fault h labels behind is =
      not_both {faults = λ left end to fault. fault ≡ TooMany end}
      (λ left end to fault more f o. o.0) room start fault labels behind h is
  invalid_is_no_name (suc pointers) room start fault h labels behind is =
      not_both {faults = λ left end to fault. HasNoName message pointers left to fault}
      (λ left end to fault more f ((behind, o), few). invalid_is_no_name pointers left to fault
      f more behind o
      few) room start fault labels behind h is

  -- facts about the labels read from an offset on: the bytes before them, and their octets
  read_from : (place most : ℕ) (tokens rest : List ℕ) {A : Type 0} (labels : Vec Label A)
      → place ≤ length message → tokens ≡ slice_range message place (length message)
      → LabelsRead most tokens labels rest → SuffixAt message place tokens
      × Each IsLabel tokens labels.items rest
      × (length message ≡ place + (octets labels.items + length rest))
  unfolding Gathered Many
  read_from place most tokens rest labels enough is (xs, held, (each, least, stops)) =
      let whole = is ∙ take_all (length message - place) (drop place message)
      (omega (arith, length-drop place message)) in
      let before = take place message in
      let there = sym (take-append-drop place message) ∙ ap (λ l. before ++ l) (sym whole) in
      let P : List Label → Type 0 = λ l. Each IsLabel tokens l rest in
      let all = subst P (sym held) each in (
        (before, length-take-le place message enough, there),
        all,
        omega (
          arith,
          length-take-le place message enough,
          ap (λ l. length l) there,
          length-append before tokens,
          octets_each labels.items tokens rest all,
        ),
      )

  more_octets : (place most room : ℕ) (tokens rest : List ℕ) {A : Type 0} (labels : Vec Label A)
      → place ≤ length message → tokens ≡ slice_range message place (length message)
      → LabelsRead most tokens labels rest → room < (length message - length rest) - place
      → HasMore message place room
  more_octets place most room tokens rest labels enough is read many =
      let (at, each, sum) = read_from place most tokens rest labels enough is read in
      (tokens, labels.items, rest, at, each, omega (arith, sum, many))

  -- they are too many
  pub too_long : (pointers place most room : ℕ) (tokens rest : List ℕ) {A : Type 0}
      (labels : Vec Label A) → place ≤ length message
      → tokens ≡ slice_range message place (length message) → LabelsRead most tokens labels rest
      → room < (length message - length rest) - place
      → HasNoName message pointers room place (TooLong place)
  too_long zero place most room tokens rest labels enough is read many =
      inr (inl (refl, more_octets place most room tokens rest labels enough is read many))
  too_long (suc pointers) place most room tokens rest labels enough is read many =
      inr (inl (refl, more_octets place most room tokens rest labels enough is read many))

  -- fewer than may be are all
  few_are_all : (place most room : ℕ) (tokens rest : List ℕ) {A : Type 0} (labels : Vec Label A)
      → place ≤ length message → tokens ≡ slice_range message place (length message)
      → LabelsRead most tokens labels rest → room < 2 * most
      → (length message - length rest) - place ≤ room
      → Many IsLabel (from_to 0 None) tokens labels.items rest
  unfolding Gathered Many
  few_are_all place most room tokens rest labels enough is (xs, held, (each, least, stops))
      some fits =
      let (at, all, sum) = read_from place most tokens rest labels enough is
      (xs, held, (each, least, stops)) in
      let few : length xs < most = omega (
        arith,
        sum,
        fits,
        some,
        octets_least labels.items tokens rest all,
        ap (λ l. length l) held,
      ) in (
        all,
        omega arith,
        elim stops [
          | inl full ↦ absurd (omega (arith, few, same_some full))
          | inr (below, none) ↦ inr (tt, none)
        ],
      )

  pub labels_at : (place most room : ℕ) (tokens rest : List ℕ) {A : Type 0} (labels : Vec Label A)
      → place ≤ length message → tokens ≡ slice_range message place (length message)
      → LabelsRead most tokens labels rest → room < 2 * most
      → (length message - length rest) - place ≤ room
      → AreLabels message place labels.items (length message - length rest) rest
  labels_at place most room tokens rest labels enough is read some fits =
      let (at, each, sum) = read_from place most tokens rest labels enough is read in
      let (before, size, there) = at in
      let each_is = few_are_all place most room tokens rest labels enough is read some fits in
      let (front, e) = (many_unique label_unique (from_to 0 None)).ends tokens labels.items rest
      each_is in
      let all = there ∙ ap (λ l. before ++ l) e ∙ sym (append_assoc before front rest) in record {
        tokens = tokens;
        starts = at;
        each = each_is;
        ends = (
          before ++ front,
          omega (arith, ap (λ l. length l) all, length-append (before ++ front) rest),
          all,
        );
      }

  pub told_fault : (pointers room start : ℕ) (fault : PartError)
      → HasNoName message pointers room start fault
      → (fault ≡ NoMemory) ⊎ (HasNoName message pointers room start fault
      × ((labels : List Label) (behind : ℕ) → IsName message pointers start labels behind
      → octets labels ≤ room → ⊥))
  told_fault pointers room start fault h = inr (h, invalid_is_no_name pointers room start fault h)

  -- ... where it is passed on
  pub told_err : {A : Type 0} (pointers room start : ℕ) {fault : PartError}
      (r : Result (Name A) PartError)
      → IsErrAnd r (λ y. y ≡ fault)
      → (fault ≡ NoMemory) ⊎ HasNoName message pointers room start fault
      → NameWithin message pointers room start r
  told_err pointers room start (Ok name) is _ = elim is [ ]
  told_err pointers room start (Err y) is (inl memory) = inl (is ∙ memory)
  told_err pointers room start (Err y) is (inr h) =
      let P : PartError → Type 0 = λ f. HasNoName message pointers room start f in
      told_fault pointers room start y (subst P (sym is) h)

  module _ {start end : ℕ} {here : List Label} {rest : List ℕ}
      (a : AreLabels message start here end rest) where
    -- the root
    pub name_ends : (pointers : ℕ) → IsRoot rest → IsName message pointers start here (end + 1)
    name_ends zero root = (here, end, rest, a, inl (root, refl, refl))
    name_ends (suc pointers) root = (here, end, rest, a, inl (root, refl, refl))

    -- a pointer to others
    pub name_goes_on : (pointers below : ℕ) → 1 ≤ pointers → below ≡ pointers - 1 → {to : ℕ}
        → IsPointer rest to → to < start → (more all : List Label) (behind : ℕ)
        → IsName message below to more behind → all ≡ here ++ more
        → IsName message pointers start all (end + 2)
    name_goes_on zero below some is p prior more all behind name out =
        absurd (omega (arith, some))
    name_goes_on (suc pointers) below some is {to} p prior more all behind name out =
        let P : ℕ → Type 0 = λ l. IsName message l to more behind in (
          here,
          end,
          rest,
          a,
          inr (to, p, prior, (more, (behind, subst P (omega (arith, is)) name), out, refl)),
        )

    -- labels take as many bytes as their octets
    pub octets_at : end ≡ start + octets here
    octets_at =
        let (front, size, e) = a.starts in
        let (front2, size2, f) = a.ends in
        omega (
          arith,
          size,
          size2,
          ap (λ l. length l) e,
          ap (λ l. length l) f,
          length-append front a.tokens,
          length-append front2 rest,
          octets_each here a.tokens rest (each_here a),
        )

    module _ {room : ℕ} (fits : octets here ≤ room) where
      -- no ending
      pub none_ends : (pointers : ℕ) (fault : PartError) → NoEnding rest end fault
          → HasNoName message pointers room start fault
      none_ends zero fault none = inr (inr (here, end, rest, a, fits, inl none))
      none_ends (suc pointers) fault none = inr (inr (here, end, rest, a, fits, inl none))

      -- a pointer to no earlier place
      pub none_prior : (pointers : ℕ) {to : ℕ} → IsPointer rest to → start ≤ to
          → HasNoName message pointers room start (NotPrior end)
      none_prior zero {to} p past =
          inr (inr (here, end, rest, a, fits, inr (to, p, inl (refl, past))))
      none_prior (suc pointers) {to} p past =
          inr (inr (here, end, rest, a, fits, inr (to, p, inl (refl, past))))

      -- one pointer more than are followed
      pub too_many : (pointers : ℕ) {to : ℕ} → IsPointer rest to → to < start → (1 ≤ pointers → ⊥)
          → HasNoName message pointers room start (TooMany end)
      too_many zero {to} p prior none =
          inr (inr (here, end, rest, a, fits, inr (to, p, inr (prior, refl))))
      too_many (suc pointers) {to} p prior none = absurd (none (omega arith))

      -- a pointer to where none is
      none_further : (pointers below left : ℕ) → 1 ≤ pointers → below ≡ pointers - 1
          → left ≡ room - octets here → {to : ℕ} → IsPointer rest to → to < start
          → (fault : PartError) → HasNoName message below left to fault
          → HasNoName message pointers room start fault
      none_further zero below left some is less p prior fault h = absurd (omega (arith, some))
      none_further (suc pointers) below left some is less {to} p prior fault h =
          let P : ℕ → Type 0 = λ l. HasNoName message l left to fault in
          let Q : ℕ → Type 0 = λ l. HasNoName message pointers l to fault in
          inr (inr (
            here,
            end,
            rest,
            a,
            fits,
            inr (
              to,
              p,
              inr (prior, subst Q less (subst P (omega (arith, is)) h)),
            ),
          ))

      -- what a call for the others tells
      pub err_further : (pointers below left : ℕ) → 1 ≤ pointers → below ≡ pointers - 1
          → left ≡ room - octets here → {to : ℕ} → IsPointer rest to → to < start
          → {fault : PartError} → (fault ≡ NoMemory) ⊎ (HasNoName message below left to fault
          × ((labels : List Label) (behind : ℕ) → IsName message below to labels behind
          → octets labels ≤ left → ⊥))
          → (fault ≡ NoMemory) ⊎ HasNoName message pointers room start fault
      err_further pointers below left some is less p prior (inl memory) = inl memory
      err_further pointers below left some is less p prior {fault} (inr (h, none)) =
          inr (none_further pointers below left some is less p prior fault h)
