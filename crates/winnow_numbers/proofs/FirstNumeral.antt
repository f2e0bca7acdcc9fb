-- From bytes to tokens: the numeral that the bytes left begin with.
use Rattle.std.proofs.Common.{◌≡◌, ◌∙◌, ◌<◌, ◌++◌, ◌∷◌, ℕ, List, [], true}
use Rattle.std.proofs.Common.{ap, ap₂, arith, inl, inr, length, refl, subst, sym}
use Rattle.std.proofs.lemmas.List.{length-append}
use Rattle.std.specs.List.{AllByRecursion}
use Rattle.stream_sets.specs.AsBStr.{FirstByte}
use Rattle.stream_sets.specs.AsChar.{IsDecDigit}
use Rattle.streams.specs.Equal.{same_first, same_others, same_rest}
use Rattle.streams.specs.Input.{Input, Passes}
use Rattle.streams.specs.Reading.{Reading}
use Rattle.streams.specs.Stream.{Cuts, IsBoundary}
use Rattle.parser_definitions.specs.Digits.{AreCharacters, NoneFirst, value_in}
use Rattle.winnow_numbers.specs.Lanes.{StartsWithNumeral}
use Rattle.parser_definitions.specs.Left.{left_of}
use Rattle.parser_definitions.specs.Numeral.{HasDigits}
use Rattle.parser_definitions.specs.Outcome.{setting_of}
use Rattle.stream_errors.specs.Form.{plain}
use Rattle.winnow_core.specs.Leaves.{passed_of}
use Rattle.winnow_numbers.specs.Numeral.{PassesDigits}

-- the digits of a numeral are digits
digits_are : (bytes digits rest : List ℕ) → StartsWithNumeral bytes digits rest
    → AllByRecursion IsDecDigit digits
digits_are bytes digits rest (e, inl zero) =
    subst (AllByRecursion IsDecDigit) (sym zero) ((omega arith, omega arith), tt)
digits_are bytes digits rest (e, inr (first, others, last, more, are, leads, all, behind, ends)) =
    subst (AllByRecursion IsDecDigit) (sym are) ((omega (arith, leads.0), leads.1), all)

module _ {K T S : Type 0} (seen : K → T) (code : K → ℕ) (reading : Reading T S)
    (bytes_of : List T → List ℕ)
    (bytes_add : (xs ys : List T) → bytes_of (xs ++ ys) ≡ bytes_of xs ++ bytes_of ys)
    (ascii_byte : (x : K) → code x < 128 → bytes_of (seen x ∷ []) ≡ code x ∷ [])
    (first_byte : (t : T) → FirstByte seen code bytes_of t)
    (units_bytes : (tokens : List T) → reading.units tokens ≡ length (bytes_of tokens)) where
  none : (bytes : List ℕ) → bytes ≡ bytes ++ bytes → bytes ≡ []
  none [] e = refl
  none (b ∷ bytes) e = absurd (omega (arith, ap length e, length-append (b ∷ bytes) (b ∷ bytes)))

  -- no tokens have no bytes
  no_bytes : bytes_of [] ≡ []
  no_bytes = none (bytes_of []) (bytes_add [] [])

  -- The tokens are characters of these numbers, which are their bytes, and others have the rest.
  record Spelled (tokens : List T) (codes rest : List ℕ) : Type 0 where
    front : List T
    behind : List T
    splits : tokens ≡ front ++ behind
    characters : AreCharacters seen code front codes
    own : bytes_of front ≡ codes
    others : bytes_of behind ≡ rest

  one_more : (t : T) (tokens : List T) (d : ℕ) (digits rest : List ℕ) (x : K) → seen x ≡ t
      → code x ≡ d → bytes_of (t ∷ []) ≡ d ∷ [] → Spelled tokens digits rest
      → Spelled (t ∷ tokens) (d ∷ digits) rest
  one_more t tokens d digits rest x same is byte more = record {
    front = t ∷ more.front;
    behind = more.behind;
    splits = ap (λ l. t ∷ l) more.splits;
    characters = ((x, same, is), more.characters);
    own = bytes_add (t ∷ []) more.front ∙ ap₂ (λ xs ys. xs ++ ys) byte more.own;
    others = more.others;
  }

  spelled : (digits rest : List ℕ) (tokens : List T) → AllByRecursion IsDecDigit digits
      → bytes_of tokens ≡ digits ++ rest → Spelled tokens digits rest
  spelled [] rest tokens all e = record {
    front = [];
    behind = tokens;
    splits = refl;
    characters = tt;
    own = no_bytes;
    others = e;
  }
  spelled (d ∷ digits) rest [] all e = absurd (let f = sym no_bytes ∙ e in cc)
  spelled (d ∷ digits) rest (t ∷ tokens) all e =
      let f = first_byte t in
      let whole : (f.first ∷ f.others) ++ bytes_of tokens ≡ d ∷ (digits ++ rest) =
      sym (bytes_add (t ∷ []) tokens ∙ ap (λ l. l ++ bytes_of tokens) f.bytes) ∙ e in
      let first : f.first ≡ d = same_first whole in
      let is : code f.token ≡ d = f.ascii (omega (arith, first, all.0.1)) ∙ first in
      let byte : bytes_of (t ∷ []) ≡ d ∷ [] =
      ap (λ u. bytes_of (u ∷ [])) (sym f.same)
      ∙ ascii_byte f.token (omega (arith, is, all.0.1)) ∙ ap (λ c. c ∷ []) is in
      let no_others : f.others ≡ [] = same_others (sym f.bytes ∙ byte) in
      one_more t tokens d digits rest f.token f.same is byte (spelled digits rest tokens all.1
      (ap (λ l. l ++ bytes_of tokens) (sym no_others) ∙ same_others whole))

  stops : (behind : List T) (last : ℕ) (more : List ℕ) → bytes_of behind ≡ last ∷ more
      → (IsDecDigit last → ⊥) → NoneFirst seen code IsDecDigit behind × (behind ≡ [] → ⊥)
  stops [] last more e ends = absurd (let f = sym no_bytes ∙ e in cc)
  stops (t ∷ behind) last more e ends =
      let f = first_byte t in
      let whole = sym (bytes_add (t ∷ []) behind ∙ ap (λ l. l ++ bytes_of behind) f.bytes) ∙ e in
      let first : f.first ≡ last = same_first whole in
      let byte : IsDecDigit (code f.token) → code f.token ≡ f.first =
      λ is. same_first (sym (ascii_byte f.token (omega (arith, is.1)))
      ∙ ap (λ u. bytes_of (u ∷ [])) f.same ∙ f.bytes) in (
        inr (
          t,
          behind,
          refl,
          (
            f.token,
            f.same,
            λ is. ends (subst IsDecDigit (byte is ∙ first) is),
          ),
        ),
        λ e. cc,
      )

  numeral_spelled : (tokens : List T) (digits rest : List ℕ)
      → StartsWithNumeral (bytes_of tokens) digits rest → Spelled tokens digits rest
  numeral_spelled tokens digits rest begins =
      spelled digits rest tokens (digits_are (bytes_of tokens) digits rest begins) begins.0

  -- a lone '0' is one token
  lone : (front : List T) → AreCharacters seen code front (48 ∷ [])
      → (x : K) × (code x ≡ 48) × (front ≡ seen x ∷ [])
  lone [] characters = absurd characters
  lone (t ∷ []) ((x, is, e), characters) = (x, e, ap (λ u. u ∷ []) (sym is))
  lone (t ∷ u ∷ front) (one, characters) = absurd characters

  same_units : (tokens : List T) (digits rest : List ℕ) (s : Spelled tokens digits rest)
      (count : ℕ) → count ≡ length digits → count ≡ reading.units s.front
  same_units tokens digits rest s count e =
      e ∙ ap length (sym s.own) ∙ sym (units_bytes s.front)

  -- what is found at the beginning of the bytes of the tokens left
  abbrev pub FoundIn : Input T → ℕ → ℕ → Type 0
  FoundIn i count number =
      (digits rest : List ℕ) × StartsWithNumeral (bytes_of i.left.tokens) digits rest
      × (count ≡ length digits) × (number ≡ value_in 10 digits)

  -- the tokens can be cut after it
  pub bounded : (i a : Input T) (count number : ℕ) → a ≡ i → FoundIn i count number
      → IsBoundary reading.units a.left.tokens count
  bounded i a count number same (digits, rest, begins, long, is) =
      let P : Input T → Type 0 = λ x. IsBoundary reading.units x.left.tokens count in
      let s = numeral_spelled i.left.tokens digits rest begins in
      subst P (sym same) (
        s.front,
        s.behind,
        s.splits,
        same_units i.left.tokens digits rest s
            count long,
      )

  -- what is cut there is passed
  passed : (i a j : Input T) (slice : S) (count : ℕ) (digits rest : List ℕ) → a ≡ i
      → (s : Spelled i.left.tokens digits rest) → count ≡ length digits
      → Cuts reading count a slice j → Passes reading s.front i j
  passed i a j slice count digits rest same s long cuts =
      let P : Input T → Type 0 = λ x. Cuts reading count x slice j in
      (subst P same cuts s.front s.behind s.splits
      (same_units i.left.tokens digits rest s count long)).passed

  pub numeral_status : (i a j : Input T) (slice : S) (count number : ℕ) → a ≡ i
      → FoundIn i count number → Cuts reading count a slice j → j.status ≡ i.status
  numeral_status i a j slice count number same (digits, rest, begins, long, is) cuts =
      let s = numeral_spelled i.left.tokens digits rest begins in
      (passed i a j slice count digits rest same s long cuts).status

  ran : (i j : Input T) (bytes digits rest : List ℕ) → StartsWithNumeral bytes digits rest
      → (s : Spelled i.left.tokens digits rest) → Passes reading s.front i j
      → HasDigits seen code reading true (setting_of plain i) (left_of i) digits (left_of j)
  ran i j bytes digits rest (e, inl zero) s passes =
      let P : List ℕ → Type 0 = λ l. AreCharacters seen code s.front l in
      let one = lone s.front (subst P zero s.characters) in
      let Q : List T → Type 0 = λ l. Passes reading l i j in
      inl (one.0, refl, one.1, passed_of (subst Q one.2 passes), zero)
  ran i j bytes digits rest
      (e, inr (first, others, last, more, are, leads, all, behind, ends)) s passes =
      let left : s.behind ≡ j.left.tokens =
      same_rest s.front s.behind j.left.tokens (sym s.splits ∙ passes.tokens) in
      let stop = stops j.left.tokens last more (ap bytes_of (sym left) ∙ s.others ∙ behind)
      ends in
      inr (
        s.front,
        first,
        others,
        are,
        leads,
        all,
        passed_of passes,
        s.characters,
        stop.0,
        λ none. absurd (stop.1 none),
      )

  -- and is the digits of the numeral
  pub numeral_ran : (i a j : Input T) (slice : S) (count number : ℕ) → a ≡ i
      → FoundIn i count number → Cuts reading count a slice j
      → PassesDigits seen code reading i j number
  numeral_ran i a j slice count number same (digits, rest, begins, long, is) cuts =
      let s = numeral_spelled i.left.tokens digits rest begins in (
        digits,
        ran i j (bytes_of i.left.tokens) digits rest begins s
            (passed i a j slice count digits rest same s long cuts),
        is,
      )
