-- Decimal numbers: what the slice of a numeral is read as.
use Rattle.std.proofs.Common.{◌≡◌, ◌⊎◌, inl, inr, ◌<◌, ◌++◌, ℕ, Bool, true, false, List, [], ◌∷◌}
use Rattle.std.proofs.Common.{length, Some, None, Ok, Err, refl, sym, ap, subst, ◌∙◌, arith}
use Rattle.std.proofs.Common.{length-append}
use Rattle.std.proofs.lemmas.Str.{IsUtf8-from_ascii}
use Rattle.std.proofs.lemmas.Str.Ascii.{IsAscii-cons, IsAscii-nil}
use Rattle.std.specs.List.{AllByRecursion}
use Rattle.std.specs.Prelude.{ℤ, pos, neg_ℤ, if◌then◌else◌, ◌==◌, IfSome, Option}
use Rattle.std.specs.Str.{IsAscii, IsUtf8}
use Rattle.streams.specs.Input.{Input, IsEndOf}
use Rattle.streams.specs.Kind.{Kind, backtrack}
use Rattle.streams.specs.Reading.{Reading}
use Rattle.stream_errors.specs.Form.{Answer, ErrorForm, plain}
use Rattle.stream_sets.specs.AsChar.{IsDecDigit}
use Rattle.parser_definitions.specs.Digits.{AreCharacters, value_in}
use Rattle.parser_definitions.specs.Does.{Ran}
use Rattle.parser_definitions.specs.Inversion.Outcomes.{fails_at, fails_by, lacks_at, lacks_none}
use Rattle.parser_definitions.specs.Inversion.Outcomes.{same_took}
use Rattle.parser_definitions.specs.Left.{Left, left_of}
use Rattle.parser_definitions.specs.Number.{DecIntDoes, DecUintDoes, NumberDoes, Numbers}
use Rattle.parser_definitions.specs.Number.{signed_numbers, unsigned_numbers}
use Rattle.parser_definitions.specs.Numeral.{HasSign, IsSign}
use Rattle.parser_definitions.specs.Outcome.{backs, outcome_of, setting_of}
use Rattle.winnow_core.specs.Results.{gave}
use Rattle.winnow_core.specs.Leaves.{short}
use Rattle.winnow_numbers.specs.DecimalText.{IsSignedText, IsUnsignedText, ReadsSigned}
use Rattle.winnow_numbers.specs.DecimalText.{ReadsUnsigned}
use Rattle.winnow_numbers.specs.Numeral.{IsNumeral, NumeralDoes, PassesDigits, PassesSigned}
use Rattle.winnow_numbers.specs.Numeral.{SignedBy, sign_of}
use Rattle.winnow_numbers.proofs.FrontLemmas.{digits_are, digits_at, unsigned}
use Rattle.winnow_numbers.proofs.LeftLemmas.{fails_back}

-- a list that is itself twice has nothing
no_more : {A : Type 0} (xs : List A) → xs ≡ xs ++ xs → xs ≡ []
no_more [] e = refl
no_more (x ∷ xs) e = absurd (omega (arith, ap (λ l. length l) e, length-append (x ∷ xs) (x ∷ xs)))

below : (digits : List ℕ) → AllByRecursion IsDecDigit digits
    → AllByRecursion (λ c. c < 128) digits
below [] all = tt
below (d ∷ ds) all = (omega (arith, all.0), below ds all.1)

both_below : (xs ys : List ℕ) → AllByRecursion (λ c. c < 128) xs
    → AllByRecursion (λ c. c < 128) ys → AllByRecursion (λ c. c < 128) (xs ++ ys)
both_below [] ys p q = q
both_below (x ∷ xs) ys p q = (p.0, both_below xs ys p.1 q)

ascii : (codes : List ℕ) → AllByRecursion (λ c. c < 128) codes → IsAscii codes
ascii [] all = IsAscii-nil
ascii (c ∷ cs) all = IsAscii-cons c cs all.0 (ascii cs all.1)

-- a sign, or none
abbrev pub IsSigns : List ℕ → Type 0
IsSigns sign = (sign ≡ []) ⊎ ((c : ℕ) × IsSign c × (sign ≡ c ∷ []))

sign_low : (c : ℕ) → IsSign c → c < 128
sign_low c (inl e) = omega (arith, e)
sign_low c (inr e) = omega (arith, e)

signs_below : (sign : List ℕ) → IsSigns sign → AllByRecursion (λ c. c < 128) sign
signs_below sign (inl e) =
    let P : List ℕ → Type 0 = λ l. AllByRecursion (λ c. c < 128) l in subst P (sym e) tt
signs_below sign (inr (c, is, e)) =
    let P : List ℕ → Type 0 = λ l. AllByRecursion (λ c. c < 128) l in
    subst P (sym e) (sign_low c is, tt)

module _ {K T S : Type 0} (seen : K → T) (code : K → ℕ) (reading : Reading T S) where
  sign_is : (signed : Bool) (w : Left T) (sign : List ℕ) (rest : Left T)
      → HasSign seen code reading signed w sign rest → IsSigns sign
  sign_is signed w sign rest (inl (x, may, is, passed, e)) = inr (code x, is, e)
  sign_is signed w sign rest (inr (none, e, same)) = inl e

  -- a numeral that is taken
  abbrev pub Takes : Bool → ErrorForm → Input T → S → Input T → Type 0
  Takes signed form i slice j =
      IsNumeral seen code reading signed (tt {0}) slice (setting_of form i) (left_of i) (left_of j)

  abbrev pub NumeralRan : Bool → ErrorForm → Input T → Answer S → Input T → Type 0
  NumeralRan signed form i answer j =
      Ran reading (NumeralDoes seen code reading signed) form (tt {0}) i answer (tt {0}) j

  pub numeral_of : (signed : Bool) (form : ErrorForm) (i : Input T) (slice : S) (j : Input T)
      → NumeralRan signed form i (Ok slice) j → Takes signed form i slice j
  numeral_of signed form i slice j (end, cut, possible, inl (taken, rest, is, e)) =
      let told = same_took e in
      let P : S → Left T → Type 0 = λ l w.
      IsNumeral seen code reading signed (tt {0}) l (setting_of form i) (left_of i) w in
      subst (λ l. P l (left_of j)) (sym told.0)
      (subst (λ w. P taken w) (sym (ap (λ l. l.1) told.1)) is)
  numeral_of signed form i slice j (end, cut, possible, inr (inl (place, a, e))) =
      lacks_none form i.status.cut _ _ _ _ e
  numeral_of signed form i slice j (end, cut, possible, inr (inr (a, e))) = absurd (cc)

  -- the input does not start with a numeral
  pub no_numeral : {N V : Type 0} (g : Numbers N V) (form : ErrorForm) (i : Input T) (k : Kind)
      (j : Input T) → NumeralRan g.signed form i (Err k) j
      → Ran reading (NumberDoes g seen code reading) form (tt {0}) i (Err k) (tt {0}) j
  no_numeral g form i k j (end, cut, possible, inl (taken, rest, is, e)) =
      absurd (fails_by e (fails_at {O = S} k (tt {0}, left_of j))).is
  no_numeral g form i k j (end, cut, possible, inr (inl (place, a, e))) =
      let told = lacks_at form i.status.cut (Some 1) (tt {0}, place)
      (fails_by e (fails_at {O = S} k (tt {0}, left_of j))) in (
        end,
        cut,
        possible,
        inr (inr (inl (
          place,
          a,
          ap (λ l. outcome_of (Err k) (tt {0}, l)) (sym told.1)
              ∙ short form (Some 1) i k (tt {0}, place) told.0,
        ))),
      )
  no_numeral {N} g form i k j (end, cut, possible, inr (inr (a, e))) =
      let told = (fails_by e (fails_at {O = S} k (tt {0}, left_of j))).is in (
        end,
        cut,
        possible,
        inr (inr (inr (
          a,
          gave {O = N} (tt {0}, left_of j) (ap Err told.0)
              ∙ ap (λ l. backs (tt {0}, l)) (sym told.1),
        ))),
      )

  module _ (bytes_of : List T → List ℕ)
      (add : (xs ys : List T) → bytes_of (xs ++ ys) ≡ bytes_of xs ++ bytes_of ys)
      (one : (x : K) → code x < 128 → bytes_of (seen x ∷ []) ≡ code x ∷ []) where
    -- ASCII characters have the bytes of their numbers
    pub spelled : (front : List T) (codes : List ℕ) → AreCharacters seen code front codes
        → AllByRecursion (λ c. c < 128) codes → bytes_of front ≡ codes
    spelled [] [] chars all = no_more (bytes_of []) (add [] [])
    spelled [] (c ∷ cs) chars all = absurd chars
    spelled (t ∷ ts) [] chars all = absurd chars
    spelled (t ∷ ts) (c ∷ cs) chars all =
        let head = chars.0 in
        let low : code head.0 < 128 = omega (arith, head.2, all.0) in
        let first : bytes_of (t ∷ []) ≡ c ∷ [] =
        ap (λ y. bytes_of (y ∷ [])) (sym head.1) ∙ one head.0 low
        ∙ ap (λ y. y ∷ []) head.2 in
        add (t ∷ []) ts ∙ ap (λ l. l ++ bytes_of ts) first
        ∙ ap (λ l. c ∷ l) (spelled ts cs chars.1 all.1)

    module _ (form : ErrorForm) (i j : Input T) (slice : S) (bytes : List ℕ)
        (has : (front : List T) → reading.shows slice front → bytes ≡ bytes_of front) where
      -- the bytes of a numeral's slice are its characters
      numeral_bytes : (signed : Bool) (taken : Takes signed form i slice j)
          → (bytes ≡ taken.1 ++ taken.2) × AllByRecursion (λ c. c < 128) (taken.1 ++ taken.2)
      numeral_bytes signed (front, sign, digits, (mid, first, r), shown, passed, chars) =
          let all = both_below sign digits
          (signs_below sign (sign_is signed (left_of i) sign mid first))
          (below digits
          (digits_are seen code reading _ (setting_of form i) mid digits (left_of j) r).0.1) in
          (has front shown ∙ spelled front (sign ++ digits) chars all, all)

      pub numeral_utf8 : (signed : Bool) → NumeralRan signed form i (Ok slice) j → IsUtf8 bytes
      numeral_utf8 signed ran =
          let are = numeral_bytes signed (numeral_of signed form i slice j ran) in
          let P : List ℕ → Type 0 = λ l. IsUtf8 l in
          subst P (sym are.0) (IsUtf8-from_ascii _ (ascii _ are.1))

      -- the text of a numeral
      signed_numeral : (taken : Takes true form i slice j) → IsSignedText bytes taken.1 taken.2
      signed_numeral (front, sign, digits, (mid, first, r), shown, passed, chars) = (
        (digits_are seen code reading _ (setting_of form i) mid digits (left_of j) r).0,
        (numeral_bytes true (front, sign, digits, (mid, first, r), shown, passed, chars)).0,
        sign_is true (left_of i) sign mid first,
      )

      unsigned_numeral : (taken : Takes false form i slice j) → IsUnsignedText bytes taken.2
      unsigned_numeral (front, sign, digits, (mid, first, r), shown, passed, chars) = (
        (digits_are seen code reading _ (setting_of form i) mid digits (left_of j) r).0,
        inl ((numeral_bytes false (front, sign, digits, (mid, first, r), shown, passed, chars)).0
            ∙ ap (λ l. l ++ digits) (unsigned seen code reading (left_of i) sign mid first).0),
      )

      -- its number fits,
      number_read : {N V : Type 0} (g : Numbers N V) (n : N)
          → NumeralRan g.signed form i (Ok slice) j
          → (taken : Takes g.signed form i slice j) → g.fits (g.value taken.1 taken.2)
          → g.number n ≡ g.value taken.1 taken.2
          → Ran reading (NumberDoes g seen code reading) form (tt {0}) i (Ok n) (tt {0}) j
      number_read g n (end, cut, possible, did) taken fits is = (
        end,
        cut,
        possible,
        inl (n, left_of j, (taken.1, taken.2, taken.3, fits, is), refl),
      )

      pub int_read : {N : Type 0} (number : N → ℤ) (fits : ℤ → Type 0) (n : N)
          → NumeralRan true form i (Ok slice) j → ReadsSigned number fits bytes (Some n)
          → Ran reading (DecIntDoes number fits seen code reading) form (tt {0}) i (Ok n) (tt {0}) j
      int_read number fits n ran read =
          let taken = numeral_of true form i slice j ran in
          let told = read.reads taken.1 taken.2 (signed_numeral taken) in
          number_read (signed_numbers number fits) n ran taken told.0 told.1

      pub uint_read : {N : Type 0} (number : N → ℕ) (bound : ℕ) (n : N)
          → NumeralRan false form i (Ok slice) j → ReadsUnsigned number bound bytes (Some n)
          → Ran reading (DecUintDoes number bound seen code reading) form (tt {0}) i (Ok n)
          (tt {0}) j
      uint_read number bound n ran read =
          let taken = numeral_of false form i slice j ran in
          let told = read.reads taken.2 (unsigned_numeral taken) in
          number_read (unsigned_numbers number bound) n ran taken told.0 told.1

      -- or does not
      number_refused : {N V : Type 0} (g : Numbers N V) (k : Kind) (m : Input T) → k ≡ backtrack
          → m ≡ i → (taken : Takes g.signed form i slice j) → g.misfits (g.value taken.1 taken.2)
          → Ran reading (NumberDoes g seen code reading) form (tt {0}) i (Err k) (tt {0}) m
      number_refused g k m kind same taken misfits =
          fails_back reading (NumberDoes g seen code reading) form (tt {0}) i m k kind same
          (inr (inl ((taken.1, taken.2, left_of j, taken.3, misfits), refl)))

      pub int_refused : {N : Type 0} (number : N → ℤ) (fits : ℤ → Type 0) (k : Kind) (m : Input T)
          → k ≡ backtrack → m ≡ i → NumeralRan true form i (Ok slice) j
          → ReadsSigned number fits bytes None
          → Ran reading (DecIntDoes number fits seen code reading) form (tt {0}) i (Err k)
          (tt {0}) m
      int_refused number fits k m kind same ran read =
          let taken = numeral_of true form i slice j ran in
          number_refused (signed_numbers number fits) k m kind same taken
          (read.reads taken.1 taken.2 (signed_numeral taken))

      pub uint_refused : {N : Type 0} (number : N → ℕ) (bound : ℕ) (k : Kind) (m : Input T)
          → k ≡ backtrack → m ≡ i → NumeralRan false form i (Ok slice) j
          → ReadsUnsigned number bound bytes None
          → Ran reading (DecUintDoes number bound seen code reading) form (tt {0}) i (Err k)
          (tt {0}) m
      uint_refused number bound k m kind same ran read =
          let taken = numeral_of false form i slice j ran in
          number_refused (unsigned_numbers number bound) k m kind same taken
          (read.reads taken.2 (unsigned_numeral taken))

  -- a numeral was passed whose number is m, and fits
  pub uint_passed : {N : Type 0} (number : N → ℕ) (bound : ℕ) (form : ErrorForm) (i j : Input T)
      (m : ℕ) (n : N) → IsEndOf reading j i → PassesDigits seen code reading i j m
      → (m < bound) × (number n ≡ m)
      → Ran reading (DecUintDoes number bound seen code reading) form (tt {0}) i (Ok n) (tt {0}) j
  uint_passed number bound form i j m n end (digits, run, same) (fits, is) =
      let none = inr (λ e. absurd cc, refl, refl) in (
        end,
        end.cut,
        end.ends.possible,
        inl (
          n,
          left_of j,
          ([], digits, (left_of i, none, run), subst (λ v. v < bound) same fits, is ∙ same),
          refl,
        ),
      )

  -- a numeral was passed after its sign
  pub signed_run : (i a j : Input T) (sign : Option ℕ) (m : ℕ) (z : ℤ) → a.status ≡ i.status
      → HasSign seen code reading true (left_of i) (sign_of sign) (left_of a)
      → PassesDigits seen code reading a j m → SignedBy sign m z
      → PassesSigned seen code reading i j z
  signed_run i a j None m z status first (digits, run, same) is = (
    [],
    digits,
    (
      left_of a,
      first,
      digits_at seen code reading true (setting_of plain a) (setting_of plain i) (left_of a)
          digits (left_of j) (ap (λ x. x.cut) status) run,
    ),
    is ∙ ap (λ v. pos v) same,
  )
  signed_run i a j (Some c) m z status first (digits, inl (x, may, zero, passes, e), same) is =
      let nothing : m ≡ 0 = same ∙ ap (λ l. value_in 10 l) e in
      absurd (omega (arith, is.0, nothing))
  signed_run i a j (Some c) m z status first (digits, inr run, same) is = (
    c ∷ [],
    digits,
    (
      left_of a,
      first,
      digits_at seen code reading false (setting_of plain a) (setting_of plain i) (left_of a)
          digits (left_of j) (ap (λ x. x.cut) status) (inr run),
    ),
    is.1 ∙ ap (λ v. if c == 45 then neg_ℤ (pos v) else pos v) same,
  )

  pub signed_some : (i a j : Input T) (sign : Option ℕ) (m : ℕ) (answer : Option ℤ)
      → a.status ≡ i.status
      → HasSign seen code reading true (left_of i) (sign_of sign) (left_of a)
      → PassesDigits seen code reading a j m → IfSome answer (λ z. SignedBy sign m z)
      → IfSome answer (PassesSigned seen code reading i j)
  signed_some i a j sign m None status first run is = tt
  signed_some i a j sign m (Some z) status first run is =
      signed_run i a j sign m z status first run is

  -- a numeral was passed whose number is z, and fits
  pub int_passed : {N : Type 0} (number : N → ℤ) (fits : ℤ → Type 0) (form : ErrorForm)
      (i j : Input T) (z given : ℤ) (n : N) → IsEndOf reading j i
      → PassesSigned seen code reading i j z → given ≡ z → fits given × (number n ≡ given)
      → Ran reading (DecIntDoes number fits seen code reading) form (tt {0}) i (Ok n) (tt {0}) j
  int_passed number fits form i j z given n end (sign, digits, run, same) at (fit, is) = (
    end,
    end.cut,
    end.ends.possible,
    inl (
      n,
      left_of j,
      (sign, digits, run, subst fits (at ∙ same) fit, is ∙ at ∙ same),
      refl,
    ),
  )

  -- a call from the same place
  pub again : {N V : Type 0} (g : Numbers N V) (form : ErrorForm) (i a j : Input T)
      (answer : Answer N) → a ≡ i
      → Ran reading (NumberDoes g seen code reading) form (tt {0}) a answer (tt {0}) j
      → Ran reading (NumberDoes g seen code reading) form (tt {0}) i answer (tt {0}) j
  again g form i a j answer same ran =
      let P : Input T → Type 0 = λ x.
      Ran reading (NumberDoes g seen code reading) form (tt {0}) x answer (tt {0}) j in
      subst P same ran
