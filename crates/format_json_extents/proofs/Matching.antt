-- Lemmas about texts at the start of bytes.
use Rattle.std.proofs.Common.{◌++◌, ◌<◌, ◌∙◌, ◌∷◌, ◌≡◌, ◌≤◌, ◌⊎◌, [], ℕ, List, ap}
use Rattle.std.proofs.Common.{append_assoc, arith, inl, inr, length, length-append, refl, subst}
use Rattle.std.proofs.Common.{sym}
use Rattle.std.specs.List.{All}
use Rattle.std.proofs.lemmas.List.Elements.{All-head, All-push, All-tail}
use Rattle.format_json_extents.specs.Texts.{Either, EitherByte, IsByte, IsLongerRest}
use Rattle.format_json_extents.specs.Texts.{MatchesAtStart, Maybe, NoByte, NoMatchAtStart}
use Rattle.format_json_extents.specs.Texts.{RestAfter, Then}

-- No byte is in both.
abbrev pub AreDisjoint : (S T : ℕ → Type 0) → Type 0
AreDisjoint S T = (b : ℕ) → S b → T b → ⊥

-- `NeverStartsWith Q S`: no text in `Q` starts with a byte of `S`.
abbrev pub NeverStartsWith : (Q : List ℕ → Type 0) (S : ℕ → Type 0) → Type 0
NeverStartsWith Q S = (bytes rest : List ℕ) (b : ℕ) (more : List ℕ) → bytes ≡ b ∷ more → S b
    → MatchesAtStart Q bytes rest → ⊥

-- `ContinuedOnlyBy Q S`: at a byte of `S`, the empty text is the only prefix in `Q`.
abbrev pub ContinuedOnlyBy : (Q : List ℕ → Type 0) (S : ℕ → Type 0) → Type 0
ContinuedOnlyBy Q S = (bytes rest : List ℕ) (b : ℕ) (more : List ℕ) → bytes ≡ b ∷ more → S b
    → MatchesAtStart Q bytes rest → rest ≡ bytes

-- `FirstByteIs F text`: the first byte of `text` is in `F`.
pub record FirstByteIs (F : ℕ → Type 0) (text : List ℕ) : Type 0 where
  pub byte : ℕ
  pub more : List ℕ
  pub begins : text ≡ byte ∷ more
  pub is : F byte

-- `AllStartWith P F`: each text in `P` starts with a byte of `F`.
abbrev pub AllStartWith : (P : List ℕ → Type 0) (F : ℕ → Type 0) → Type 0
AllStartWith P F = (text : List ℕ) → P text → FirstByteIs F text

pub heads_equal : {x y : ℕ} {xs ys : List ℕ} → x ∷ xs ≡ y ∷ ys → x ≡ y
heads_equal e = cc

pub tails_equal : {x y : ℕ} {xs ys : List ℕ} → x ∷ xs ≡ y ∷ ys → xs ≡ ys
tails_equal e = cc

pub shorter : {P : List ℕ → Type 0} {bytes rest : List ℕ} → MatchesAtStart P bytes rest
    → length rest ≤ length bytes
shorter {rest = rest} it =
    omega (arith, ap (λ l. length l) it.splits, length-append it.text rest)

-- ---- one byte

pub one_byte_text : {P : ℕ → Type 0} {b : ℕ} {text : List ℕ} → P b → text ≡ b ∷ [] → IsByte P text
one_byte_text {b = b} p e = record { byte = b; is_byte = p; alone = e }

pub byte_matches : {P : ℕ → Type 0} {bytes : List ℕ} {b : ℕ} {rest : List ℕ} → bytes ≡ b ∷ rest
    → P b → MatchesAtStart (IsByte P) bytes rest
byte_matches {b = b} e p = record { text = b ∷ []; is = one_byte_text p refl; splits = e }

pub byte_first : {P : ℕ → Type 0} {bytes rest : List ℕ}
    → (it : MatchesAtStart (IsByte P) bytes rest) → bytes ≡ it.is.byte ∷ rest
byte_first {rest = rest} it = it.splits ∙ ap (λ l. l ++ rest) it.is.alone

pub this_first : (c : ℕ) {bytes rest : List ℕ} → MatchesAtStart (IsByte (λ b. b ≡ c)) bytes rest
    → bytes ≡ c ∷ rest
this_first c {rest = rest} it = byte_first it ∙ ap (λ b. b ∷ rest) it.is.is_byte

pub rest_after_byte : {P : ℕ → Type 0} {bytes : List ℕ} {b : ℕ} {rest : List ℕ} → bytes ≡ b ∷ rest
    → P b → RestAfter (IsByte P) NoByte bytes rest
rest_after_byte e p = record {
  stands = byte_matches e p;
  only = λ other it. inl (tails_equal (sym (byte_first it) ∙ e));
}

pub no_byte_match : {P : ℕ → Type 0} {bytes : List ℕ} {b : ℕ} {more : List ℕ} → bytes ≡ b ∷ more
    → (P b → ⊥) → NoMatchAtStart (IsByte P) bytes
no_byte_match {P} e not rest it =
    not (subst P (heads_equal (sym (byte_first it) ∙ e)) it.is.is_byte)

pub no_given_byte : (c : ℕ) {bytes : List ℕ} → ((more : List ℕ) → bytes ≡ c ∷ more → ⊥)
    → NoMatchAtStart (IsByte (λ b. b ≡ c)) bytes
no_given_byte c not rest it = not rest (this_first c it)

-- ---- the first bytes of texts

pub begins_to : {F G : ℕ → Type 0} {text : List ℕ} → ((b : ℕ) → F b → G b) → FirstByteIs F text
    → FirstByteIs G text
begins_to to it =
    record { byte = it.byte; more = it.more; begins = it.begins; is = to it.byte it.is }

begins_more : {F : ℕ → Type 0} {front text : List ℕ} (more : List ℕ) → text ≡ front ++ more
    → FirstByteIs F front → FirstByteIs F text
begins_more more e it = record {
  byte = it.byte;
  more = it.more ++ more;
  begins = e ∙ ap (λ l. l ++ more) it.begins;
  is = it.is;
}

pub first_byte_of_match : {P : List ℕ → Type 0} {F : ℕ → Type 0} {bytes rest : List ℕ}
    → AllStartWith P F
    → MatchesAtStart P bytes rest → FirstByteIs F bytes
first_byte_of_match {rest = rest} starts it = begins_more rest it.splits (starts it.text it.is)

pub disjoint_never_starts : {P : List ℕ → Type 0} {F S : ℕ → Type 0} → AllStartWith P F
    → AreDisjoint S F → NeverStartsWith P S
disjoint_never_starts {F = F} starts apart bytes rest b more e s it =
    let c = first_byte_of_match starts it
    in apart b s (subst F (heads_equal (sym c.begins ∙ e)) c.is)

pub starts_none : {P Q : List ℕ → Type 0} {F : ℕ → Type 0} {bytes rest : List ℕ} → AllStartWith P F
    → NeverStartsWith Q F → MatchesAtStart P bytes rest → NoMatchAtStart Q bytes
starts_none {bytes = bytes} starts bars it other second =
    let b = first_byte_of_match starts it in bars bytes other b.byte b.more b.begins b.is second

pub no_match_by_first_byte : {P : List ℕ → Type 0} {F : ℕ → Type 0} {bytes : List ℕ} {b : ℕ}
    {more : List ℕ}
    → AllStartWith P F → bytes ≡ b ∷ more → (F b → ⊥) → NoMatchAtStart P bytes
no_match_by_first_byte {F = F} starts e not rest it =
    let c = first_byte_of_match starts it in not (subst F (heads_equal (sym c.begins ∙ e)) c.is)

pub none_empty : {P : List ℕ → Type 0} {F : ℕ → Type 0} {bytes : List ℕ} → AllStartWith P F
    → length bytes ≡ 0 → NoMatchAtStart P bytes
none_empty starts empty rest it =
    omega (arith, empty, ap (λ l. length l) (first_byte_of_match starts it).begins)

pub start_less : {P : List ℕ → Type 0} {F : ℕ → Type 0} {bytes rest : List ℕ} → AllStartWith P F
    → MatchesAtStart P bytes rest → length rest < length bytes
start_less {rest = rest} starts it =
    omega (
      arith,
      ap (λ l. length l) (starts it.text it.is).begins,
      ap (λ l. length l) it.splits,
      length-append it.text rest,
    )

pub byte_starts : {P : ℕ → Type 0} → AllStartWith (IsByte P) P
byte_starts text it = record { byte = it.byte; more = []; begins = it.alone; is = it.is_byte }

pub then_starts : {P Q : List ℕ → Type 0} {F : ℕ → Type 0} → AllStartWith P F
    → AllStartWith (Then P Q) F
then_starts starts text it = begins_more it.second it.joins (starts it.first it.is_first)

pub either_starts : {P Q : List ℕ → Type 0} {F G : ℕ → Type 0} → AllStartWith P F → AllStartWith Q G
    → AllStartWith (Either P Q) (EitherByte F G)
either_starts first second text (inl is) = begins_to (λ b f. inl f) (first text is)
either_starts first second text (inr is) = begins_to (λ b g. inr g) (second text is)

pub maybe_starts : {P Q : List ℕ → Type 0} {F G : ℕ → Type 0} → AllStartWith P F → AllStartWith Q G
    → AllStartWith (Then (Maybe P) Q) (EitherByte F G)
maybe_starts first second text it = elim it.is_first [
  | inl e ↦
      let c = second it.second it.is_second in
      record {
        byte = c.byte;
        more = c.more;
        begins = it.joins ∙ ap (λ l. l ++ it.second) e ∙ c.begins;
        is = inr c.is;
      }
  | inr is ↦ begins_to (λ b f. inl f) (begins_more it.second it.joins (first it.first is))
]

-- ---- one text and then another

pub then_of_parts : {P Q : List ℕ → Type 0} (xs ys : List ℕ) {text : List ℕ} → P xs → Q ys
    → text ≡ xs ++ ys → Then P Q text
then_of_parts xs ys p q e =
    record { first = xs; second = ys; is_first = p; is_second = q; joins = e }

pub byte_then_is_cons : {P : ℕ → Type 0} {Q : List ℕ → Type 0} {text : List ℕ}
    → (it : Then (IsByte P) Q text) → text ≡ it.is_first.byte ∷ it.second
byte_then_is_cons it = it.joins ∙ ap (λ l. l ++ it.second) it.is_first.alone

pub given_byte_then_is_cons : (c : ℕ) {Q : List ℕ → Type 0} {text : List ℕ}
    → (it : Then (IsByte (λ b. b ≡ c)) Q text) → text ≡ c ∷ it.second
given_byte_then_is_cons c it = byte_then_is_cons it ∙ ap (λ b. b ∷ it.second) it.is_first.is_byte

pub then_matches : {P Q : List ℕ → Type 0} {bytes mid rest : List ℕ} → MatchesAtStart P bytes mid
    → MatchesAtStart Q mid rest → MatchesAtStart (Then P Q) bytes rest
then_matches {rest = rest} p q = record {
  text = p.text ++ q.text;
  is = then_of_parts p.text q.text p.is q.is refl;
  splits = p.splits ∙ ap (λ l. p.text ++ l) q.splits ∙ sym (append_assoc p.text q.text rest);
}

-- where the second begins
pub then_split : {P Q : List ℕ → Type 0} {bytes rest : List ℕ}
    → MatchesAtStart (Then P Q) bytes rest
    → (mid : List ℕ) × MatchesAtStart P bytes mid × MatchesAtStart Q mid rest
then_split {rest = rest} it = (
  it.is.second ++ rest,
  record {
    text = it.is.first;
    is = it.is.is_first;
    splits = it.splits ∙ ap (λ l. l ++ rest) it.is.joins
        ∙ append_assoc it.is.first it.is.second rest;
  },
  record { text = it.is.second; is = it.is.is_second; splits = refl },
)

grown : {S T : ℕ → Type 0} {other rest : List ℕ} → ((b : ℕ) → S b → T b)
    → (other ≡ rest) ⊎ IsLongerRest S other rest → (other ≡ rest) ⊎ IsLongerRest T other rest
grown to (inl same) = inl same
grown to (inr goes) = inr (record {
  byte = goes.byte;
  tail = goes.tail;
  begins = goes.begins;
  is_byte = to goes.byte goes.is_byte;
  is_more = goes.is_more;
})

pub rest_after_then_either : {P Q : List ℕ → Type 0} {S T : ℕ → Type 0}
    {bytes mid rest : List ℕ} → ContinuedOnlyBy Q S
    → RestAfter P S bytes mid → RestAfter Q T mid rest
    → RestAfter (Then P Q) (EitherByte S T) bytes rest
rest_after_then_either {Q = Q} {rest = rest} stays p q = record {
  stands = then_matches p.stands q.stands;
  only = λ other it.
      let (at, first, second) = then_split it in
      elim (p.only at first) [
        | inl same ↦
            grown (λ b t. inr t) (q.only other (subst (λ l. MatchesAtStart Q l other) same second))
        | inr goes ↦
            let same = stays at other goes.byte goes.tail goes.begins goes.is_byte second in
            inr (record {
              byte = goes.byte;
              tail = goes.tail;
              begins = same ∙ goes.begins;
              is_byte = inl goes.is_byte;
              is_more = omega (arith, goes.is_more, shorter q.stands, ap (λ l. length l) same);
            })
      ];
}

pub rest_after_then : {P Q : List ℕ → Type 0} {S T : ℕ → Type 0} {bytes mid rest : List ℕ}
    → NeverStartsWith Q S
    → RestAfter P S bytes mid → RestAfter Q T mid rest → RestAfter (Then P Q) T bytes rest
rest_after_then {Q = Q} bars p q = record {
  stands = then_matches p.stands q.stands;
  only = λ other it.
      let (at, first, second) = then_split it in
      elim (p.only at first) [
        | inl same ↦ q.only other (subst (λ l. MatchesAtStart Q l other) same second)
        | inr goes ↦
            absurd (bars at other goes.byte goes.tail goes.begins goes.is_byte second)
      ];
}

pub no_match_of_second : {P Q : List ℕ → Type 0} {S : ℕ → Type 0} {bytes mid : List ℕ}
    → NeverStartsWith Q S
    → RestAfter P S bytes mid → NoMatchAtStart Q mid → NoMatchAtStart (Then P Q) bytes
no_match_of_second {Q = Q} bars p none rest it =
    let (at, first, second) = then_split it in
    elim (p.only at first) [
      | inl same ↦ none rest (subst (λ l. MatchesAtStart Q l rest) same second)
      | inr goes ↦ bars at rest goes.byte goes.tail goes.begins goes.is_byte second
    ]

pub no_match_of_first : {P Q : List ℕ → Type 0} {bytes : List ℕ} → NoMatchAtStart P bytes
    → NoMatchAtStart (Then P Q) bytes
no_match_of_first none rest it = let (at, first, second) = then_split it in none at first

pub then_stays : {P Q : List ℕ → Type 0} {S : ℕ → Type 0} → ContinuedOnlyBy P S
    → ContinuedOnlyBy Q S
    → ContinuedOnlyBy (Then P Q) S
then_stays p q bytes rest b more e s it =
    let (at, first, second) = then_split it in
    let same = p bytes at b more e s first in q at rest b more (same ∙ e) s second ∙ same

pub never_starts_with_no_byte : {Q : List ℕ → Type 0} → NeverStartsWith Q NoByte
never_starts_with_no_byte bytes rest b more e s it = s

-- ---- one or the other

either_split : {P Q : List ℕ → Type 0} {bytes rest : List ℕ}
    → MatchesAtStart (Either P Q) bytes rest
    → MatchesAtStart P bytes rest ⊎ MatchesAtStart Q bytes rest
either_split it = elim it.is [
  | inl is ↦ inl (record { text = it.text; is = is; splits = it.splits })
  | inr is ↦ inr (record { text = it.text; is = is; splits = it.splits })
]

pub rest_after_left : {P Q : List ℕ → Type 0} {S : ℕ → Type 0} {bytes rest : List ℕ}
    → RestAfter P S bytes rest → NoMatchAtStart Q bytes → RestAfter (Either P Q) S bytes rest
rest_after_left p none = record {
  stands = record { text = p.stands.text; is = inl p.stands.is; splits = p.stands.splits };
  only = λ other it. elim (either_split it) [
    | inl is ↦ p.only other is
    | inr is ↦ absurd (none other is)
  ];
}

pub rest_after_right : {P Q : List ℕ → Type 0} {S : ℕ → Type 0} {bytes rest : List ℕ}
    → NoMatchAtStart P bytes → RestAfter Q S bytes rest → RestAfter (Either P Q) S bytes rest
rest_after_right none q = record {
  stands = record { text = q.stands.text; is = inr q.stands.is; splits = q.stands.splits };
  only = λ other it. elim (either_split it) [
    | inl is ↦ absurd (none other is)
    | inr is ↦ q.only other is
  ];
}

pub no_match_of_either : {P Q : List ℕ → Type 0} {bytes : List ℕ} → NoMatchAtStart P bytes
    → NoMatchAtStart Q bytes → NoMatchAtStart (Either P Q) bytes
no_match_of_either p q rest it = elim (either_split it) [ inl is ↦ p rest is | inr is ↦ q rest is ]

-- ---- one or nothing

maybe_split : {P : List ℕ → Type 0} {bytes rest : List ℕ} → MatchesAtStart (Maybe P) bytes rest
    → (bytes ≡ rest) ⊎ MatchesAtStart P bytes rest
maybe_split {rest = rest} it = elim it.is [
  | inl e ↦ inl (it.splits ∙ ap (λ l. l ++ rest) e)
  | inr is ↦ inr (record { text = it.text; is = is; splits = it.splits })
]

pub rest_after_some : {P : List ℕ → Type 0} {S F : ℕ → Type 0} {bytes rest : List ℕ}
    → AllStartWith P F
    → RestAfter P S bytes rest → RestAfter (Maybe P) (EitherByte S F) bytes rest
rest_after_some {rest = rest} starts p = record {
  stands = record { text = p.stands.text; is = inr p.stands.is; splits = p.stands.splits };
  only = λ other it. elim (maybe_split it) [
    | inl same ↦
        let c = first_byte_of_match starts p.stands in
        inr (record {
          byte = c.byte;
          tail = c.more;
          begins = sym same ∙ c.begins;
          is_byte = inr c.is;
          is_more = omega (arith, start_less starts p.stands, ap (λ l. length l) same);
        })
    | inr is ↦ grown (λ b s. inl s) (p.only other is)
  ];
}

pub rest_after_none : {P : List ℕ → Type 0} {S : ℕ → Type 0} {bytes : List ℕ}
    → NoMatchAtStart P bytes
    → RestAfter (Maybe P) S bytes bytes
rest_after_none none = record {
  stands = record { text = []; is = inl refl; splits = refl };
  only = λ other it. elim (maybe_split it) [
    | inl same ↦ inl (sym same)
    | inr is ↦ absurd (none other is)
  ];
}

pub maybe_stays : {P : List ℕ → Type 0} {S : ℕ → Type 0} → NeverStartsWith P S
    → ContinuedOnlyBy (Maybe P) S
maybe_stays bars bytes rest b more e s it = elim (maybe_split it) [
  | inl same ↦ sym same
  | inr is ↦ absurd (bars bytes rest b more e s is)
]

-- ---- any number of bytes

pub all_stays : {P S : ℕ → Type 0} → AreDisjoint P S → ContinuedOnlyBy (All P) S
all_stays {P} {S} apart bytes rest b more e s it = stays it.text it.is it.splits
  where
    stays : (text : List ℕ) → All P text → bytes ≡ text ++ rest → rest ≡ bytes
    stays [] all splits = sym splits
    stays (c ∷ text) all splits =
        absurd (apart c (All-head P c text all) (subst S (heads_equal (sym e ∙ splits)) s))

pub rest_after_all : {P : ℕ → Type 0} (text : List ℕ) {bytes rest : List ℕ} → All P text
    → bytes ≡ text ++ rest → ((b : ℕ) (more : List ℕ) → rest ≡ b ∷ more → P b → ⊥)
    → RestAfter (All P) P bytes rest
rest_after_all {P} text {bytes} {rest} all splits stops = record {
  stands = record { text = text; is = all; splits = splits };
  only = λ other it. same text it.text other all it.is (sym splits ∙ it.splits);
}
  where
    same : (xs ys other : List ℕ) → All P xs → All P ys → xs ++ rest ≡ ys ++ other
        → (other ≡ rest) ⊎ IsLongerRest P other rest
    same [] [] other p q e = inl (sym e)
    same [] (y ∷ ys) other p q e = absurd (stops y (ys ++ other) e (All-head P y ys q))
    same (x ∷ xs) [] other p q e = inr (record {
      byte = x;
      tail = xs ++ rest;
      begins = sym e;
      is_byte = All-head P x xs p;
      is_more = omega (arith, ap (λ l. length l) e, length-append xs rest);
    })
    same (x ∷ xs) (y ∷ ys) other p q e =
        same xs ys other (All-tail P x xs p) (All-tail P y ys q) (tails_equal e)

pub all_stops : {P : ℕ → Type 0} {bytes rest : List ℕ} → RestAfter (All P) P bytes rest → (b : ℕ)
    (more : List ℕ) → rest ≡ b ∷ more → P b → ⊥
all_stops {P} it b more e is =
    let text = it.stands.text in
    elim (it.only more (record {
      text = text ++ b ∷ [];
      is = All-push P text b it.stands.is is;
      splits = it.stands.splits ∙ ap (λ l. text ++ l) e ∙ sym (append_assoc text (b ∷ []) more);
    })) [
      | inl same ↦ omega (arith, ap (λ l. length l) same, ap (λ l. length l) e)
      | inr goes ↦ omega (arith, goes.is_more, ap (λ l. length l) e)
    ]

pub rest_after_wider : {P : List ℕ → Type 0} {S T : ℕ → Type 0} {bytes rest : List ℕ}
    → ((b : ℕ) → S b → T b) → RestAfter P S bytes rest → RestAfter P T bytes rest
rest_after_wider wider p =
    record { stands = p.stands; only = λ other it. grown wider (p.only other it) }
