-- An input begins with at most one part, and is a document in at most one way.
use Rattle.std.proofs.Common.{◌≡◌, ◌≢◌, ◌≤◌, ◌<◌, ◌∙◌, ℕ, List, [], ◌∷◌, ◌++◌, length}
use Rattle.std.proofs.Common.{refl, sym}
use Rattle.std.proofs.Common.{ap, subst, arith, inl, inr, append_assoc, lit<}
use Rattle.std.specs.List.{All}
use Rattle.std.proofs.lemmas.List.Elements.{All-append, All-head, All-tail, All-weaker}
use Rattle.winnow.specs.Equal.{same_first, same_others}
use Rattle.readers.specs.Pair.{IsKeyByte}
use Rattle.readers.specs.Document.{IsBlank, IsWhite, IsTrailing, IsCommentByte, IsNameByte}
use Rattle.readers.specs.Document.{IsValueByte, NotFirst, NotLast, EndsLine, PairBytes, Part, white}
use Rattle.readers.specs.Document.{comment, section, pair, bytes_of, IsRemark, StartsWithPart}
use Rattle.readers.specs.Document.{BeginsWith}
use Rattle.readers.specs.Document.{IsDocument}
use Rattle.readers.proofs.PairLemmas.{All-middle, not_none, mark_is_no_key}

-- the longest front of bytes of P is one
pub same_front : (P : ℕ → Type 0) (xs ys xs' ys' : List ℕ) → All P xs → All P ys
    → NotFirst P xs' → NotFirst P ys' → xs ++ xs' ≡ ys ++ ys' → (xs ≡ ys) × (xs' ≡ ys')
same_front P [] [] xs' ys' a b na nb e = (refl, e)
same_front P [] (y ∷ ys) xs' ys' a b na nb e =
    let Q : List ℕ → Type 0 = λ l. NotFirst P l in
    absurd ((subst Q e na) (All-head P y ys b))
same_front P (x ∷ xs) [] xs' ys' a b na nb e =
    let Q : List ℕ → Type 0 = λ l. NotFirst P l in
    absurd ((subst Q (sym e) nb) (All-head P x xs a))
same_front P (x ∷ xs) (y ∷ ys) xs' ys' a b na nb e =
    let (same, others) =
    same_front P xs ys xs' ys' (All-tail P x xs a) (All-tail P y ys b) na nb (same_others e)
    in
    (ap (λ z. z ∷ xs) (same_first e) ∙ ap (λ l. y ∷ l) same, others)

-- a list of some bytes has a last one
last_of : (y : ℕ) (ys : List ℕ) → (front : List ℕ) × (b : ℕ) × (y ∷ ys ≡ front ++ (b ∷ []))
last_of y [] = ([], y, refl)
last_of y (z ∷ ys) = let (front, b, is) = last_of z ys in (y ∷ front, b, ap (λ l. y ∷ l) is)

-- some bytes that do not end in T are not all of T
not_all : (T : ℕ → Type 0) (y : ℕ) (ys more : List ℕ) → All T (y ∷ (ys ++ more))
    → NotLast T (y ∷ ys) → ⊥
not_all T y ys more all last =
    let (front, b, is) = last_of y ys in
    let Q : List ℕ → Type 0 = λ l. All T l in
    last front b is (All-middle T front b more
    (subst Q (ap (λ l. l ++ more) is ∙ append_assoc front (b ∷ []) more) all))

-- the longest end of bytes of T is one
pub same_end : (T : ℕ → Type 0) (xs ys xs' ys' : List ℕ) → All T xs' → All T ys' → NotLast T xs
    → NotLast T ys → xs ++ xs' ≡ ys ++ ys' → (xs ≡ ys) × (xs' ≡ ys')
same_end T [] [] xs' ys' a b nx ny e = (refl, e)
same_end T [] (y ∷ ys) xs' ys' a b nx ny e =
    absurd (not_all T y ys ys' (let Q : List ℕ → Type 0 = λ l. All T l in subst Q e a) ny)
same_end T (x ∷ xs) [] xs' ys' a b nx ny e =
    absurd (not_all T x xs xs' (let Q : List ℕ → Type 0 = λ l. All T l in subst Q (sym e) b) nx)
same_end T (x ∷ xs) (y ∷ ys) xs' ys' a b nx ny e =
    let (same, others) =
    same_end T xs ys xs' ys' a b (λ front c is. nx (x ∷ front) c (ap (λ l. x ∷ l) is))
    (λ front c is. ny (y ∷ front) c (ap (λ l. y ∷ l) is)) (same_others e) in
    (ap (λ z. z ∷ xs) (same_first e) ∙ ap (λ l. y ∷ l) same, others)

-- ---- which byte begins a part

-- what is known of the first byte of a part
abbrev FirstOf : Part → ℕ → Type 0
FirstOf (white bytes) b = b ≤ 32
FirstOf (comment text) b = b ≡ 59
FirstOf (section name) b = b ≡ 91
FirstOf (pair p) b = (48 ≤ b) × ((b ≢ 59) × (b ≢ 91))

white_low : (b : ℕ) → IsWhite b → b ≤ 32
white_low b (inl (inl e)) = omega (arith, e)
white_low b (inl (inr e)) = omega (arith, e)
white_low b (inr (inl e)) = omega (arith, e)
white_low b (inr (inr e)) = omega (arith, e)

pub key_high : (b : ℕ) → IsKeyByte b → (48 ≤ b) × ((b ≢ 59) × (b ≢ 91))
key_high b (inl h) = (h.0, (λ e. omega (arith, e, h.1), λ e. omega (arith, e, h.1)))
key_high b (inr (inl h)) =
    (omega (arith, h.0), (λ e. omega (arith, e, h.0), λ e. omega (arith, e, h.1)))
key_high b (inr (inr h)) =
    (omega (arith, h.0), (λ e. omega (arith, e, h.0), λ e. omega (arith, e, h.0)))

-- the first byte of a part
first_of : (p : Part) (input behind : List ℕ) → StartsWithPart p input behind
    → (b : ℕ) × (more : List ℕ) × (input ≡ b ∷ more) × FirstOf p b
first_of (white []) input behind (e, (some, all, stops)) = absurd (omega (arith, some))
first_of (white (x ∷ xs)) input behind (e, (some, all, stops)) =
    (x, xs ++ behind, e, white_low x (All-head IsWhite x xs all))
first_of (comment text) input behind (e, fits) = (59, text ++ behind, e, refl)
first_of (section name) input behind (e, fits) = (91, (name ++ (93 ∷ [])) ++ behind, e, refl)
first_of (pair p) input behind (e, fits) = of_key p.key _ behind e fits.some_key fits.key
  where
    of_key : (key tail behind : List ℕ) → input ≡ (key ++ tail) ++ behind → 0 < length key
        → All IsKeyByte key
        → (b : ℕ) × (more : List ℕ) × (input ≡ b ∷ more) × ((48 ≤ b) × ((b ≢ 59) × (b ≢ 91)))
    of_key [] tail behind e some all = absurd (omega (arith, some))
    of_key (x ∷ xs) tail behind e some all =
        (x, (xs ++ tail) ++ behind, e, key_high x (All-head IsKeyByte x xs all))

-- the parts are of one kind
abbrev OfOneKind : Part → Part → Type 0
OfOneKind (white a) (white b) = Unit {0}
OfOneKind (white a) (comment b) = ⊥
OfOneKind (white a) (section b) = ⊥
OfOneKind (white a) (pair b) = ⊥
OfOneKind (comment a) (white b) = ⊥
OfOneKind (comment a) (comment b) = Unit {0}
OfOneKind (comment a) (section b) = ⊥
OfOneKind (comment a) (pair b) = ⊥
OfOneKind (section a) (white b) = ⊥
OfOneKind (section a) (comment b) = ⊥
OfOneKind (section a) (section b) = Unit {0}
OfOneKind (section a) (pair b) = ⊥
OfOneKind (pair a) (white b) = ⊥
OfOneKind (pair a) (comment b) = ⊥
OfOneKind (pair a) (section b) = ⊥
OfOneKind (pair a) (pair b) = Unit {0}

by_first : (p q : Part) (b : ℕ) → FirstOf p b → FirstOf q b → OfOneKind p q
by_first (white x) (white y) b h k = tt
by_first (white x) (comment y) b h k = omega (arith, h, k)
by_first (white x) (section y) b h k = omega (arith, h, k)
by_first (white x) (pair y) b h k = let low = k.0 in omega (arith, h, low)
by_first (comment x) (white y) b h k = omega (arith, h, k)
by_first (comment x) (comment y) b h k = tt
by_first (comment x) (section y) b h k = omega (arith, h, k)
by_first (comment x) (pair y) b h k = k.1.0 h
by_first (section x) (white y) b h k = omega (arith, h, k)
by_first (section x) (comment y) b h k = omega (arith, h, k)
by_first (section x) (section y) b h k = tt
by_first (section x) (pair y) b h k = k.1.1 h
by_first (pair x) (white y) b h k = let low = h.0 in omega (arith, k, low)
by_first (pair x) (comment y) b h k = h.1.0 k
by_first (pair x) (section y) b h k = h.1.1 k
by_first (pair x) (pair y) b h k = tt

pub one_kind : (p q : Part) (input bp bq : List ℕ) → StartsWithPart p input bp
    → StartsWithPart q input bq
    → OfOneKind p q
one_kind p q input bp bq hp hq =
    let (b, more, e, first) = first_of p input bp hp in
    let (c, others, f, second) = first_of q input bq hq in
    let P : ℕ → Type 0 = λ x. FirstOf q x in
    by_first p q b first (subst P (same_first (sym f ∙ e)) second)

-- ---- how long a part is

pub ends_first : (P : ℕ → Type 0) (behind : List ℕ) → (P 10 → ⊥) → EndsLine behind
    → NotFirst P behind
ends_first P [] never ends = tt
ends_first P (b ∷ more) never ends = λ h. never (subst P ends h)

pub line_tail : (P : ℕ → Type 0) (remark behind : List ℕ) → (P 59 → ⊥) → (P 10 → ⊥)
    → IsRemark remark → EndsLine behind → NotFirst P (remark ++ behind)
line_tail P remark behind no59 no10 (inl none) ends =
    let Q : List ℕ → Type 0 = λ l. NotFirst P (l ++ behind) in
    subst Q (sym none) (ends_first P behind no10 ends)
line_tail P remark behind no59 no10 (inr (text, is, all)) ends =
    let Q : List ℕ → Type 0 = λ l. NotFirst P (l ++ behind) in
    subst Q (sym is) no59

pub not_blank : (b : ℕ) → 32 < b → IsBlank b → ⊥
not_blank b h (inl e) = omega (arith, h, e)
not_blank b h (inr e) = omega (arith, h, e)

pub feed_not_blank : IsBlank 10 → ⊥
feed_not_blank (inl e) = omega (arith, e)
feed_not_blank (inr e) = omega (arith, e)

pub blank_no_key : (b : ℕ) → IsBlank b → IsKeyByte b → ⊥
blank_no_key b (inl e) k = let high = (key_high b k).0 in omega (arith, e, high)
blank_no_key b (inr e) k = let high = (key_high b k).0 in omega (arith, e, high)

pub trailing_in_value : (b : ℕ) → IsTrailing b → IsValueByte b
trailing_in_value b (inl (inl e)) = (λ f. omega (arith, e, f), λ f. omega (arith, e, f))
trailing_in_value b (inl (inr e)) = (λ f. omega (arith, e, f), λ f. omega (arith, e, f))
trailing_in_value b (inr e) = (λ f. omega (arith, e, f), λ f. omega (arith, e, f))

-- a key ends before a space, a tab or the mark
pub key_ends : (before more : List ℕ) → All IsBlank before
    → NotFirst IsKeyByte (before ++ (61 ∷ more))
key_ends [] more blanks = mark_is_no_key
key_ends (b ∷ bs) more blanks = blank_no_key b (All-head IsBlank b bs blanks)

-- the spaces and tabs after the mark end before the value, or where that is empty after it
pub lead_stops : (body tail : List ℕ) → NotFirst IsBlank body → NotFirst IsBlank tail
    → NotFirst IsBlank (body ++ tail)
lead_stops [] tail a b = b
lead_stops (x ∷ xs) tail a b = a

-- the bytes of a pair and what follows, part by part
pub pair_flat : (p : PairBytes) (behind : List ℕ)
    → bytes_of (pair p) ++ behind
    ≡ p.key ++ (p.before ++ (61 ∷ (p.lead ++ ((p.value ++ p.trail) ++ (p.remark ++ behind)))))
pair_flat p behind =
    append_assoc p.key _ behind
    ∙ ap (λ l. p.key ++ l) (append_assoc p.before _ behind
    ∙ ap (λ l. p.before ++ (61 ∷ l)) (append_assoc p.lead _ behind
    ∙ ap (λ l. p.lead ++ l)
    (ap (λ l. l ++ behind) (sym (append_assoc p.value p.trail p.remark))
    ∙ append_assoc (p.value ++ p.trail) p.remark behind)))

no_remark : (bp bq text : List ℕ) → EndsLine bp → bp ≡ 59 ∷ (text ++ bq) → ⊥
no_remark [] bq text ends e = not_none (sym e)
no_remark (b ∷ bs) bq text ends e = omega (arith, ends, same_first e)

-- comments that end a line, or none, are the same where the bytes are
same_remark : (r s bp bq : List ℕ) → IsRemark r → IsRemark s → EndsLine bp → EndsLine bq
    → r ++ bp ≡ s ++ bq → (r ≡ s) × (bp ≡ bq)
same_remark r s bp bq (inl none) (inl none') ep eq e =
    (none ∙ sym none', sym (ap (λ l. l ++ bp) none) ∙ e ∙ ap (λ l. l ++ bq) none')
same_remark r s bp bq (inl none) (inr (text, is, all)) ep eq e =
    absurd (no_remark bp bq text ep (sym (ap (λ l. l ++ bp) none) ∙ e ∙ ap (λ l. l ++ bq) is))
same_remark r s bp bq (inr (text, is, all)) (inl none) ep eq e =
    absurd (no_remark bq bp text eq
    (sym (ap (λ l. l ++ bq) none) ∙ sym e ∙ ap (λ l. l ++ bp) is))
same_remark r s bp bq (inr (text, is, all)) (inr (text', is', all')) ep eq e =
    let (same, others) =
    same_front IsCommentByte text text' bp bq all all'
    (ends_first IsCommentByte bp (λ h. h refl) ep)
    (ends_first IsCommentByte bq (λ h. h refl) eq)
    (same_others (sym (ap (λ l. l ++ bp) is) ∙ e ∙ ap (λ l. l ++ bq) is')) in
    (is ∙ ap (λ l. 59 ∷ l) same ∙ sym is', others)

-- pairs of the same bytes are the same
same_fields : (p q : PairBytes) → p.key ≡ q.key → p.before ≡ q.before → p.lead ≡ q.lead
    → p.value ≡ q.value → p.trail ≡ q.trail → p.remark ≡ q.remark → p ≡ q
same_fields p q key before lead value trail remark =
    let make : List ℕ → List ℕ → List ℕ → List ℕ → List ℕ → List ℕ → PairBytes =
    λ a b c d e f. record {
      key = a;
      before = b;
      lead = c;
      value = d;
      trail = e;
      remark = f;
    } in
    ap (λ x. make x p.before p.lead p.value p.trail p.remark) key
    ∙ ap (λ x. make q.key x p.lead p.value p.trail p.remark) before
    ∙ ap (λ x. make q.key q.before x p.value p.trail p.remark) lead
    ∙ ap (λ x. make q.key q.before q.lead x p.trail p.remark) value
    ∙ ap (λ x. make q.key q.before q.lead q.value x p.remark) trail
    ∙ ap (λ x. make q.key q.before q.lead q.value q.trail x) remark

-- how a line ends, for every value: spaces and tabs end before it, and a value does too
pub tail_no_blank : (remark behind : List ℕ) → IsRemark remark → EndsLine behind
    → NotFirst IsBlank (remark ++ behind)
tail_no_blank remark behind is ends =
    line_tail IsBlank remark behind (not_blank 59 (lit< tt)) feed_not_blank is ends

pub tail_no_value : (remark behind : List ℕ) → IsRemark remark → EndsLine behind
    → NotFirst IsValueByte (remark ++ behind)
tail_no_value remark behind is ends =
    line_tail IsValueByte remark behind (λ h. h.0 refl) (λ h. h.1 refl) is ends

-- The layout of a pair's bytes: each run of bytes as long as it can be.
pub record IsLaid (input key before lead body rest : List ℕ) : Type 0 where
  pub splits : input ≡ key ++ (before ++ (61 ∷ (lead ++ (body ++ rest))))
  pub is_key : All IsKeyByte key
  pub is_before : All IsBlank before
  pub is_lead : All IsBlank lead
  pub lead_ends : NotFirst IsBlank (body ++ rest)
  pub is_body : All IsValueByte body
  pub body_ends : NotFirst IsValueByte rest

-- the bytes of a pair are laid out so
pub laid_of_pair : (p : PairBytes) (input behind : List ℕ) → StartsWithPart (pair p) input behind
    → IsLaid input p.key p.before p.lead (p.value ++ p.trail) (p.remark ++ behind)
laid_of_pair p input behind (e, h) = record {
  splits = e ∙ pair_flat p behind;
  is_key = h.key;
  is_before = h.before;
  is_lead = h.lead;
  lead_ends = lead_stops (p.value ++ p.trail) (p.remark ++ behind) h.lead_ends
      (tail_no_blank p.remark behind h.remark h.ends);
  is_body = All-append IsValueByte p.value p.trail h.value
      (All-weaker IsTrailing IsValueByte trailing_in_value p.trail h.trail);
  body_ends = tail_no_value p.remark behind h.remark h.ends;
}

-- what follows the key and its spaces and tabs
pub after_key : (input key before rest key' before' rest' : List ℕ)
    → input ≡ key ++ (before ++ rest) → input ≡ key' ++ (before' ++ rest') → All IsKeyByte key
    → All IsKeyByte key' → All IsBlank before → All IsBlank before'
    → NotFirst IsKeyByte (before ++ rest) → NotFirst IsKeyByte (before' ++ rest')
    → NotFirst IsBlank rest → NotFirst IsBlank rest'
    → (key ≡ key') × ((before ≡ before') × (rest ≡ rest'))
after_key input key before rest key' before' rest' e f keys keys' blanks blanks' stops stops'
    ends ends' =
    let (same, others) =
    same_front IsKeyByte key key' (before ++ rest) (before' ++ rest') keys keys' stops
    stops' (sym e ∙ f) in
    (same, same_front IsBlank before before' rest rest' blanks blanks' ends ends' others)

-- a pair's bytes are laid out in one way
pub one_layout : (input key before lead body rest key' before' lead' body' rest' : List ℕ)
    → IsLaid input key before lead body rest → IsLaid input key' before' lead' body' rest'
    → (key ≡ key') × ((before ≡ before') × ((lead ≡ lead') × ((body ≡ body') × (rest ≡ rest'))))
one_layout input key before lead body rest key' before' lead' body' rest' h k =
    let (keys, (befores, mark)) =
    after_key input key before _ key' before' _ h.splits k.splits h.is_key k.is_key
    h.is_before k.is_before (key_ends before _ h.is_before)
    (key_ends before' _ k.is_before) (not_blank 61 (lit< tt)) (not_blank 61 (lit< tt)) in
    let (leads, after_lead) =
    same_front IsBlank lead lead' (body ++ rest) (body' ++ rest') h.is_lead k.is_lead
    h.lead_ends k.lead_ends (same_others mark) in
    let (bodies, rests) =
    same_front IsValueByte body body' rest rest' h.is_body k.is_body h.body_ends k.body_ends
    after_lead in
    (keys, (befores, (leads, (bodies, rests))))

same_pair : (p q : PairBytes) (input bp bq : List ℕ) → StartsWithPart (pair p) input bp
    → StartsWithPart (pair q) input bq → (p ≡ q) × (bp ≡ bq)
same_pair p q input bp bq hp hq =
    let (key, (before, (lead, (body, rest)))) =
    one_layout input _ _ _ _ _ _ _ _ _ _ (laid_of_pair p input bp hp)
    (laid_of_pair q input bq hq) in
    let (value, trail) =
    same_end IsTrailing p.value q.value p.trail q.trail hp.1.trail hq.1.trail
    hp.1.trail_begins hq.1.trail_begins body in
    let (remark, behind) =
    same_remark p.remark q.remark bp bq hp.1.remark hq.1.remark hp.1.ends hq.1.ends rest in
    (same_fields p q key before lead value trail remark, behind)

-- an input begins with at most one part
pub same_part : (p q : Part) (input bp bq : List ℕ) → OfOneKind p q → StartsWithPart p input bp
    → StartsWithPart q input bq → (p ≡ q) × (bp ≡ bq)
same_part (white x) (white y) input bp bq kind (e, (some, all, stops)) (f, (some', all', stops')) =
    let (same, rest) = same_front IsWhite x y bp bq all all' stops stops' (sym e ∙ f) in
    (ap white same, rest)
same_part (comment x) (comment y) input bp bq kind (e, (all, ends)) (f, (all', ends')) =
    let (same, rest) =
    same_front IsCommentByte x y bp bq all all'
    (ends_first IsCommentByte bp (λ h. h refl) ends)
    (ends_first IsCommentByte bq (λ h. h refl) ends') (same_others (sym e ∙ f)) in
    (ap comment same, rest)
same_part (section x) (section y) input bp bq kind (e, (all, text)) (f, (all', text')) =
    let (same, rest) =
    same_front IsNameByte x y (93 ∷ bp) (93 ∷ bq) all all' (λ h. h.0 refl) (λ h. h.0 refl)
    (sym (append_assoc x (93 ∷ []) bp) ∙ same_others (sym e ∙ f)
    ∙ append_assoc y (93 ∷ []) bq) in
    (ap section same, same_others rest)
same_part (pair p) (pair q) input bp bq kind hp hq =
    let (same, rest) = same_pair p q input bp bq hp hq in
    (ap pair same, rest)
same_part (white a) (comment b) input bp bq kind hp hq = absurd kind
same_part (white a) (section b) input bp bq kind hp hq = absurd kind
same_part (white a) (pair b) input bp bq kind hp hq = absurd kind
same_part (comment a) (white b) input bp bq kind hp hq = absurd kind
same_part (comment a) (section b) input bp bq kind hp hq = absurd kind
same_part (comment a) (pair b) input bp bq kind hp hq = absurd kind
same_part (section a) (white b) input bp bq kind hp hq = absurd kind
same_part (section a) (comment b) input bp bq kind hp hq = absurd kind
same_part (section a) (pair b) input bp bq kind hp hq = absurd kind
same_part (pair a) (white b) input bp bq kind hp hq = absurd kind
same_part (pair a) (comment b) input bp bq kind hp hq = absurd kind
same_part (pair a) (section b) input bp bq kind hp hq = absurd kind

pub only_part : (p q : Part) (input bp bq : List ℕ) → StartsWithPart p input bp
    → StartsWithPart q input bq
    → (p ≡ q) × (bp ≡ bq)
only_part p q input bp bq hp hq = same_part p q input bp bq (one_kind p q input bp bq hp hq) hp hq

-- there is no part of nothing
pub no_part_of_none : (p : Part) (behind : List ℕ) → StartsWithPart p [] behind → ⊥
no_part_of_none p behind h = let (b, more, e, first) = first_of p [] behind h in not_none (sym e)

-- A document is one list of parts.
pub only_parts : (ps qs : List Part) (input : List ℕ) → BeginsWith ps input []
    → BeginsWith qs input [] → ps ≡ qs
only_parts [] [] input e f = refl
only_parts [] (q ∷ qs) input e (bq, hq, rest) =
    absurd (no_part_of_none q bq (let P : List ℕ
    → Type 0 = λ l. StartsWithPart q l bq in subst P e hq))
only_parts (p ∷ ps) [] input (bp, hp, rest) f =
    absurd (no_part_of_none p bp (let P : List ℕ
    → Type 0 = λ l. StartsWithPart p l bp in subst P f hp))
only_parts (p ∷ ps) (q ∷ qs) input (bp, hp, rest) (bq, hq, rest') =
    let (same, behind) = only_part p q input bp bq hp hq in
    let P : List ℕ → Type 0 = λ l. BeginsWith ps l [] in
    ap (λ x. x ∷ ps) same ∙ ap (λ l. q ∷ l) (only_parts ps qs bq (subst P behind rest) rest')

pub one_document : (ps qs : List Part) (input : List ℕ) → IsDocument input ps
    → IsDocument input qs → ps ≡ qs
one_document ps qs input d e = only_parts ps qs input d.0 e.0
