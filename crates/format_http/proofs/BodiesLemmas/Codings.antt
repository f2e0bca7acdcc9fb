-- Lemmas about one step of the search for the last coding, and for one after `chunked`.
use Rattle.std.specs.Prelude.{◌≡◌, ◌↔◌, ◌<◌, ◌⊎◌, ◌++◌, ℕ, List, [], ◌∷◌, Bool, IsTrue, codes}
use Rattle.std.specs.Prelude.{length}
use Rattle.std.specs.Char.{to_ascii_lowercase}
use Rattle.std.proofs.Common.{refl, sym, ap, subst, inl, inr, ◌∙◌, arith, length-append}
use Rattle.std.proofs.lemmas.List.{length-map}
use Rattle.format_http.proofs.BodiesLemmas.Lengths.{both_ways}
use Rattle.format_http.specs.Bodies.Lists.{IsElement, quoted_parts_of}
use Rattle.format_http.specs.Bodies.Codings.{ChunkedIsFollowed, EndChunked, EndsName, EndsSo}
use Rattle.format_http.specs.Bodies.Codings.{FollowsSo, HasChunked, HasCoding, HaveCoding}
use Rattle.format_http.specs.Bodies.Codings.{IsChunked, NamesChunked}
use Rattle.format_http.specs.Bodies.Fields.{transfer_encoding}
use Rattle.format_http.specs.Heads.Named.{IsNamed}
use Rattle.format_http.specs.Heads.Head.{Pair}
use Rattle.streams.specs.Equal.{same_first, same_others}

-- ---- a coding

-- equal texts with beginnings of one length have equal beginnings
same_parts : (a s b t : List ℕ) → a ++ s ≡ b ++ t → length a ≡ length b → (a ≡ b) × (s ≡ t)
same_parts [] s [] t e is = (refl, e)
same_parts [] s (y ∷ b) t e is = absurd (omega (arith, is))
same_parts (x ∷ a) s [] t e is = absurd (omega (arith, is))
same_parts (x ∷ a) s (y ∷ b) t e is =
    let (f, g) = same_parts a s b t (same_others e) (omega (arith, is)) in
    (ap (λ z. z ∷ a) (same_first e) ∙ ap (λ l. y ∷ l) f, g)

module _ (coding front back : List ℕ) (e : coding ≡ front ++ back) (long : length front ≡ 7) where
  -- its first seven bytes are the name
  pub named_there : IsNamed (codes "chunked") front → EndsName back → NamesChunked coding
  named_there named ends = (front, back, e, named, ends)

  pub named_back : NamesChunked coding → IsNamed (codes "chunked") front × EndsName back
  named_back (word, rest, f, named, ends) =
      let (g, h) = same_parts word rest front back (sym f ∙ e) (omega (
        arith,
        long,
        ap (λ l. length l) named,
        length-map word to_ascii_lowercase,
      )) in
      (subst (λ l. IsNamed (codes "chunked") l) g named, subst (λ l. EndsName l) h ends)

-- ---- in a list

-- `chunked` is the last coding before these parts, or one of theirs.
abbrev pub Has : Bool → List (List ℕ) → Type 0
Has chunked parts = IsTrue chunked ⊎ HasChunked parts

-- The codings of the parts and of those before them, and those of the rest after the others that
-- were read, have the same properties.
pub record IsSame (before plain : Bool) (parts : List (List ℕ)) (now bare : Bool)
    (rest : List (List ℕ)) : Type 0 where
  pub follows : FollowsSo before parts ↔ FollowsSo now rest
  pub has : Has before parts ↔ Has now rest
  pub ends : EndsSo plain parts ↔ EndsSo bare rest

-- one step, and another
pub one_more : (before plain : Bool) (parts : List (List ℕ)) (now bare : Bool)
    (rest : List (List ℕ)) (then last : Bool) (more : List (List ℕ))
    → IsSame before plain parts now bare rest → IsSame now bare rest then last more
    → IsSame before plain parts then last more
one_more before plain parts now bare rest then last more x y = record {
  follows = both_ways x.follows y.follows;
  has = both_ways x.has y.has;
  ends = both_ways x.ends y.ends;
}

module _ (before plain : Bool) (part : List ℕ) (more : List (List ℕ)) (coding : List ℕ)
    (el : (e : List ℕ) → IsElement e part ↔ coding ≡ e) where
  chunked_there : IsChunked part → NamesChunked coding
  chunked_there (e, is, named) = subst (λ l. NamesChunked l) (sym ((el e).0 is)) named

  -- a part has a coding if it is not empty, or if another has one
  some_coding : HasCoding (part ∷ more) → (0 < length coding) ⊎ HasCoding more
  some_coding (e, inl is, some) = inl (subst (λ l. 0 < length l) (sym ((el e).0 is)) some)
  some_coding (e, inr x, some) = inr (e, x, some)

  more_coding : HasCoding more → HasCoding (part ∷ more)
  more_coding (e, x, some) = (e, inr x, some)

  -- an empty element changes nothing
  pub empty_part : length coding ≡ 0 → IsSame before plain (part ∷ more) before plain more
  empty_part none = record {
    follows = (follows_there, follows_back);
    has = (has_there, has_back);
    ends = (ends_there, ends_back);
  }
    where
      others : HasCoding (part ∷ more) → HasCoding more
      others h = elim (some_coding h) [
        | inl some ↦ absurd (omega (arith, none, some))
        | inr x ↦ x
      ]

      -- the word has seven letters
      no_word : (word : List ℕ) → IsNamed (codes "chunked") word → 0 < length word
      no_word word named = omega (
        arith,
        ap (λ l. length l) named,
        length-map word to_ascii_lowercase,
      )

      none_named : NamesChunked coding → ⊥
      none_named (word, rest, e, named, ends) = omega (
        arith,
        none,
        no_word word named,
        ap (λ l. length l) e,
        length-append word rest,
      )

      follows_there : FollowsSo before (part ∷ more) → FollowsSo before more
      follows_there (inl (b, h)) = inl (b, others h)
      follows_there (inr (inl (chunked, h))) = absurd (none_named (chunked_there chunked))
      follows_there (inr (inr x)) = inr x

      follows_back : FollowsSo before more → FollowsSo before (part ∷ more)
      follows_back (inl (b, h)) = inl (b, more_coding h)
      follows_back (inr x) = inr (inr x)

      has_there : Has before (part ∷ more) → Has before more
      has_there (inl b) = inl b
      has_there (inr (e, inl is, named)) = absurd (none_named (chunked_there (e, is, named)))
      has_there (inr (e, inr x, named)) = inr (e, x, named)

      has_back : Has before more → Has before (part ∷ more)
      has_back (inl b) = inl b
      has_back (inr (e, x, named)) = inr (e, inr x, named)

      ends_there : EndsSo plain (part ∷ more) → EndsSo plain more
      ends_there (inl (b, lacks)) = inl (b, λ h. lacks (more_coding h))
      ends_there (inr (inl ((e, is, named), lacks))) = absurd (omega (
        arith,
        none,
        no_word e named,
        ap (λ l. length l) ((el e).0 is),
      ))
      ends_there (inr (inr x)) = inr x

      ends_back : EndsSo plain more → EndsSo plain (part ∷ more)
      ends_back (inl (b, lacks)) = inl (b, λ h. lacks (others h))
      ends_back (inr x) = inr (inr x)

  module _ (some : length coding ≡ 0 → ⊥) where
    this_coding : HasCoding (part ∷ more)
    this_coding = (coding, inl ((el coding).1 refl), omega (arith, some))

    -- a coding, where `chunked` was not yet
    pub coded_part : (now bare : Bool) → (IsTrue before → ⊥)
        → (IsTrue now ↔ NamesChunked coding) → (IsTrue bare ↔ IsNamed (codes "chunked") coding)
        → IsSame before plain (part ∷ more) now bare more
    coded_part now bare not is is_bare = record {
      follows = (follows_there, follows_back);
      has = (has_there, has_back);
      ends = (ends_there, ends_back);
    }
      where
        put : IsTrue now → IsChunked part
        put n = (coding, (el coding).1 refl, is.0 n)

        follows_there : FollowsSo before (part ∷ more) → FollowsSo now more
        follows_there (inl (b, h)) = absurd (not b)
        follows_there (inr (inl (chunked, h))) = inl (is.1 (chunked_there chunked), h)
        follows_there (inr (inr x)) = inr x

        follows_back : FollowsSo now more → FollowsSo before (part ∷ more)
        follows_back (inl (n, h)) = inr (inl (put n, h))
        follows_back (inr x) = inr (inr x)

        has_there : Has before (part ∷ more) → Has now more
        has_there (inl b) = absurd (not b)
        has_there (inr (e, inl x, named)) = inl (is.1 (chunked_there (e, x, named)))
        has_there (inr (e, inr x, named)) = inr (e, x, named)

        has_back : Has now more → Has before (part ∷ more)
        has_back (inl n) = inr (coding, inl ((el coding).1 refl), is.0 n)
        has_back (inr (e, x, named)) = inr (e, inr x, named)

        ends_there : EndsSo plain (part ∷ more) → EndsSo bare more
        ends_there (inl (b, lacks)) = absurd (lacks this_coding)
        ends_there (inr (inl ((e, x, named), lacks))) =
            let P : List ℕ → Type 0 = λ l. IsNamed (codes "chunked") l in
            inl (is_bare.1 (subst P (sym ((el e).0 x)) named), lacks)
        ends_there (inr (inr x)) = inr x

        ends_back : EndsSo bare more → EndsSo plain (part ∷ more)
        ends_back (inl (b, lacks)) = inr (inl ((coding, (el coding).1 refl, is_bare.0 b), lacks))
        ends_back (inr x) = inr (inr x)

    -- a coding after `chunked`
    pub coded_after : IsTrue before → FollowsSo before (part ∷ more)
    coded_after b = inl (b, this_coding)

-- ---- in fields

-- The codings of the remaining fields and of those before them have the properties of all.
pub record AreSame (chunked plain : Bool) (fields all : List Pair) : Type 0 where
  pub follows : ((IsTrue chunked × HaveCoding fields) ⊎ ChunkedIsFollowed fields)
      ↔ ChunkedIsFollowed all
  pub ends : ((IsTrue plain × (HaveCoding fields → ⊥)) ⊎ EndChunked fields) ↔ EndChunked all

module _ (chunked plain : Bool) (field : Pair) (fields all : List Pair)
    (so_far : AreSame chunked plain (field ∷ fields) all) where
  -- a field of another name
  pub other_field : (IsNamed transfer_encoding field.0 → ⊥) → AreSame chunked plain fields all
  other_field not = record {
    follows = both_ways (follows_there, follows_back) so_far.follows;
    ends = both_ways (ends_there, ends_back) so_far.ends;
  }
    where
      others : HaveCoding (field ∷ fields) → HaveCoding fields
      others (inl (named, h)) = absurd (not named)
      others (inr h) = h

      follows_there : (IsTrue chunked × HaveCoding fields) ⊎ ChunkedIsFollowed fields
          → (IsTrue chunked × HaveCoding (field ∷ fields)) ⊎ ChunkedIsFollowed (field ∷ fields)
      follows_there (inl (c, h)) = inl (c, inr h)
      follows_there (inr x) = inr (inr x)

      follows_back :
          (IsTrue chunked × HaveCoding (field ∷ fields)) ⊎ ChunkedIsFollowed (field ∷ fields)
          → (IsTrue chunked × HaveCoding fields) ⊎ ChunkedIsFollowed fields
      follows_back (inl (c, h)) = inl (c, others h)
      follows_back (inr (inl (named, x))) = absurd (not named)
      follows_back (inr (inr x)) = inr x

      ends_there : (IsTrue plain × (HaveCoding fields → ⊥)) ⊎ EndChunked fields
          → (IsTrue plain × (HaveCoding (field ∷ fields) → ⊥)) ⊎ EndChunked (field ∷ fields)
      ends_there (inl (p, lacks)) = inl (p, λ h. lacks (others h))
      ends_there (inr x) = inr (inr x)

      ends_back : (IsTrue plain × (HaveCoding (field ∷ fields) → ⊥)) ⊎ EndChunked (field ∷ fields)
          → (IsTrue plain × (HaveCoding fields → ⊥)) ⊎ EndChunked fields
      ends_back (inl (p, lacks)) = inl (p, λ h. lacks (inr h))
      ends_back (inr (inl (named, x, last))) = absurd (not named)
      ends_back (inr (inr x)) = inr x

  -- a coding of this field comes after `chunked`
  pub followed_field : IsNamed transfer_encoding field.0
      → FollowsSo chunked (quoted_parts_of field.1) → ChunkedIsFollowed all
  followed_field named (inl (c, has)) = so_far.follows.0 (inl (c, inl (named, has)))
  followed_field named (inr x) = so_far.follows.0 (inr (inl (named, inl x)))

  -- none in this field
  pub same_field : (now bare : Bool) → IsNamed transfer_encoding field.0
      → (FollowsSo chunked (quoted_parts_of field.1) → ⊥)
      → (IsTrue now ↔ Has chunked (quoted_parts_of field.1))
      → (IsTrue bare ↔ EndsSo plain (quoted_parts_of field.1)) → AreSame now bare fields all
  same_field now bare named none is is_bare = record {
    follows = both_ways (follows_there, follows_back) so_far.follows;
    ends = both_ways (ends_there, ends_back) so_far.ends;
  }
    where
      put : Has chunked (quoted_parts_of field.1) → HaveCoding fields
          → (IsTrue chunked × HaveCoding (field ∷ fields)) ⊎ ChunkedIsFollowed (field ∷ fields)
      put (inl c) h = inl (c, inr h)
      put (inr x) h = inr (inl (named, inr (x, h)))

      follows_there : (IsTrue now × HaveCoding fields) ⊎ ChunkedIsFollowed fields
          → (IsTrue chunked × HaveCoding (field ∷ fields)) ⊎ ChunkedIsFollowed (field ∷ fields)
      follows_there (inl (n, h)) = put (is.0 n) h
      follows_there (inr x) = inr (inr x)

      follows_back :
          (IsTrue chunked × HaveCoding (field ∷ fields)) ⊎ ChunkedIsFollowed (field ∷ fields)
          → (IsTrue now × HaveCoding fields) ⊎ ChunkedIsFollowed fields
      follows_back (inl (c, inl (same, h))) = absurd (none (inl (c, h)))
      follows_back (inl (c, inr h)) = inl (is.1 (inl c), h)
      follows_back (inr (inl (same, inl x))) = absurd (none (inr x))
      follows_back (inr (inl (same, inr (x, h)))) = inl (is.1 (inr x), h)
      follows_back (inr (inr x)) = inr x

      put_end : EndsSo plain (quoted_parts_of field.1) → (HaveCoding fields → ⊥)
          → (IsTrue plain × (HaveCoding (field ∷ fields) → ⊥)) ⊎ EndChunked (field ∷ fields)
      put_end (inl (p, lacks)) last = inl (p, λ h. elim h [ inl x ↦ lacks x.1 | inr y ↦ last y ])
      put_end (inr x) last = inr (inl (named, x, last))

      ends_there : (IsTrue bare × (HaveCoding fields → ⊥)) ⊎ EndChunked fields
          → (IsTrue plain × (HaveCoding (field ∷ fields) → ⊥)) ⊎ EndChunked (field ∷ fields)
      ends_there (inl (b, last)) = put_end (is_bare.0 b) last
      ends_there (inr x) = inr (inr x)

      ends_back :
          (IsTrue plain × (HaveCoding (field ∷ fields) → ⊥)) ⊎ EndChunked (field ∷ fields)
          → (IsTrue bare × (HaveCoding fields → ⊥)) ⊎ EndChunked fields
      ends_back (inl (p, lacks)) =
          inl (is_bare.1 (inl (p, λ h. lacks (inl (named, h)))), λ h. lacks (inr h))
      ends_back (inr (inl (same, x, last))) = inl (is_bare.1 (inr x), last)
      ends_back (inr (inr x)) = inr x

-- after the last field
pub no_fields : (chunked plain : Bool) (all : List Pair) → AreSame chunked plain [] all
    → (ChunkedIsFollowed all → ⊥) × (IsTrue plain ↔ EndChunked all)
no_fields chunked plain all so_far = (
  λ x. elim (so_far.follows.1 x) [ inl y ↦ y.1 | inr y ↦ y ],
  (
    λ p. so_far.ends.0 (inl (p, λ h. h)),
    λ e. elim (so_far.ends.1 e) [ inl y ↦ y.0 | inr y ↦ absurd y ],
  ),
)
