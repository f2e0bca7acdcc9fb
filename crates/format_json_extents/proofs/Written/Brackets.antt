-- Proofs that the contents of brackets encode a list.
use Rattle.std.proofs.Common.{◌++◌, ◌+◌, ◌<◌, ◌^◌, ◌∙◌, ◌∷◌, ◌≡◌, ◌≤◌, [], ℕ, List, ap}
use Rattle.std.proofs.Common.{append_assoc, arith, inl, inr, length, length-append, refl, sym}
use Rattle.std.specs.Str.{encode_utf8_all}
use Rattle.std.specs.declared.vec.Vec.{Vec}
use Rattle.std.proofs.lemmas.List.{append-nil}
use Rattle.std.proofs.lemmas.Str.{length-le-encodes}
use Rattle.format_json_extents.proofs.Characters.{Spelling, first_char}
use Rattle.format_json_extents.proofs.Matching.{given_byte_then_is_cons, one_byte_text}
use Rattle.format_json_extents.proofs.Matching.{then_of_parts}
use Rattle.format_json_extents.proofs.Written.{Encoded, Fits, Written, encoded, fit_parts}
use Rattle.format_json_extents.proofs.Written.{one_written, run_written, then_written}
use Rattle.format_json_extents.specs.Texts.{CommaSeparated, Either, IsByte, Then, before, last}
use Rattle.format_json_extents.specs.Value.{IsWhitespace, IsWhitespaceByte}
use Rattle.format_json_texts.specs.Values.{GapText, Mark}
use Rattle.format_parts.specs.Words.{Between, One, Slice, pair}
use Rattle.stream_sets.specs.AsChar.{IsMultispace}
use Rattle.grammars.specs.Texts.{BothText as Both, EachText, InList, PartedText, Spelled, Text}
use denote.RawPtr.{null_ptr}

-- ---- whitespace

pub gap_written : {A : Type 0} → Written A IsWhitespace GapText
gap_written =
    run_written IsWhitespaceByte IsMultispace (λ b is. grind (arith, is))
    (λ c is. grind (arith, is))
    (λ c is. grind (arith, is))

-- a byte, and whitespace after it
abbrev pub IsMarked : ℕ → List ℕ → Type 0
IsMarked c = Then (IsByte (λ b. b ≡ c)) IsWhitespace

pub mark_written : {A : Type 0} (c : ℕ) → c < 128 → Written A (IsMarked c) (Mark c)
mark_written c low = then_written pair (one_written c low) gap_written

mark_text : (c : ℕ) (gap : Slice) (cs : List ℕ) → GapText gap cs → Mark c (c, gap) (c ∷ cs)
unfolding Both Spelled
mark_text c gap cs x = (c, gap, c ∷ [], cs, (refl, refl), x, refl, refl)

-- an item, a comma, and more items
listed_more : (gaps xs gap ys zs second : List ℕ) {cs front others after : List ℕ}
    → cs ≡ front ++ others → front ≡ gaps ++ xs → others ≡ 44 ∷ after
    → after ≡ gap ++ (ys ++ (zs ++ second))
    → cs ≡ gaps ++ (xs ++ ((((44 ∷ gap) ++ ys) ++ zs) ++ second))
listed_more gaps xs gap ys zs second e f g h = simp (e, f, g, h, append_assoc)

-- An item is whitespace and then `B`, which `text` encodes.
module _ {O A : Type 0} {I B : List ℕ → Type 0} {text : Text ℕ O}
    (there : (cs : List ℕ) → I cs → Then IsWhitespace B cs)
    (back : (cs : List ℕ) → Then IsWhitespace B cs → I cs) (body : Written A B text) where
  abbrev Others : List O → List ℕ → Type 0
  Others = EachText (Both (λ d o. o) (Mark 44) text)

  -- ---- with commas between them

  list_of : (e : Spelling) (gap : List ℕ) → IsWhitespace gap → (o : O) (xs : List ℕ) → text o xs
      → (os : List O) (ys : List ℕ) → Others os ys → CommaSeparated I (gap ++ (e.on xs ++ e.on ys))
  unfolding EachText Both
  list_of e gap white o xs x [] ys f =
      let inside = e.on xs ++ e.on ys in
      last (gap ++ inside) (back (gap ++ inside)
      (then_of_parts gap (e.on xs) white (body.set e o xs x)
      (ap (λ l. gap ++ (e.on xs ++ l)) (ap e.on f ∙ e.nothing)
      ∙ ap (λ l. gap ++ l) (append-nil (e.on xs)))))
  list_of e gap white o xs x (p ∷ os) ys (zs, ws, (d, q, ms, bs, m, b, f, out), more, g) =
      let mark = (mark_written {A = A} 44 (omega arith)).set e d ms m in
      let parts : e.on ys ≡ 44 ∷ (mark.second ++ (e.on bs ++ e.on ws)) =
      ap e.on g ∙ e.joins zs ws ∙ ap (λ l. l ++ e.on ws) (ap e.on f ∙ e.joins ms bs
      ∙ ap (λ l. l ++ e.on bs) (given_byte_then_is_cons 44 mark))
      ∙ ap (λ l. 44 ∷ l) (append_assoc mark.second (e.on bs) (e.on ws)) in
      before (gap ++ e.on xs) (mark.second ++ (e.on bs ++ e.on ws)) (gap ++ (e.on xs ++ e.on ys))
      (back (gap ++ e.on xs) (then_of_parts gap (e.on xs) white (body.set e o xs x) refl))
      (list_of e mark.second mark.is_second q bs b os ws more)
      (ap (λ l. gap ++ (e.on xs ++ l)) parts
      ∙ sym (append_assoc gap (e.on xs) (44 ∷ (mark.second ++ (e.on bs ++ e.on ws)))))

  -- characters that start with such a list, and the bytes of the others
  record Listed (cs rest : List ℕ) : Type 0 where
    gap : Slice
    gaps : List ℕ
    first : O
    xs : List ℕ
    os : List O
    ys : List ℕ
    second : List ℕ
    white : GapText gap gaps
    is_first : text first xs
    others : Others os ys
    splits : cs ≡ gaps ++ (xs ++ (ys ++ second))
    rest_of : encode_utf8_all second ≡ rest
    size : length os ≤ length ys

  item_written : Written A (Then IsWhitespace B) (Both pair GapText text)
  item_written = then_written pair gap_written body

  listed : (cs front rest : List ℕ) → Fits A cs → CommaSeparated I front
      → encode_utf8_all cs ≡ front ++ rest → Listed cs rest
  unfolding EachText Both
  listed cs _ rest fits (last front is) f =
      let v = item_written.value cs front rest fits (there front is) f in
      let (gap, o, gaps, xs, white, x, e, out) = v.written in
      record {
        gap = gap;
        gaps = gaps;
        first = o;
        xs = xs;
        os = [];
        ys = [];
        second = v.second;
        white = white;
        is_first = x;
        others = refl;
        splits = v.splits ∙ ap (λ l. l ++ v.second) e ∙ append_assoc gaps xs v.second;
        rest_of = v.rest_of;
        size = omega arith;
      }
  listed cs _ rest fits (before head others front is more e) f =
      let v = item_written.value cs head (44 ∷ (others ++ rest)) fits (there head is)
      (f ∙ ap (λ l. l ++ rest) e ∙ append_assoc head (44 ∷ others) rest) in
      let (gap, o, gaps, xs, white, x, g, out) = v.written in
      let (es, h, k) = first_char v.second (others ++ rest) 44 (omega arith) v.rest_of in
      let after = (fit_parts v.second (44 ∷ []) es h
      (fit_parts cs v.first v.second v.splits fits).1).1 in
      let r = listed es others rest after more k in
      let next = (44 ∷ r.gaps) ++ r.xs in
      record {
        gap = gap;
        gaps = gaps;
        first = o;
        xs = xs;
        os = r.first ∷ r.os;
        ys = next ++ r.ys;
        second = r.second;
        white = white;
        is_first = x;
        others = (
          next,
          r.ys,
          (
            (44, r.gap),
            r.first,
            44 ∷ r.gaps,
            r.xs,
            mark_text 44 r.gap r.gaps r.white,
            r.is_first,
            refl,
            refl,
          ),
          r.others,
          refl,
        );
        splits = listed_more gaps xs r.gaps r.xs r.ys r.second v.splits g h r.splits;
        rest_of = r.rest_of;
        size = omega (arith, r.size, length-append next r.ys);
      }

  -- ---- in brackets

  module _ (opens closes : ℕ) (opens_low : opens < 128) (closes_low : closes < 128) where
    abbrev Bracketed : List ℕ → Type 0
    Bracketed =
        Then (IsByte (λ b. b ≡ opens))
        (Either (Then IsWhitespace (IsByte (λ b. b ≡ closes)))
        (Then (CommaSeparated I) (IsByte (λ b. b ≡ closes))))

    abbrev InBrackets : Vec O A → List ℕ → Type 0
    InBrackets = Between (Mark opens) (InList (PartedText (Mark 44) text)) (One closes)

    bracketed_set : (e : Spelling) (list : Vec O A) (cs : List ℕ) → InBrackets list cs
        → Bracketed (e.on cs)
    unfolding Both InList PartedText
    bracketed_set e list cs (m, i, xs, ys, x, (l, c, zs, ws, y, z, e2, o2), e1, o1) =
        by l.items zs y e2
      where
        mark : IsMarked opens (e.on xs)
        mark = (mark_written {A = A} opens opens_low).set e m xs x

        end : IsByte (λ b. b ≡ closes) (e.on ws)
        end = (one_written {A = A} closes closes_low).set e c ws z

        starts : (inside : List ℕ) → e.on ys ≡ inside → e.on cs ≡ opens ∷ (mark.second ++ inside)
        starts inside f =
            ap e.on e1 ∙ e.joins xs ys ∙ ap (λ l. l ++ e.on ys) (given_byte_then_is_cons opens mark)
            ∙ ap (λ l. opens ∷ (mark.second ++ l)) f

        by : (os : List O) (zs : List ℕ) → PartedText (Mark 44) text os zs → ys ≡ zs ++ ws
            → Bracketed (e.on cs)
        by [] zs y f =
            then_of_parts (opens ∷ []) (mark.second ++ e.on ws) (one_byte_text refl refl)
            (inl (then_of_parts mark.second (e.on ws) mark.is_second end refl))
            (starts (e.on ws) (ap e.on (f ∙ ap (λ l. l ++ ws) y)))
        by (o ∷ os) zs (vs, bs, a, more, g) f =
            let list = mark.second ++ (e.on vs ++ e.on bs) in
            then_of_parts (opens ∷ []) (list ++ e.on ws) (one_byte_text refl refl)
            (inr (then_of_parts list (e.on ws)
            (list_of e mark.second mark.is_second o vs a os bs more) end refl))
            (starts ((e.on vs ++ e.on bs) ++ e.on ws)
            (ap e.on f ∙ e.joins zs ws ∙ ap (λ l. l ++ e.on ws) (ap e.on g ∙ e.joins vs bs))
            ∙ ap (λ l. opens ∷ l) (sym (append_assoc mark.second (e.on vs ++ e.on bs) (e.on ws))))

    bracketed : (gap : Slice) (gaps inside cs second rest : List ℕ) (os : List O)
        → GapText gap gaps → PartedText (Mark 44) text os inside → length os ≤ length inside + 1
        → cs ≡ opens ∷ (gaps ++ (inside ++ closes ∷ second)) → encode_utf8_all second ≡ rest
        → Fits A cs → Encoded InBrackets cs rest
    unfolding Both InList Spelled
    bracketed gap gaps inside cs second rest os white y size e f fits =
        let few : length os < 2 ^ 63 = omega (
          arith,
          size,
          fits.few,
          length-le-encodes cs,
          ap (λ l. length l) e,
          length-append gaps (inside ++ closes ∷ second),
          length-append inside (closes ∷ second),
        ) in
        let list : Vec O A = record {
          ptr = null_ptr;
          len = length os;
          cap = length os;
          alloc = fits.alloc;
          items = os;
          ok = (refl, omega arith);
          small = few;
        } in
        encoded ((opens ∷ gaps) ++ (inside ++ closes ∷ [])) second list (
          (opens, gap),
          list,
          opens ∷ gaps,
          inside ++ closes ∷ [],
          mark_text opens gap gaps white,
          (list, closes, inside, closes ∷ [], y, (refl, refl), refl, refl),
          refl,
          refl,
        ) (simp (e, append_assoc)) f

    bracketed_value : (cs front rest : List ℕ) → Fits A cs → Bracketed front
        → encode_utf8_all cs ≡ front ++ rest → Encoded InBrackets cs rest
    unfolding PartedText Both
    bracketed_value cs front rest fits is f =
        let (es, g, h) = first_char cs (is.second ++ rest) opens opens_low
        (f ∙ ap (λ l. l ++ rest) (given_byte_then_is_cons opens is)) in
        let more = (fit_parts cs (opens ∷ []) es g fits).1 in
        elim is.is_second [
          | inl none ↦
              let v = gap_written.value es none.first (none.second ++ rest) more none.is_first
              (h ∙ ap (λ l. l ++ rest) none.joins
              ∙ append_assoc none.first none.second rest) in
              let (ds, k, j) = first_char v.second rest closes closes_low
              (v.rest_of ∙ ap (λ l. l ++ rest) (none.is_second.alone
              ∙ ap (λ b. b ∷ []) none.is_second.is_byte)) in
              bracketed v.output v.first [] cs ds rest [] v.written refl (omega arith)
              (g ∙ ap (λ l. opens ∷ l) (v.splits ∙ ap (λ l. v.first ++ l) k)) j fits
          | inr some ↦
              let r = listed es some.first (some.second ++ rest) more some.is_first
              (h ∙ ap (λ l. l ++ rest) some.joins
              ∙ append_assoc some.first some.second rest) in
              let (ds, k, j) = first_char r.second rest closes closes_low
              (r.rest_of ∙ ap (λ l. l ++ rest) (some.is_second.alone
              ∙ ap (λ b. b ∷ []) some.is_second.is_byte)) in
              bracketed r.gap r.gaps (r.xs ++ r.ys) cs ds rest (r.first ∷ r.os) r.white
              (r.xs, r.ys, r.is_first, r.others, refl)
              (omega (arith, r.size, length-append r.xs r.ys))
              (g ∙ ap (λ l. opens ∷ l) (r.splits ∙ ap (λ l. r.gaps ++ l)
              (ap (λ l. r.xs ++ (r.ys ++ l)) k
              ∙ sym (append_assoc r.xs r.ys (closes ∷ ds))))) j fits
        ]

    pub bracketed_written : Written A Bracketed InBrackets
    bracketed_written = record { set = bracketed_set; value = bracketed_value }
