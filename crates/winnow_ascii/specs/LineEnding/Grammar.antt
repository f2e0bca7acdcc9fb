-- Lemmas for callers about the grammars of line endings and of the text before them.
use Rattle.std.specs.Prelude.{◌≡◌, ◌≤◌, ℕ, List, [], ◌∷◌, ◌++◌, length}
use Rattle.std.specs.Borrow.{Bor}
use Rattle.std.specs.List.{AllByRecursion}
use Rattle.std.specs.Str.{IsAscii}
use Rattle.std.proofs.Common.{refl, sym, ap, subst, inl, inr, ◌∙◌, arith, append_assoc}
use Rattle.std.proofs.Common.{length-append}
use Rattle.std.proofs.lemmas.List.{append-nil}
use Rattle.streams.specs.Equal.{same_first, same_others}
use Rattle.streams.specs.Reading.{Reading}
use Rattle.grammars.specs.Grammar.{Either, Grammar, Literally, SpelledBy}
use Rattle.grammars.specs.Grammar.Same.{Same}
use Rattle.grammars.specs.Grammar.Searches.{IsBefore, Line, LineEnd}
use Rattle.stream_searches.specs.Compare.{StartsWithSpelling}
use Rattle.stream_searches.specs.FindSlice.{Occurs}
use Rattle.winnow_ascii.specs.Crlf.Inversion.{SpellsAscii, crlf_ascii, feed_ascii, return_ascii}
use Rattle.winnow_ascii.specs.LineEnding.Inversion.{IsLineEnd}
use Rattle.winnow_ascii.specs.TillLineEnding.Inversion.{AfterLine, EndsLine, InLine, SeeksEnds}

-- Tokens among which is neither a carriage return nor a line feed; and after them nothing, a line
-- feed, or both characters.
unfoldable pub LineText : {L : Type 0} → Reading ℕ L → Grammar ℕ L
LineText reading tokens slice rest =
    (line : List ℕ) × (tokens ≡ line ++ rest) × AllByRecursion InLine line × AfterLine rest
    × reading.shows slice line

-- A line feed, or both characters.
unfoldable pub EndText : {L : Type 0} → Reading ℕ L → Grammar ℕ L
EndText reading tokens slice rest =
    (end : List ℕ) × IsLineEnd end × (tokens ≡ end ++ rest) × reading.shows slice end

-- neither character occurs in a list if it does not occur at any offset
all_in : (xs : List ℕ) → ((a : List ℕ) (c : ℕ) (b : List ℕ) → EndsLine c → xs ≡ a ++ c ∷ b → ⊥)
    → AllByRecursion InLine xs
all_in [] none = tt
all_in (x ∷ xs) none = (
  (λ e. none [] x xs (inl e) refl, λ e. none [] x xs (inr e) refl),
  all_in xs (λ a c b is e. none (x ∷ a) c b is (ap (λ l. x ∷ l) e)),
)

not_both : {P : Type 0} (x c : ℕ) → x ≡ c → InLine x → EndsLine c → P
not_both x c e is (inl carriage) = absurd (is.0 (e ∙ carriage))
not_both x c e is (inr feed) = absurd (is.1 (e ∙ feed))

no_longer : (line rest other : List ℕ) (c : ℕ) (b : List ℕ) → AllByRecursion InLine line
    → EndsLine c → line ++ rest ≡ other ++ c ∷ b → length line ≤ length other
no_longer [] rest other c b all is e = omega arith
no_longer (x ∷ xs) rest [] c b all is e = not_both x c (same_first e) all.0 is
no_longer (x ∷ xs) rest (y ∷ ys) c b all is e =
    let less = no_longer xs rest ys c b all.1 is (same_others e) in omega (arith, less)

text_of : (bytes : List ℕ) → Bor (List ℕ)
text_of bytes = record { ref_ptr = (0, 0); now = bytes }

module _ {L : Type 0} (reading : Reading ℕ L) (spells : Bor (List ℕ) → List ℕ → Type 0)
    (lists : SpellsAscii spells) where
  -- tokens that start with a spelling of ASCII characters start with these characters
  spelled_first : (bytes tokens : List ℕ) → IsAscii bytes
      → StartsWithSpelling (SpelledBy spells bytes) tokens
      → (rest : List ℕ) × (tokens ≡ bytes ++ rest)
  spelled_first bytes tokens low (front, rest, (text, was, spelled), e) =
      (rest, e ∙ ap (λ l. l ++ rest) (lists.list text bytes front low was spelled))

  first_spelled : (bytes tokens rest : List ℕ) → IsAscii bytes → tokens ≡ bytes ++ rest
      → StartsWithSpelling (SpelledBy spells bytes) tokens
  unfolding text_of
  first_spelled bytes tokens rest low e =
      (bytes, rest, (text_of bytes, refl, lists.back (text_of bytes) bytes low refl), e)

  -- ---- line endings

  spelled_by : (bytes xs : List ℕ) → IsAscii bytes → xs ≡ bytes → SpelledBy spells bytes xs
  unfolding text_of
  spelled_by bytes xs low e =
      let P : List ℕ → Type 0 = λ l. spells (text_of bytes) l in
      (text_of bytes, refl, subst P (sym e) (lists.back (text_of bytes) bytes low refl))

  end_there : (tokens : List ℕ) (slice : L) (rest : List ℕ)
      → LineEnd reading spells tokens slice rest → EndText reading tokens slice rest
  unfolding Either Literally EndText
  end_there tokens slice rest (inl (front, s, (text, was, spelled), shown, e, same)) =
      let P : L → Type 0 = λ x. reading.shows x front in (
        front,
        inl (lists.list text (10 ∷ []) front feed_ascii was spelled),
        e,
        subst P (sym same) shown,
      )
  end_there tokens slice rest (inr (none, (front, s, (text, was, spelled), shown, e, same))) =
      let P : L → Type 0 = λ x. reading.shows x front in (
        front,
        inr (lists.list text (13 ∷ 10 ∷ []) front crlf_ascii was spelled),
        e,
        subst P (sym same) shown,
      )

  end_back : (tokens : List ℕ) (slice : L) (rest : List ℕ) → EndText reading tokens slice rest
      → LineEnd reading spells tokens slice rest
  unfolding Either Literally EndText
  end_back tokens slice rest (end, inl is, e, shown) = inl (
    end,
    slice,
    spelled_by (10 ∷ []) end feed_ascii is,
    shown,
    e,
    refl,
  )
  end_back tokens slice rest (end, inr is, e, shown) = inr (
    (λ o other (front, s, (text, was, spelled), shows, f, same).
        let (more, first) = spelled_first (10 ∷ []) tokens feed_ascii
        (front, other, (text, was, spelled), f) in
        absurd (omega (arith, same_first (sym first ∙ e ∙ ap (λ l. l ++ rest) is)))),
    (
      end,
      slice,
      spelled_by (13 ∷ 10 ∷ []) end crlf_ascii is,
      shown,
      e,
      refl,
    ),
  )

  pub same_end : Same (LineEnd reading spells) (EndText reading)
  same_end = record { there = end_there; back = end_back }

  -- ---- lines

  module _ (sought : ℕ × ℕ → List ℕ → Type 0) (seeks : SeeksEnds sought) where
    -- a search finds each of the two characters
    ends_stand : (tokens a : List ℕ) (c : ℕ) (b : List ℕ) → EndsLine c → tokens ≡ a ++ c ∷ b
        → Occurs (sought (13, 10)) tokens a (c ∷ []) b
    ends_stand tokens a c b is e = record { splits = e; is = seeks.back c is }

    stand_ends : (tokens a hit b : List ℕ) → Occurs (sought (13, 10)) tokens a hit b
        → (c : ℕ) × EndsLine c × (tokens ≡ a ++ c ∷ b)
    stand_ends tokens a hit b there =
        let (c, is, e) = seeks.list hit there.is in
        (c, is, there.splits ∙ ap (λ l. a ++ (l ++ b)) e)

    behind : (rest : List ℕ) → StartsWithSpelling (sought (13, 10)) rest
        → (StartsWithSpelling (SpelledBy spells (13 ∷ [])) rest
        → StartsWithSpelling (SpelledBy spells (13 ∷ 10 ∷ [])) rest) → AfterLine rest
    behind rest (hit, more, is, e) feed =
        let (c, end, same) = seeks.list hit is in
        by c end (e ∙ ap (λ l. l ++ more) same)
      where
        by : (c : ℕ) → EndsLine c → rest ≡ c ∷ more → AfterLine rest
        by c (inl carriage) here =
            let first : rest ≡ 13 ∷ more = here ∙ ap (λ x. x ∷ more) carriage in
            let (tail, both) = spelled_first (13 ∷ 10 ∷ []) rest crlf_ascii
            (feed (first_spelled (13 ∷ []) rest more return_ascii first)) in
            inr (tail, inr both)
        by c (inr end) here = inr (more, inl (here ∙ ap (λ x. x ∷ more) end))

    line_there : (tokens : List ℕ) (slice : L) (rest : List ℕ)
        → Line reading spells sought tokens slice rest → LineText reading tokens slice rest
    unfolding Line LineText
    line_there tokens slice rest (front, inl before, feed, shown) = (
      front,
      before.splits,
      all_in front (λ a c b is e.
          let here : tokens ≡ a ++ c ∷ (b ++ rest) =
          before.splits ∙ ap (λ l. l ++ rest) e ∙ append_assoc a (c ∷ b) rest in
          let first = before.first a (c ∷ []) (b ++ rest)
          (ends_stand tokens a c (b ++ rest) is here) in
          omega (arith, first, ap (λ l. length l) e, length-append a (c ∷ b))),
      behind rest before.stands feed,
      shown,
    )
    line_there tokens slice rest (front, inr (none, all, nothing), feed, shown) = (
      front,
      sym (append-nil tokens) ∙ ap (λ l. tokens ++ l) (sym nothing)
          ∙ ap (λ l. l ++ rest) (sym all),
      all_in front (λ a c b is e. none a (c ∷ []) b (ends_stand tokens a c b is (sym all ∙ e))),
      inl nothing,
      shown,
    )

    before_end : (tokens line rest : List ℕ) (c : ℕ) (more : List ℕ) → tokens ≡ line ++ rest
        → AllByRecursion InLine line → EndsLine c → rest ≡ c ∷ more
        → IsBefore (sought (13, 10)) tokens line rest
    before_end tokens line rest c more e all is f = record {
      splits = e;
      stands = (c ∷ [], more, seeks.back c is, f);
      first = λ other hit b there.
          let (d, end, here) = stand_ends tokens other hit b there in
          no_longer line rest other d b all end (sym e ∙ here);
    }

    line_back : (tokens : List ℕ) (slice : L) (rest : List ℕ) → LineText reading tokens slice rest
        → Line reading spells sought tokens slice rest
    unfolding Line LineText
    line_back tokens slice rest (line, e, all, inl nothing, shown) =
        let same : tokens ≡ line = e ∙ ap (λ l. line ++ l) nothing ∙ append-nil line in (
          line,
          inr (
            (λ a hit b there.
                let (c, end, here) = stand_ends tokens a hit b there in
                let less = no_longer line rest a c b all end (sym e ∙ here) in
                omega (
                  arith,
                  less,
                  ap (λ l. length l) (sym same ∙ here),
                  length-append a (c ∷ b),
                )),
            sym same,
            nothing,
          ),
          (λ first.
              let (tail, here) = spelled_first (13 ∷ []) rest return_ascii first in
              absurd (omega (arith, ap (λ l. length l) (sym nothing ∙ here)))),
          shown,
        )
    line_back tokens slice rest (line, e, all, inr (more, inl feed), shown) = (
      line,
      inl (before_end tokens line rest 10 more e all (inr refl) feed),
      (λ first.
          let (tail, here) = spelled_first (13 ∷ []) rest return_ascii first in
          absurd (omega (arith, same_first (sym feed ∙ here)))),
      shown,
    )
    line_back tokens slice rest (line, e, all, inr (more, inr both), shown) = (
      line,
      inl (before_end tokens line rest 13 (10 ∷ more) e all (inl refl) both),
      (λ _. first_spelled (13 ∷ 10 ∷ []) rest more crlf_ascii both),
      shown,
    )

    pub same_line : Same (Line reading spells sought) (LineText reading)
    same_line = record { there = line_there; back = line_back }
