-- The grammar of the parsers of a status line matches status lines.
use Rattle.std.specs.Prelude.{◌≡◌, ◌+◌, ◌*◌, ℕ, List, ◌∷◌, ◌++◌, Option, Some, None, []}
use Rattle.std.specs.Borrow.{Bor}
use Rattle.std.specs.List.{All}
use Rattle.std.proofs.Common.{refl, sym, ap, subst, ◌∙◌, inl, inr, arith}
use Rattle.std.proofs.lemmas.List.Elements.{All-nil}
use Rattle.streams.specs.Equal.{none_is_some, same_first, same_some}
use Rattle.format_http.specs.Heads.Bytes.{IsValueByte, line_end}
use Rattle.format_http.proofs.HeadsLemmas.Parts.{Literal, literal_back, literal_there}
use Rattle.format_http.proofs.HeadsLemmas.Parts.{literal_unique}
use Rattle.format_http.specs.Heads.Parts.{DigitStands, Run, digit_unique}
use Rattle.format_http.proofs.HeadsLemmas.Parts.{run_back, run_there, run_unique}
use Rattle.format_http.specs.Heads.RequestLine.{digits}
use Rattle.format_http.proofs.HeadsLemmas.RequestRead.{Numbers, numbers_unique}
use Rattle.format_http.specs.Responses.StatusLine.{IsStatusLine, StatusLineStands, http, three}
use Rattle.format_http.specs.declared.responses.status_line.StatusLine.{StatusLine}
use Rattle.grammars.specs.Grammar.Same.{Same, unique_as}
use Rattle.winnow_grammar.specs.Steps.{Steps}
use Rattle.grammars.specs.Grammar.{Both, Grammar, IsUnique, Optional, Three}
use Rattle.grammars.specs.Grammar.Inversion.{Byte, byte_stands, byte_unique, slice_for, stands_byte}
use Rattle.grammars.specs.Grammar.Sequences.{three_unique}
use Rattle.grammars.specs.Grammar.Unique.{both_unique, optional_unique, unique_by}
use Rattle.format_http.specs.Responses.Parts.{CodeStands, ProtocolCode, ProtocolStands}
use Rattle.format_http.specs.Responses.Parts.{ReasonStands}

-- ---- a version, and a space after it

-- by `delimited(b"HTTP/", .., b' ')`
abbrev pub ProtocolRead : Bor (List ℕ) → Grammar ℕ (ℕ × ℕ)
ProtocolRead first = Three (λ _ numbers _. numbers) (Literal first) Numbers (Byte 32)

module _ (first : Bor (List ℕ)) (begins : first.now ≡ http) where
  protocol_there : (bytes : List ℕ) (v : ℕ × ℕ) (rest : List ℕ) → ProtocolRead first bytes v rest
      → ProtocolStands bytes v rest
  unfolding Three
  protocol_there bytes v rest
      (s, n, t, a, b, x, (major, dot, minor, c, d, (small, e), y, (less, f), out), z, g) =
      let P : ℕ × ℕ → Type 0 = λ w. ProtocolStands bytes w rest in
      subst P (sym (g ∙ out)) (
        small,
        less,
        literal_there first http bytes s a begins x
            ∙ ap (λ l. http ++ l) (e
            ∙ ap (λ l. (48 + major) ∷ l) ((byte_stands 46 c dot d y).0
            ∙ ap (λ l. 46 ∷ l) (f
            ∙ ap (λ l. (48 + minor) ∷ l) (byte_stands 32 b t rest z).0))),
      )

  protocol_back : (bytes : List ℕ) (v : ℕ × ℕ) (rest : List ℕ) → ProtocolStands bytes v rest
      → ProtocolRead first bytes v rest
  unfolding Three
  protocol_back bytes v rest (small, less, e) =
      let end = 32 ∷ rest in
      let two = (48 + v.1) ∷ end in (
        first,
        v,
        32,
        digits v.0 v.1 ++ end,
        end,
        literal_back first http bytes (digits v.0 v.1 ++ end) begins e,
        (
          v.0,
          46,
          v.1,
          46 ∷ two,
          two,
          (small, refl),
          stands_byte 46 (46 ∷ two) two refl,
          (less, refl),
          refl,
        ),
        stands_byte 32 end rest refl,
        refl,
      )

  pub same_protocol : Same (ProtocolRead first) ProtocolStands
  same_protocol = record { there = protocol_there; back = protocol_back }

pub protocol_unique : IsUnique ProtocolStands
protocol_unique =
    let (first, is) = slice_for http in
    unique_as (same_protocol first is) (three_unique {O = ℕ × ℕ} (λ _ numbers _. numbers)
    (literal_unique first) numbers_unique (byte_unique 32))

-- ---- a status code

-- by a tuple of three digits
abbrev pub CodeRead : Grammar ℕ (ℕ × ℕ × ℕ)
CodeRead = Three (λ a b c. (a, b, c)) DigitStands DigitStands DigitStands

pub code_there : (p : ℕ × ℕ × ℕ) (status : ℕ) → status ≡ p.0 * 100 + p.1 * 10 + p.2
    → (bytes rest : List ℕ) → CodeRead bytes p rest → CodeStands bytes status rest
unfolding Three
code_there p status is bytes rest (a, b, c, m, n, (small, e), (less, f), (few, g), out) =
    let number : ℕ × ℕ × ℕ → ℕ = λ q. q.0 * 100 + q.1 * 10 + q.2 in (
      a,
      b,
      c,
      record {
        is_number = is ∙ ap number out;
        some_hundreds = small;
        some_tens = less;
        some_ones = few;
      },
      e ∙ ap (λ l. (48 + a) ∷ l) (f ∙ ap (λ l. (48 + b) ∷ l) g),
    )

pub code_back : (bytes : List ℕ) (status : ℕ) (rest : List ℕ) → CodeStands bytes status rest
    → (p : ℕ × ℕ × ℕ) × CodeRead bytes p rest
unfolding Three
code_back bytes status rest (a, b, c, is, e) = (
  (a, b, c),
  (
    a,
    b,
    c,
    (48 + b) ∷ (48 + c) ∷ rest,
    (48 + c) ∷ rest,
    (is.some_hundreds, e),
    (is.some_tens, refl),
    (is.some_ones, refl),
    refl,
  ),
)

pub code_unique : IsUnique CodeStands
code_unique = unique_by code_back (three_unique {O = ℕ × ℕ × ℕ} (λ a b c. (a, b, c)) digit_unique
    digit_unique digit_unique)

-- ---- a reason, and the line ending

-- by `preceded(b' ', take_while(0.., ..))`
abbrev pub Spaced : Grammar ℕ (Bor (List ℕ))
Spaced = Both (λ _ text. text) (Byte 32) (Run IsValueByte 0)

-- by `terminated(opt(..), b"\r\n")`
abbrev pub ReasonRead : Bor (List ℕ) → Grammar ℕ (Option (Bor (List ℕ)))
ReasonRead last = Both (λ o _. o) (Optional Spaced) (Literal last)

module _ (last : Bor (List ℕ)) (ends : last.now ≡ line_end) where
  pub some_there : (reason : Bor (List ℕ)) (bytes rest : List ℕ)
      → ReasonRead last bytes (Some reason) rest → ReasonStands bytes reason rest
  unfolding Both Optional
  some_there reason bytes rest (o, l, mid, inr (none, never, e), y, out) =
      none_is_some (sym none ∙ sym out)
  some_there reason bytes rest (o, l, mid, inl (text, some, (space, t, m, x, z, made)), y, out) =
      let same : reason ≡ t = same_some (out ∙ some) ∙ made in
      let P : Bor (List ℕ) → Type 0 = λ s. ReasonStands bytes s rest in
      let is = run_there IsValueByte 0 m t mid z in
      subst P (sym same) (
        32 ∷ t.now,
        inl refl,
        is.members,
        (byte_stands 32 bytes space m x).0
            ∙ ap (λ s. 32 ∷ s) (is.splits
            ∙ ap (λ s. t.now ++ s) (literal_there last line_end mid l rest ends y)),
      )

  pub none_there : (reason : Bor (List ℕ)) (bytes rest : List ℕ) → reason.now ≡ []
      → ReasonRead last bytes None rest → ReasonStands bytes reason rest
  unfolding Both Optional
  none_there reason bytes rest empty (o, l, mid, inl (text, some, x), y, out) =
      none_is_some (out ∙ some)
  none_there reason bytes rest empty (o, l, mid, inr (none, never, e), y, out) =
      let P : List ℕ → Type 0 = λ s. All IsValueByte s in (
        [],
        inr (refl, empty),
        subst P (sym empty) (All-nil IsValueByte),
        sym e ∙ literal_there last line_end mid l rest ends y,
      )

  pub reason_back : (bytes : List ℕ) (reason : Bor (List ℕ)) (rest : List ℕ)
      → ReasonStands bytes reason rest
      → (o : Option (Bor (List ℕ))) × ReasonRead last bytes o rest
  unfolding Both Optional
  reason_back bytes reason rest (behind, inl space, all, e) =
      let end = line_end ++ rest in
      let text = reason.now ++ end in (
        Some reason,
        (
          Some reason,
          last,
          end,
          inl (
            reason,
            refl,
            (
              32,
              reason,
              text,
              stands_byte 32 bytes text (e ∙ ap (λ s. s ++ end) space),
              run_back IsValueByte 0 text reason end (record {
                splits = refl;
                members = all;
                enough = omega arith;
                stops = λ t. omega (arith, t);
              }),
              refl,
            ),
          ),
          literal_back last line_end end rest ends refl,
          refl,
        ),
      )
  reason_back bytes reason rest (behind, inr (none, empty), all, e) =
      let end = line_end ++ rest in
      let whole : bytes ≡ end = e ∙ ap (λ s. s ++ end) none in (
        None,
        (
          None,
          last,
          end,
          inr (
            refl,
            (λ o more (space, t, m, x, z, made).
                absurd
                (omega (
                  arith,
                  same_first
                      (sym whole ∙ (byte_stands 32 bytes space m x).0),
                ))),
            sym whole,
          ),
          literal_back last line_end end rest ends refl,
          refl,
        ),
      )

-- ---- a status line

pub protocol_code_unique : IsUnique ProtocolCode
protocol_code_unique =
    both_unique {O = (ℕ × ℕ) × ℕ} (λ version status. (version, status)) protocol_unique code_unique

pub status_there : (major minor status : ℕ) (reason : Bor (List ℕ)) (bytes rest : List ℕ)
    → Steps ProtocolCode ReasonStands bytes (((major, minor), status), reason) rest
    → IsStatusLine major minor status reason.now bytes rest
unfolding Both
status_there major minor status reason bytes rest
    (p, r, mid, (v, s, m, (small, less, e), (a, b, c, is, f), made), (behind, gap, all, g), out) =
    let P : ((ℕ × ℕ) × ℕ) × Bor (List ℕ) → Type 0 =
    λ q. IsStatusLine q.0.0.0 q.0.0.1 q.0.1 q.1.now bytes rest in
    let with_reason : (ℕ × ℕ) × ℕ → ((ℕ × ℕ) × ℕ) × Bor (List ℕ) = λ q. (q, r) in
    subst P (sym (out ∙ ap with_reason made)) (record {
      hundreds = a;
      tens = b;
      ones = c;
      behind = behind;
      splits = e ∙ ap (λ l. http ++ (digits v.0 v.1 ++ (32 ∷ l)))
          (f ∙ ap (λ l. three a b c ++ l) g);
      is_major = small;
      is_minor = less;
      is_code = is;
      is_behind = gap;
      is_reason = all;
    })

pub status_back : (bytes : List ℕ) (line : StatusLine) (rest : List ℕ)
    → StatusLineStands bytes line rest
    → (parts : ((ℕ × ℕ) × ℕ) × Bor (List ℕ)) × Steps ProtocolCode ReasonStands bytes parts rest
unfolding Both
status_back bytes line rest is =
    let end = is.behind ++ (line_end ++ rest) in
    let code = three is.hundreds is.tens is.ones ++ end in (
      (((line.major, line.minor), line.status), line.reason),
      (
        ((line.major, line.minor), line.status),
        line.reason,
        end,
        (
          (line.major, line.minor),
          line.status,
          code,
          (is.is_major, is.is_minor, is.splits),
          (is.hundreds, is.tens, is.ones, is.is_code, refl),
          refl,
        ),
        (is.behind, is.is_behind, is.is_reason, refl),
        refl,
      ),
    )

pub reason_unique : IsUnique ReasonStands
reason_unique =
    let (last, ends) = slice_for line_end in
    unique_by (reason_back last ends)
    (both_unique {O = Option (Bor (List ℕ))} (λ o _. o) (optional_unique
    (both_unique {O = Bor (List ℕ)} (λ _ text. text) (byte_unique 32) (run_unique IsValueByte 0)))
    (literal_unique last))

pub status_unique : IsUnique StatusLineStands
status_unique = unique_by status_back
    (both_unique {O = ((ℕ × ℕ) × ℕ) × Bor (List ℕ)} (λ parts reason. (parts, reason))
    protocol_code_unique reason_unique)
