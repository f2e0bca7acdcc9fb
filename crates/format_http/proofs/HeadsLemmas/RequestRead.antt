-- The grammar of the parsers of a request line matches request lines.
use Rattle.std.specs.Prelude.{◌≡◌, ◌≤◌, ◌↔◌, ◌+◌, ◌-◌, ℕ, Bool, IsTrue, List, ◌∷◌, ◌++◌}
use Rattle.std.specs.Borrow.{Bor}
use Rattle.std.proofs.Common.{refl, sym, ap, subst, ◌∙◌, arith}
use Rattle.format_http.specs.Heads.Bytes.{IsDigit, IsTokenByte, IsVisible, line_end}
use Rattle.format_http.proofs.HeadsLemmas.Parts.{Literal, literal_back, literal_there}
use Rattle.format_http.proofs.HeadsLemmas.Parts.{literal_unique}
use Rattle.format_http.proofs.HeadsLemmas.Parts.{run_back, run_there, run_unique}
use Rattle.format_http.specs.Heads.RequestLine.{IsRequestLine, RequestLineStands, digits, protocol}
use Rattle.format_http.specs.declared.heads.request_line.RequestLine.{RequestLine}
use Rattle.grammars.specs.Grammar.Same.{Same, unique_as}
use Rattle.winnow_grammar.specs.Steps.{Steps}
use Rattle.grammars.specs.Grammar.{Both, Grammar, IsUnique, Three, TokenOf}
use Rattle.grammars.specs.Grammar.Inversion.{Byte, byte_stands, byte_unique, slice_for, stands_byte}
use Rattle.grammars.specs.Grammar.Inversion.Sets.{stands_token_of, token_of_stands}
use Rattle.grammars.specs.Grammar.Sequences.{three_unique}
use Rattle.grammars.specs.Grammar.Unique.{both_unique, unique_by}
use Rattle.format_http.specs.Heads.Parts.{DigitStands, MethodTarget, Texts, VersionStands}
use Rattle.format_http.specs.Heads.Parts.{digit_unique}

-- ---- a digit

-- what a set of digits tells
abbrev Digits : {S : Type 0} → S → ℕ → Bool → Type 0
Digits set b answer = IsTrue answer ↔ IsDigit b

module _ {S : Type 0} (set : S) where
  pub digit_there : (d : ℕ) (bytes rest : List ℕ) → TokenOf (λ b. b) Digits set bytes d rest
      → DigitStands bytes (d - 48) rest
  digit_there d bytes rest x =
      let (told, e) = token_of_stands Digits set bytes d rest x in
      let (least, most) = told.0 refl in
      (omega (arith, least, most), e ∙ ap (λ n. n ∷ rest) (omega (arith, least)))

  pub digit_least : (d : ℕ) (bytes rest : List ℕ) → TokenOf (λ b. b) Digits set bytes d rest
      → 48 ≤ d
  digit_least d bytes rest x = ((token_of_stands Digits set bytes d rest x).0.0 refl).0

  pub digit_back : (bytes : List ℕ) (n : ℕ) (rest : List ℕ) → DigitStands bytes n rest
      → (d : ℕ) × TokenOf (λ b. b) Digits set bytes d rest
  digit_back bytes n rest (below, e) = (
    48 + n,
    stands_token_of Digits set bytes (48 + n) rest
        ((λ t. (omega arith, omega (arith, below))), (λ is. refl)) e,
  )

-- ---- a version, with the bytes around it

-- by `separated_pair(.., b'.', ..)`
abbrev pub Numbers : Grammar ℕ (ℕ × ℕ)
Numbers = Three (λ major _ minor. (major, minor)) DigitStands (Byte 46) DigitStands

-- by `delimited(b" HTTP/", .., b"\r\n")`
abbrev pub VersionRead : Bor (List ℕ) → Bor (List ℕ) → Grammar ℕ (ℕ × ℕ)
VersionRead first last = Three (λ _ numbers _. numbers) (Literal first) Numbers (Literal last)

module _ (first last : Bor (List ℕ)) (begins : first.now ≡ protocol) (ends : last.now ≡ line_end)
  where
    version_there : (bytes : List ℕ) (v : ℕ × ℕ) (rest : List ℕ)
        → VersionRead first last bytes v rest → VersionStands bytes v rest
    unfolding Three
    version_there bytes v rest
        (s, n, t, a, b, x, (major, dot, minor, c, d, (small, e), y, (less, f), out), z, g) =
        let P : ℕ × ℕ → Type 0 = λ w. VersionStands bytes w rest in
        subst P (sym (g ∙ out)) (
          small,
          less,
          literal_there first protocol bytes s a begins x
              ∙ ap (λ l. protocol ++ l) (e
              ∙ ap (λ l. (48 + major) ∷ l) ((byte_stands 46 c dot d y).0
              ∙ ap (λ l. 46 ∷ l) (f
              ∙ ap (λ l. (48 + minor) ∷ l) (literal_there last line_end b t rest ends z)))),
        )

    version_back : (bytes : List ℕ) (v : ℕ × ℕ) (rest : List ℕ) → VersionStands bytes v rest
        → VersionRead first last bytes v rest
    unfolding Three
    version_back bytes v rest (small, less, e) =
        let end = line_end ++ rest in
        let two = (48 + v.1) ∷ end in (
          first,
          v,
          last,
          digits v.0 v.1 ++ end,
          end,
          literal_back first protocol bytes (digits v.0 v.1 ++ end) begins e,
          (
            v.0,
            46,
            v.1,
            46 ∷ two,
            two,
            (small, refl),
            stands_byte 46 (46 ∷ two) two refl,
            (less, refl),
            refl,
          ),
          literal_back last line_end end rest ends refl,
          refl,
        )

    pub same_version : Same (VersionRead first last) VersionStands
    same_version = record { there = version_there; back = version_back }

pub numbers_unique : IsUnique Numbers
numbers_unique = three_unique {O = ℕ × ℕ} (λ major _ minor. (major, minor)) digit_unique
    (byte_unique 46) digit_unique

pub version_unique : IsUnique VersionStands
version_unique =
    let (first, is) = slice_for protocol in
    let (last, ends) = slice_for line_end in
    unique_as (same_version first last is ends)
    (three_unique {O = ℕ × ℕ} (λ _ numbers _. numbers) (literal_unique first) numbers_unique
    (literal_unique last))

-- ---- a request line

abbrev Parts : Type 0
Parts = Texts × (ℕ × ℕ)

-- by that, and after it the version
abbrev pub RequestRead : Grammar ℕ Parts
RequestRead = Steps MethodTarget VersionStands

pub request_there : (method target : Bor (List ℕ)) (major minor : ℕ) (bytes rest : List ℕ)
    → RequestRead bytes ((method, target), (major, minor)) rest
    → IsRequestLine method.now target.now major minor bytes rest
unfolding Both Three
request_there method target major minor bytes rest
    (o, v, mid, (m, space, t, a, b, x, y, z, made), (small, less, e), out) =
    let P : Parts → Type 0 = λ p. IsRequestLine p.0.0.now p.0.1.now p.1.0 p.1.1 bytes rest in
    let with_version : Texts → Parts = λ p. (p, v) in
    let is_method = run_there IsTokenByte 1 bytes m a x in
    let is_target = run_there IsVisible 1 b t mid z in
    subst P (sym (out ∙ ap with_version made)) (record {
      splits = is_method.splits
          ∙ ap (λ l. m.now ++ l) ((byte_stands 32 a space b y).0
          ∙ ap (λ l. 32 ∷ l) (is_target.splits ∙ ap (λ l. t.now ++ l) e));
      some_method = omega (arith, is_method.enough);
      is_method = is_method.members;
      some_target = omega (arith, is_target.enough);
      is_target = is_target.members;
      is_major = small;
      is_minor = less;
    })

pub request_back : (bytes : List ℕ) (line : RequestLine) (rest : List ℕ)
    → RequestLineStands bytes line rest → (parts : Parts) × RequestRead bytes parts rest
unfolding Both Three
request_back bytes line rest is =
    let version = protocol ++ (digits line.major line.minor ++ (line_end ++ rest)) in
    let target = line.target.now ++ version in (
      ((line.method, line.target), (line.major, line.minor)),
      (
        (line.method, line.target),
        (line.major, line.minor),
        version,
        (
          line.method,
          32,
          line.target,
          32 ∷ target,
          target,
          run_back IsTokenByte 1 bytes line.method (32 ∷ target) (record {
            splits = is.splits;
            members = is.is_method;
            enough = omega (arith, is.some_method);
            stops = λ t. omega (arith, t);
          }),
          stands_byte 32 (32 ∷ target) target refl,
          run_back IsVisible 1 target line.target version (record {
            splits = refl;
            members = is.is_target;
            enough = omega (arith, is.some_target);
            stops = λ t. omega (arith, t);
          }),
          refl,
        ),
        (is.is_major, is.is_minor, refl),
        refl,
      ),
    )

pub method_unique : IsUnique MethodTarget
method_unique = three_unique {O = Texts} (λ method _ target. (method, target))
    (run_unique IsTokenByte 1) (byte_unique 32) (run_unique IsVisible 1)

pub request_unique : IsUnique RequestLineStands
request_unique = unique_by request_back
    (both_unique {O = Parts} (λ parts version. (parts, version)) method_unique version_unique)
