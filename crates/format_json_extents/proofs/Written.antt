-- Sets of texts that consist of the encodings of values.
use Rattle.std.proofs.Common.{◌++◌, ◌+◌, ◌<◌, ◌^◌, ◌∙◌, ◌∷◌, ◌≡◌, ◌≤◌, ◌⊎◌, [], ℕ}
use Rattle.std.proofs.Common.{List, None, Option, Some, ap, append_assoc, arith, inl, inr, length}
use Rattle.std.proofs.Common.{length-append, refl, subst, sym, true}
use Rattle.std.specs.Borrow.{Bor}
use Rattle.std.specs.List.{All}
use Rattle.std.specs.Str.{all_scalars, encode_utf8_all}
use Rattle.std.proofs.lemmas.List.Elements.{All-cons, All-head, All-tail, All-weaker}
use Rattle.std.proofs.lemmas.Str.{encodes-append}
use Rattle.format_json_extents.proofs.Characters.{IsAscii, Spelling, all_in, and_true, ascii_prefix}
use Rattle.format_json_extents.proofs.Characters.{both_true, byte_in, low_on, then_in}
use Rattle.format_json_extents.proofs.Matching.{one_byte_text, then_of_parts}
use Rattle.format_json_extents.specs.Texts.{Either, IsByte, Maybe, Then}
use Rattle.format_parts.specs.Words.{For, In, One, Run}
use Rattle.streams.specs.Text.{text_reading}
use Rattle.grammars.specs.Texts.{BothText as Both, EitherText, MadeText, OptionalText, Spelled}
use Rattle.grammars.specs.Texts.{TakenText, Text}
pub mod Brackets
pub mod Escapes
pub mod Numbers
pub mod Strings
pub mod Units
pub mod Values

-- Characters whose bytes fit a string, and what allocates it.
pub record Fits (A : Type 0) (cs : List ℕ) : Type 0 where
  pub alloc : A
  pub scalars : all_scalars cs ≡ true
  pub few : length (encode_utf8_all cs) < 2 ^ 63

-- `Encoded text cs rest`: the characters `cs` start with an encoding of a value, and `rest` is the
-- bytes of the others.
pub record Encoded {O : Type 0} (text : Text ℕ O) (cs rest : List ℕ) : Type 0 where
  pub first : List ℕ
  pub second : List ℕ
  pub output : O
  pub splits : cs ≡ first ++ second
  pub rest_of : encode_utf8_all second ≡ rest
  pub written : text output first

-- Encodings are in `P`, spelled as characters or in bytes; and if bytes in `P` are a prefix of
-- UTF-8, they are an encoding.
pub record Written {O : Type 0} (A : Type 0) (P : List ℕ → Type 0) (text : Text ℕ O) : Type 0 where
  pub set : (e : Spelling) (o : O) (cs : List ℕ) → text o cs → P (e.on cs)
  pub value : (cs front rest : List ℕ) → Fits A cs → P front → encode_utf8_all cs ≡ front ++ rest
      → Encoded text cs rest

-- ---- characters that fit

pub scalars_parts : (xs ys : List ℕ) → all_scalars (xs ++ ys) ≡ true
    → (all_scalars xs ≡ true) × (all_scalars ys ≡ true)
scalars_parts [] ys h = (refl, h)
scalars_parts (x ∷ xs) ys h =
    let (one, more) = both_true _ (all_scalars (xs ++ ys)) h in
    let (front, rest) =
    scalars_parts xs ys more in (and_true _ (all_scalars xs) one front, rest)

pub fit_parts : {A : Type 0} (cs xs ys : List ℕ) → cs ≡ xs ++ ys → Fits A cs → Fits A xs × Fits A ys
fit_parts cs xs ys e fits =
    let (one, two) = scalars_parts xs ys
    (let P : List ℕ → Type 0 = λ l. all_scalars l ≡ true in subst P e fits.scalars) in
    let size : length (encode_utf8_all xs) + length (encode_utf8_all ys)
    ≡ length (encode_utf8_all cs) =
    sym (ap (λ l. length (encode_utf8_all l)) e ∙ ap (λ l. length l) (encodes-append xs ys)
    ∙ length-append (encode_utf8_all xs) (encode_utf8_all ys)) in (
      record { alloc = fits.alloc; scalars = one; few = omega (arith, size, fits.few) },
      record { alloc = fits.alloc; scalars = two; few = omega (arith, size, fits.few) },
    )

-- ---- texts of texts

pub encoded : {O : Type 0} {text : Text ℕ O} {cs rest : List ℕ} (first second : List ℕ) (o : O)
    → text o first → cs ≡ first ++ second → encode_utf8_all second ≡ rest → Encoded text cs rest
encoded first second o x e f = record {
  first = first;
  second = second;
  output = o;
  splits = e;
  rest_of = f;
  written = x;
}

encoded_to : {O U : Type 0} {text : Text ℕ O} {other : Text ℕ U} {cs rest : List ℕ}
    → (v : Encoded text cs rest) → (u : U) → other u v.first → Encoded other cs rest
encoded_to v u x = encoded v.first v.second u x v.splits v.rest_of

pub then_written : {A O1 O2 O : Type 0} (output : O1 → O2 → O) {P Q : List ℕ → Type 0}
    {first : Text ℕ O1} {second : Text ℕ O2} → Written A P first → Written A Q second
    → Written A (Then P Q) (Both output first second)
unfolding Both
then_written output p q = record {
  set = λ e o cs (a, b, xs, ys, x, y, f, out).
      then_of_parts (e.on xs) (e.on ys) (p.set e a xs x) (q.set e b ys y)
      (ap e.on f ∙ e.joins xs ys);
  value = λ cs front rest fits is f.
      let u = p.value cs is.first (is.second ++ rest) fits is.is_first
      (f ∙ ap (λ l. l ++ rest) is.joins ∙ append_assoc is.first is.second rest) in
      let v = q.value u.second is.second rest (fit_parts cs u.first u.second u.splits fits).1
      is.is_second u.rest_of in
      encoded (u.first ++ v.first) v.second (output u.output v.output)
      (u.output, v.output, u.first, v.first, u.written, v.written, refl, refl)
      (simp (u.splits, v.splits, append_assoc)) v.rest_of;
}

pub either_written : {A O : Type 0} {P Q : List ℕ → Type 0} {first second : Text ℕ O}
    → Written A P first → Written A Q second → Written A (Either P Q) (EitherText first second)
unfolding EitherText
either_written {A} {O} {P} {Q} {first} {second} p q = record { set = set; value = value }
  where
    set : (e : Spelling) (o : O) (cs : List ℕ) → first o cs ⊎ second o cs → Either P Q (e.on cs)
    set e o cs (inl x) = inl (p.set e o cs x)
    set e o cs (inr x) = inr (q.set e o cs x)

    value : (cs front rest : List ℕ) → Fits A cs → Either P Q front
        → encode_utf8_all cs ≡ front ++ rest → Encoded (EitherText first second) cs rest
    value cs front rest fits (inl is) f =
        let v = p.value cs front rest fits is f in encoded_to v v.output (inl v.written)
    value cs front rest fits (inr is) f =
        let v = q.value cs front rest fits is f in encoded_to v v.output (inr v.written)

pub maybe_written : {A O : Type 0} {P : List ℕ → Type 0} {text : Text ℕ O} → Written A P text
    → Written A (Maybe P) (OptionalText text)
unfolding OptionalText
maybe_written {A} {O} {P} {text} p = record { set = set; value = value }
  where
    set : (e : Spelling) (o : Option O) (cs : List ℕ) → OptionalText text o cs → Maybe P (e.on cs)
    set e None cs f = inl (ap e.on f ∙ e.nothing)
    set e (Some o) cs x = inr (p.set e o cs x)

    value : (cs front rest : List ℕ) → Fits A cs → Maybe P front
        → encode_utf8_all cs ≡ front ++ rest → Encoded (OptionalText text) cs rest
    value cs front rest fits (inl e) f =
        encoded [] cs None refl refl (f ∙ ap (λ l. l ++ rest) e)
    value cs front rest fits (inr is) f =
        let v = p.value cs front rest fits is f in encoded_to v (Some v.output) v.written

-- where each of these values means another
pub for_written : {A O U : Type 0} (means : O → U → Type 0) {P : List ℕ → Type 0} {text : Text ℕ O}
    → Written A P text
    → ((o : O) (cs : List ℕ) → Fits A cs → text o cs → (u : U) × means o u)
    → Written A P (For means text)
unfolding MadeText
for_written means p meant = record {
  set = λ e u cs (o, x, is). p.set e o cs x;
  value = λ cs front rest fits is f.
      let v = p.value cs front rest fits is f in
      let (u, m) = meant v.output v.first (fit_parts cs v.first v.second v.splits fits).0
      v.written in
      encoded_to v u (v.output, v.written, m);
}

slice_of : (cs : List ℕ) → (slice : Bor (List ℕ)) × text_reading.shows slice cs
slice_of cs = (record { ref_ptr = (0, 0); now = encode_utf8_all cs }, refl)

pub shown_written : {A O : Type 0} {P : List ℕ → Type 0} {text : Text ℕ O} → Written A P text
    → Written A P (TakenText text_reading text)
unfolding TakenText
shown_written p = record {
  set = λ e slice cs (o, x, shown). p.set e o cs x;
  value = λ cs front rest fits is f.
      let v = p.value cs front rest fits is f in let (slice, shown) = slice_of v.first in
      encoded_to v slice (v.output, v.written, shown);
}

-- ---- characters of ASCII

pub low_written : {A O : Type 0} {P : List ℕ → Type 0} {text : Text ℕ O} → IsAscii P
    → ((o : O) (cs : List ℕ) → text o cs → P cs) → ((cs : List ℕ) → P cs → (o : O) × text o cs)
    → Written A P text
low_written {P = P} low set value = record {
  set = λ e o cs x.
      let is = set o cs x in subst P (sym (low_on e cs (low.each cs is))) is;
  value = λ cs front rest fits is f.
      let (es, g, h) = ascii_prefix front cs rest (low.each front is) f in
      let (o, x) = value front is in encoded front es o x g h;
}

pub one_written : {A : Type 0} (c : ℕ) → c < 128 → Written A (IsByte (λ b. b ≡ c)) (One c)
unfolding Spelled
one_written c low =
    low_written (byte_in (λ b. b ≡ c) (λ b e. omega (arith, e, low)))
    (λ o cs (is, e). one_byte_text refl e)
    (λ cs is. (c, (refl, is.alone ∙ ap (λ b. b ∷ []) is.is_byte)))

pub in_written : {A : Type 0} (P : ℕ → Type 0) → ((b : ℕ) → P b → b < 128)
    → Written A (IsByte P) (In P)
unfolding In
in_written P low =
    low_written (byte_in P low) (λ o cs (is, e). one_byte_text is e)
    (λ cs is. (is.byte, (is.is_byte, is.alone)))

-- of a set of which another has the same members
pub run_written : {A : Type 0} (P Q : ℕ → Type 0) → ((b : ℕ) → P b → b < 128)
    → ((c : ℕ) → P c → Q c) → ((c : ℕ) → Q c → P c) → Written A (All P) (Run Q 0)
unfolding Run
run_written P Q low there back =
    low_written (all_in P low) (λ slice cs (all, enough, shown). All-weaker Q P back cs all)
    (λ cs all.
    let (slice, shown) = slice_of cs in
    (slice, (All-weaker P Q there cs all, omega arith, shown)))

-- one at least
pub run_one_written : {A : Type 0} (P : ℕ → Type 0) → ((b : ℕ) → P b → b < 128)
    → Written A (Then (IsByte P) (All P)) (Run P 1)
unfolding Run
run_one_written P low =
    low_written (then_in (byte_in P low) (all_in P low))
    (λ slice cs (all, enough, shown). some cs all enough)
    (λ cs is.
    let e : cs ≡ is.is_first.byte ∷ is.second =
    is.joins ∙ ap (λ l. l ++ is.second) is.is_first.alone in
    let (slice, shown) = slice_of cs in (
      slice,
      (
        subst (All P) (sym e)
            (All-cons P is.is_first.byte is.second is.is_first.is_byte is.is_second),
        omega (arith, ap (λ l. length l) e),
        shown,
      ),
    ))
  where
    some : (cs : List ℕ) → All P cs → 1 ≤ length cs → Then (IsByte P) (All P) cs
    some [] all enough = absurd (omega (arith, enough))
    some (c ∷ cs) all enough =
        then_of_parts (c ∷ []) cs (one_byte_text (All-head P c cs all) refl)
        (All-tail P c cs all) refl
