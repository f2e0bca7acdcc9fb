-- Lemmas about bytes for which a vector has no room.
use Rattle.std.specs.Prelude.{◌≡◌, ◌≤◌, ◌<◌, ◌+◌, ◌++◌, ◌^◌, ℕ, suc, List, [], ◌∷◌, Result}
use Rattle.std.specs.Prelude.{◌/◌, ◌%◌, Ok, Err, IfErr, OnErr, drop, length}
use Rattle.std.specs.Prelude.{slice_index_or, vec_capacity}
use Rattle.std.specs.Borrow.{Bor}
use Rattle.std.specs.Fmt.{decimal}
use Rattle.std.specs.declared.vec.Vec.{Vec}
use Rattle.std.proofs.Common.{ap, arith, refl, subst, sym, ◌∙◌}
use Rattle.std.proofs.lemmas.Fmt.{decimal_digit, decimal_step}
use Rattle.std.proofs.lemmas.List.{drop_more, length-append}
use Rattle.std.proofs.lemmas.Result.{IfErr-weaker}
use Rattle.grammars.specs.Texts.{EachText, Text}
use Rattle.format_resp.proofs.Made.{shape_of_gathered}
use Rattle.format_resp.proofs.OnlyTexts.{IsOnly, written_only}
use Rattle.format_resp.proofs.Refusals.{Sound, led_sound}
use Rattle.format_resp.proofs.Writing.{one_more}
use Rattle.format_resp.proofs.WrittenTexts.{Encodes, aggregate_text}
use Rattle.format_resp.specs.Resp.{ElementsIn, Replies, Shortest, WrittenText, byte_of}
use Rattle.format_resp.specs.Resp.{element_count, gathered}
use Rattle.format_resp.specs.Written.{Appends, LacksRoom, OutOfMemoryOnlyIfFullForEach}
use Rattle.format_resp.specs.Written.{OutOfMemoryOnlyWith, bulks_of, data_of, marked}
use Rattle.format_resp.specs.declared.marks.AggregateMark.{AggregateMark}
use Rattle.format_resp.specs.declared.marks.Mark.TheVariants.{Aggregate}
use Rattle.format_resp.specs.declared.reply.Protocol.{Protocol}
use Rattle.format_resp.specs.declared.write.WriteError.{WriteError}

pub on_err : {X E P : Type 0} (r : Result X E) → P → OnErr r P
on_err (Ok x) p = tt
on_err (Err e) p = p

-- a part where there is none
abbrev pub none : Bor (List ℕ)
none = record { ref_ptr = (0, 0); now = [] }

-- ---- parts

module _ {B : Type 0} where
  -- no room for the first bytes
  pub lacks_first : (v : Vec ℕ B) (xs ys : List ℕ) → LacksRoom v xs → LacksRoom v (xs ++ ys)
  lacks_first v xs ys full = omega (arith, full, length-append xs ys)

  -- no room for bytes that end the same
  pub lacks_ending : (v w : Vec ℕ B) (xs ys : List ℕ) → w.items ++ xs ≡ v.items ++ ys
      → vec_capacity v ≤ vec_capacity w → LacksRoom w xs → LacksRoom v ys
  lacks_ending v w xs ys e room full =
      let many : length w.items + length xs ≡ length v.items + length ys =
      sym (length-append w.items xs) ∙ ap (λ l. length l) e ∙ length-append v.items ys in
      omega (arith, full, room, many, v.ok.0, w.ok.0)

  -- no room for the bytes after the first
  pub lacks_behind : (v w : Vec ℕ B) (xs ys : List ℕ) → w.items ≡ v.items ++ xs
      → vec_capacity v ≤ vec_capacity w → LacksRoom w ys → LacksRoom v (xs ++ ys)
  lacks_behind v w xs ys e room full =
      let many : length w.items ≡ length v.items + length xs =
      ap (λ l. length l) e ∙ length-append v.items xs in
      omega (arith, full, room, many, v.ok.0, w.ok.0, length-append xs ys)

  -- no room for the first digits of a number, or for the last
  pub digits_first : (v : Vec ℕ B) (n : ℕ) → 10 ≤ n → n < 2 ^ 64 → LacksRoom v (decimal (n / 10))
      → LacksRoom v (decimal n)
  digits_first v n low high full = subst (λ l. LacksRoom v l) (sym (decimal_step n low high))
      (lacks_first v (decimal (n / 10)) ((48 + n % 10) ∷ []) full)

  pub digits_last : (v w : Vec ℕ B) (n : ℕ) → 10 ≤ n → n < 2 ^ 64
      → w.items ≡ v.items ++ decimal (n / 10) → vec_capacity v ≤ vec_capacity w
      → LacksRoom w ((48 + n % 10) ∷ []) → LacksRoom v (decimal n)
  digits_last v w n low high e room full =
      subst (λ l. LacksRoom v l) (sym (decimal_step n low high))
      (lacks_behind v w (decimal (n / 10)) ((48 + n % 10) ∷ []) e room full)

  pub digit_lacks : (v : Vec ℕ B) (n : ℕ) → n < 10 → LacksRoom v ((48 + n) ∷ [])
      → LacksRoom v (decimal n)
  digit_lacks v n small full = subst (λ l. LacksRoom v l) (sym (decimal_digit n small)) full

  -- no room for a bulk string, which others follow
  pub lacks_bulk : (v : Vec ℕ B) (parts : List (Bor (List ℕ))) (k : ℕ) (part : List ℕ)
      → k < length parts → part ≡ (slice_index_or parts k none).now → LacksRoom v (data_of 36 part)
      → LacksRoom v (bulks_of (drop k parts))
  lacks_bulk v parts k part below is full =
      subst (λ l. LacksRoom v (bulks_of l)) (sym (drop_more parts k none below))
      (lacks_first v (data_of 36 (slice_index_or parts k none).now) (bulks_of (drop (k + 1) parts))
      (subst (λ l. LacksRoom v (data_of 36 l)) is full))

-- ---- encodings

-- no room for an encoding of the value
abbrev pub LacksFor : {O B : Type 0} → Text ℕ O → O → Vec ℕ B → Type 0
LacksFor text o into = (tokens : List ℕ) → text o tokens → LacksRoom into tokens

module _ {O B T : Type 0} (text : Text ℕ O) (o : O) (into : Vec ℕ B) (result : Result T WriteError)
  where
    pub full_err : LacksFor text o into → IfErr result (OutOfMemoryOnlyIfFullForEach text o into)
    full_err = if_err text o into result
      where
        if_err : {O B T : Type 0} (text : Text ℕ O) (o : O) (into : Vec ℕ B)
            (result : Result T WriteError) → LacksFor text o into
            → IfErr result (OutOfMemoryOnlyIfFullForEach text o into)
        if_err text o into (Ok x) full = tt
        if_err text o into (Err e) full = λ is. full

module _ {O B : Type 0} (text : Text ℕ O) (os : List O) (k : ℕ) (o : O) (below : k < length os)
    (is : o ≡ slice_index_or os k o) where
  -- of an element, which others follow
  pub row_first : (v : Vec ℕ B) → LacksFor text o v → LacksFor (EachText text) (drop k os) v
  unfolding EachText
  row_first v full = subst (λ l. LacksFor (EachText text) l v) (sym (one_more os k o below is))
      (λ tokens (xs, ys, a, row, e).
      subst (λ l. LacksRoom v l) (sym e) (lacks_first v xs ys (full xs a)))

  -- of the elements after one that was appended
  pub row_behind : IsOnly text → (v w : Vec ℕ B) → Appends text o v.items w.items
      → vec_capacity v ≤ vec_capacity w → LacksFor (EachText text) (drop (k + 1) os) w
      → LacksFor (EachText text) (drop k os) v
  unfolding EachText
  row_behind only v w added room full =
      subst (λ l. LacksFor (EachText text) l v) (sym (one_more os k o below is))
      (λ tokens (xs, ys, a, row, e).
      let put = added.behind ∙ ap (λ l. v.items ++ l) (only o added.tokens xs added.is a) in
      subst (λ l. LacksRoom v l) (sym e) (lacks_behind v w xs ys put room (full ys row)))

-- of a reply with this encoding
pub text_full : {A B : Type 0} (protocol : Protocol) (level : ℕ) (reply : Replies A)
    (into : Vec ℕ B) (xs : List ℕ) → Encodes protocol level reply xs → LacksRoom into xs
    → LacksFor (WrittenText protocol level) reply into
text_full protocol level reply into xs text full tokens is =
    subst (λ l. LacksRoom into l) (written_only protocol level reply xs tokens
    (text (led_sound (ElementsIn Shortest protocol level) Shortest protocol reply tokens is).0) is)
    full

-- why writing a reply with this encoding is out of memory
module _ {A B T : Type 0} (protocol : Protocol) (level : ℕ) (reply : Replies A) (into : Vec ℕ B)
    (result : Result T WriteError) where
  abbrev IsFull : Type 0
  IsFull = IfErr result (OutOfMemoryOnlyIfFullForEach (WrittenText protocol level) reply into)

  pub text_err : (xs : List ℕ) → Encodes protocol level reply xs → LacksRoom into xs → IsFull
  text_err xs text full = full_err (WrittenText protocol level) reply into result
      (text_full protocol level reply into xs text full)

  -- bytes that are written if they are valid
  pub valid_full : {P : Type 0} (xs : List ℕ) → (P → Encodes protocol level reply xs)
      → IfErr result (OutOfMemoryOnlyWith P into xs) → IsFull
  valid_full {P} xs text = IfErr-weaker result (OutOfMemoryOnlyWith P into xs)
      (OutOfMemoryOnlyIfFullForEach (WrittenText protocol level) reply into)
      (λ e full is. text_full protocol level reply into xs (text (full is).0) (full is).1)

-- of an aggregate, by those of its elements
pub aggregate_full : {A B : Type 0} (protocol : Protocol) (mark : AggregateMark) (size below : ℕ)
    {level byte : ℕ} (list : Vec (Replies A) A) (into : Vec ℕ B)
    → length list.items ≡ element_count mark size → level ≡ below + 1
    → byte ≡ byte_of (Aggregate mark)
    → ((ys : List ℕ) → EachText (WrittenText protocol below) list.items ys
    → LacksRoom into (marked byte (decimal size) ++ ys))
    → LacksFor (WrittenText protocol level) (gathered mark list) into
unfolding ElementsIn
aggregate_full {A} protocol mark size below {level} list into count is first full =
    let elements = ElementsIn Shortest protocol {A = A} (suc below) in
    let reply = gathered mark list in
    let shape = shape_of_gathered mark list refl in
    let same : suc below ≡ level = omega (arith, is) in
    subst (λ l. LacksFor (WrittenText protocol l) reply into) same (λ tokens text.
    let (sizes, (ys, are)) = subst (λ s. Sound elements s) shape
    (led_sound elements Shortest protocol reply tokens text).1 in
    text_full protocol (suc below) reply into
    (marked (byte_of (Aggregate mark)) (decimal size) ++ ys)
    (aggregate_text protocol (suc below) reply mark size list ys shape count are)
    (subst (λ b. LacksRoom into (marked b (decimal size) ++ ys)) first (full ys are)) tokens text)
