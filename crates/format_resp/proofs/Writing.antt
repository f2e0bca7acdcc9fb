-- Lemmas about the bytes appended for replies, and about the errors of writing.
use Rattle.std.specs.Prelude.{◌≡◌, ◌≤◌, ◌<◌, ◌+◌, ◌/◌, ◌%◌, ◌^◌, ℕ, List, [], ◌∷◌}
use Rattle.std.specs.Prelude.{◌++◌, length}
use Rattle.std.specs.Prelude.{drop, take, slice_index_or, Contains, IfErr, OnOk, Result, zero, suc}
use Rattle.std.specs.Fmt.{decimal}
use Rattle.std.specs.Result.{IsErrAnd}
use Rattle.std.specs.declared.vec.Vec.{Vec}
use Rattle.std.proofs.Common.{refl, sym, ap, subst, ◌∙◌, append_assoc, inl, inr, arith}
use Rattle.std.proofs.Math.Seq.{take-append_seam}
use Rattle.std.proofs.lemmas.Fmt.{decimal_digit, decimal_step}
use Rattle.std.proofs.lemmas.List.{append-nil, drop_all, drop_more}
use Rattle.std.proofs.lemmas.Result.{IfErr-weaker, err_from_is_err_and, on_ok_weaker}
use Rattle.grammars.specs.Texts.{EachText, Text}
use Rattle.format_resp.proofs.Made.{first_mark_of_shape, shape_of_gathered}
use Rattle.format_resp.proofs.WrittenTexts.{Encodes, aggregate_text, written_text}
use Rattle.format_resp.specs.Resp.{ElementsIn, IsInProtocol, Replies, ReplyText, WrittenText}
use Rattle.format_resp.specs.Resp.{byte_of, element_count, first_mark, gathered}
use Rattle.format_resp.specs.Written.{Appends, IsDeeper, IsForeign, IsOrHas, IsPrefixOf, IsRefused}
use Rattle.format_resp.specs.Written.{IsRefusedAmong, IsRefusedAs, IsUnpaired, marked}
use Rattle.format_resp.specs.declared.marks.AggregateMark.{AggregateMark}
use Rattle.format_resp.specs.declared.marks.Mark.TheVariants.{Aggregate}
use Rattle.format_resp.specs.declared.reply.Protocol.{Protocol}
use Rattle.format_resp.specs.declared.write.WriteError.{WriteError}
use Rattle.format_resp.specs.declared.write.WriteError.TheVariants.{Foreign, Level, NoParts}
use Rattle.format_resp.specs.declared.write.WriteError.TheVariants.{OutOfMemory, Pairs}

pub prefix_trans : {before between after : List ℕ} → IsPrefixOf before between
    → IsPrefixOf between after
    → IsPrefixOf before after
prefix_trans {before} first second = record {
  more = first.more ++ second.more;
  behind = second.behind ∙ ap (λ l. l ++ second.more) first.behind
      ∙ append_assoc before first.more second.more;
}

-- what is put in two parts
pub put_two : (before : List ℕ) {between after : List ℕ} (xs ys : List ℕ) → between ≡ before ++ xs
    → after ≡ between ++ ys → after ≡ before ++ (xs ++ ys)
put_two before xs ys e f = f ∙ ap (λ l. l ++ ys) e ∙ append_assoc before xs ys

pub err_satisfies : {T E : Type 0} (P : E → Type 0) (result : Result T E) (e : E)
    → IsErrAnd result (λ x. x ≡ e) → P e → IfErr result P
err_satisfies {T} {E} P result e is p =
    let (x, same, there) = err_from_is_err_and result is in
    subst (λ r. IfErr r P) (sym same) (subst P (sym there) p)

-- what was put is all that is there after
pub adds : {O : Type 0} {text : Text ℕ O} {o : O} {before after : List ℕ} (tokens : List ℕ)
    → text o tokens → after ≡ before ++ tokens → Appends text o before after
adds tokens is e = record { tokens = tokens; is = is; behind = e }

pub one_more : {O : Type 0} (os : List O) (k : ℕ) (o : O) → k < length os
    → o ≡ slice_index_or os k o → drop k os ≡ o ∷ drop (k + 1) os
one_more os k o below is = drop_more os k o below ∙ ap (λ p. p ∷ drop (k + 1) os) (sym is)

-- one more element
pub row_more : {O : Type 0} {text : Text ℕ O} (os : List O) (k : ℕ) (o : O)
    {before between after : List ℕ} → k < length os → o ≡ slice_index_or os k o
    → Appends text o before between → Appends (EachText text) (drop (k + 1) os) between after
    → Appends (EachText text) (drop k os) before after
unfolding EachText
row_more {O} {text} os k o {before} {between} {after} below is one more =
    let P : List O → Type 0 = λ l. Appends (EachText text) l before after in
    subst P (sym (one_more os k o below is)) (record {
      tokens = one.tokens ++ more.tokens;
      is = (one.tokens, more.tokens, one.is, more.is, refl);
      behind = put_two before one.tokens more.tokens one.behind more.behind;
    })

-- no more
pub row_end : {O : Type 0} (text : Text ℕ O) (os : List O) (k : ℕ) (bytes : List ℕ)
    → length os ≤ k → Appends (EachText text) (drop k os) bytes bytes
unfolding EachText
row_end {O} text os k bytes most =
    subst (λ l. Appends (EachText text) l bytes bytes) (sym (drop_all k os most))
    (record { tokens = []; is = refl; behind = sym (append-nil bytes) })

-- an element is among all
pub among : {O : Type 0} (os : List O) (k : ℕ) (o : O) → k < length os
    → o ≡ slice_index_or os k o → Contains os o
among os k o below is = (k, below, sym is)

-- the digits of a number, by those of its quotient by ten
pub digits_more : (n : ℕ) (before : List ℕ) {between after : List ℕ} → 10 ≤ n → n < 2 ^ 64
    → between ≡ before ++ decimal (n / 10) → after ≡ between ++ (48 + n % 10) ∷ []
    → after ≡ before ++ decimal n
digits_more n before low high e f =
    put_two before (decimal (n / 10)) ((48 + n % 10) ∷ []) e f
    ∙ ap (λ l. before ++ l) (sym (decimal_step n low high))

pub digit_alone : (n : ℕ) (before : List ℕ) {after : List ℕ} → n < 10
    → after ≡ before ++ (48 + n) ∷ [] → after ≡ before ++ decimal n
digit_alone n before small e = e ∙ ap (λ l. before ++ l) (sym (decimal_digit n small))

pub cut_back : {n : ℕ} {before after cut : List ℕ} → IsPrefixOf before after → n ≡ length before
    → cut ≡ take n after → cut ≡ before
cut_back {n} {before} {after} kept element_count e =
    e ∙ ap (λ k. take k after) element_count ∙ ap (λ l. take (length before) l) kept.behind
    ∙ take-append_seam before kept.more

-- ---- what is put

-- bytes that are written if they are valid
pub valid_put : {A T P : Type 0} (protocol : Protocol) (level : ℕ) (reply : Replies A)
    (before after xs : List ℕ) → IsInProtocol protocol (first_mark reply)
    → (P → Encodes protocol level reply xs) → (result : Result T WriteError)
    → OnOk result (P × (after ≡ before ++ xs))
    → OnOk result (Appends (WrittenText protocol level) reply before after)
valid_put protocol level reply before after xs within text result =
    on_ok_weaker result (λ (is, e). adds xs (text is within) e)

-- the size of an aggregate, and its elements
pub aggregate_put : {A : Type 0} (protocol : Protocol) (mark : AggregateMark) (size below : ℕ)
    {level : ℕ} (list : Vec (Replies A) A) {items : List (Replies A)} {byte : ℕ}
    {before between after : List ℕ} → IsInProtocol protocol (Aggregate mark) → items ≡ list.items
    → length list.items ≡ element_count mark size → level ≡ below + 1
    → byte ≡ byte_of (Aggregate mark)
    → between ≡ before ++ marked byte (decimal size)
    → Appends (EachText (WrittenText protocol below)) items between after
    → Appends (WrittenText protocol level) (gathered mark list) before after
unfolding ElementsIn
aggregate_put {A} protocol mark size below {level} list {before = before} {after = after} within
    same count is first e added =
    let P : ℕ → Type 0 = λ l. Appends (WrittenText protocol l) (gathered mark list) before after in
    let Q : List (Replies A) → Type 0 = λ l. EachText (WrittenText protocol below) l added.tokens in
    let f : level ≡ suc below = omega (arith, is) in
    let head = marked (byte_of (Aggregate mark)) (decimal size) in
    let shape = shape_of_gathered mark list refl in
    subst P (sym f) (adds (head ++ added.tokens)
    (aggregate_text protocol (suc below) (gathered mark list) mark size list added.tokens shape
    count (subst Q same added.is)
    (subst (IsInProtocol protocol) (sym (first_mark_of_shape _ shape)) within))
    (put_two before head added.tokens (e ∙ ap (λ b. before ++ marked b (decimal size)) first)
    added.behind))

pub adds_text : {A : Type 0} (protocol : Protocol) (level : ℕ) {reply : Replies A}
    {before after : List ℕ}
    → Appends (WrittenText protocol level) reply before after
    → Appends (ReplyText protocol level) reply before after
adds_text protocol level {reply} added = record {
  tokens = added.tokens;
  is = written_text protocol level reply added.tokens added.is;
  behind = added.behind;
}

-- ---- what is not written

module _ {A : Type 0} where
  pub or_itself : (such : Replies A → Type 0) (level : ℕ) {reply : Replies A} → such reply
      → IsOrHas such level reply
  unfolding IsOrHas
  or_itself such zero is = is
  or_itself such (suc level) is = inl is

  or_within : (such : Replies A → Type 0) (below : ℕ) (mark : AggregateMark)
      (list : Vec (Replies A) A) (element : Replies A) → Contains list.items element
      → IsOrHas such below element → IsOrHas such (suc below) (gathered mark list)
  unfolding IsOrHas
  or_within such below mark list element among is =
      inr (mark, list, shape_of_gathered mark list refl, element, among, is)

module _ {A : Type 0} (protocol : Protocol) where
  -- an error with its reason
  pub as_error : {T P : Type 0} (level : ℕ) (reply : Replies A) (error : WriteError)
      → ((P → ⊥) → IsRefused protocol level reply error) → (result : Result T WriteError)
      → IfErr result (IsRefusedAs error P) → IfErr result (IsRefused protocol level reply)
  as_error {P = P} level reply error why result = IfErr-weaker result (IsRefusedAs error P)
      (IsRefused protocol level reply) (by_error level reply error P why)
    where
      by_error : (level : ℕ) (reply : Replies A) (error : WriteError) (P : Type 0)
          → ((P → ⊥) → IsRefused protocol level reply error) → (e : WriteError)
          → IsRefusedAs error P e → IsRefused protocol level reply e
      by_error level reply error P why e (inl memory) =
          subst (IsRefused protocol level reply) (sym memory) tt
      by_error level reply error P why e (inr (is, not)) =
          subst (IsRefused protocol level reply) (sym is) (why not)

  pub refused_foreign : (level : ℕ) (reply : Replies A) → IsForeign protocol reply
      → IsRefused protocol level reply Foreign
  refused_foreign level reply = or_itself (IsForeign protocol) level

  -- ---- aggregates

  -- no aggregate has as many replies
  pub refused_count : (level : ℕ) (mark : AggregateMark) (list : Vec (Replies A) A) {count : ℕ}
      → count ≡ length list.items → ((size : ℕ) → count ≡ element_count mark size → ⊥)
      → IsRefused protocol level (gathered mark list) Pairs
  refused_count level mark list many_are none =
      or_itself IsUnpaired level
      (mark, list, shape_of_gathered mark list refl, (λ size e. none size (many_are ∙ e)))

  -- at level 0 each aggregate is too deep
  pub deep_aggregate : {level : ℕ} (mark : AggregateMark) (list : Vec (Replies A) A) → level ≡ 0
      → IsRefused protocol level (gathered mark list) Level
  unfolding IsDeeper
  deep_aggregate mark list is =
      subst (λ l. IsDeeper l (gathered mark list)) (sym is)
      (mark, list, shape_of_gathered mark list refl)

  in_element : (below : ℕ) (mark : AggregateMark) (list : Vec (Replies A) A) (e : WriteError)
      → IsRefusedAmong protocol below list.items e
      → IsRefused protocol (suc below) (gathered mark list) e
  unfolding IsDeeper
  in_element below mark list e (inl memory) =
      subst (IsRefused protocol (suc below) (gathered mark list)) (sym memory) tt
  in_element below mark list NoParts (inr (reply, among, is)) = absurd is
  in_element below mark list Level (inr (reply, among, is)) =
      (mark, list, shape_of_gathered mark list refl, reply, among, is)
  in_element below mark list OutOfMemory (inr (reply, among, is)) = tt
  in_element below mark list e (inr (reply, among, is)) =
      or_within _ below mark list reply among is

  -- an aggregate cannot be written if one of its elements cannot be written
  pub refused_within : (below : ℕ) {level : ℕ} (mark : AggregateMark) (list : Vec (Replies A) A)
      {items : List (Replies A)} (e : WriteError) → items ≡ list.items → level ≡ below + 1
      → IsRefusedAmong protocol below items e → IsRefused protocol level (gathered mark list) e
  refused_within below {level} mark list e same is among =
      let f : level ≡ suc below = omega (arith, is) in
      subst (λ l. IsRefused protocol l (gathered mark list) e) (sym f)
      (in_element below mark list e (rw same at among))
