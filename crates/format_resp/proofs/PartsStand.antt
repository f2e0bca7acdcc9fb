-- Proofs that the parts of a reply are at the positions that its definition gives.
use Rattle.std.specs.Prelude.{◌≡◌, ℕ, List, [], ◌∷◌, ◌++◌, Option, None, Some, zero, suc}
use Rattle.std.specs.Borrow.{Bor}
use Rattle.std.specs.List.{AllByRecursion}
use Rattle.std.proofs.Common.{◌∙◌, ap, append_assoc, arith, refl, subst, sym}
use Rattle.winnow_grammar.specs.InTurn.{First, Led}
use Rattle.grammars.specs.Texts.{CountedText}
use Rattle.format_resp.proofs.LineTexts.{size_plain}
use Rattle.format_resp.specs.Parts.{HasElements, IsBehindFeed, IsLine, NoFeed, StandsAs, StandsBy}
use Rattle.format_resp.specs.Resp.{Any, Body, Content, DataText, Elements, ElementsIn, WithLineEnd}
use Rattle.format_resp.specs.Resp.{IsLineByte, LineContents, MarkText, UnrolledReply, Replies}
use Rattle.format_resp.specs.Resp.{ReplyText, Shown, SizeText, byte_of, line_end, shape_of}
use Rattle.format_resp.specs.Resp.{AfterSize}
use Rattle.format_resp.specs.declared.marks.AggregateMark.TheVariants.{Star}
use Rattle.format_resp.specs.declared.marks.DataMark.TheVariants.{Dollar}
use Rattle.format_resp.specs.declared.marks.LineMark.{LineMark}
use Rattle.format_resp.specs.declared.marks.LineMark.TheVariants.{Colon, Hash, Plus, Underscore}
use Rattle.format_resp.specs.declared.marks.Mark.{Mark}
use Rattle.format_resp.specs.declared.marks.Mark.TheVariants.{Aggregate, Data, Line}
use Rattle.format_resp.specs.declared.reply.Protocol.{Protocol}
use Rattle.format_resp.specs.declared.reply.Reply.{out-Reply}

-- ---- lines

plain_line : (mark : ℕ) (xs : List ℕ) → (mark ≡ 10 → ⊥) → AllByRecursion IsLineByte xs
    → NoFeed (mark ∷ (xs ++ 13 ∷ []))
plain_line mark xs other all = (other, without xs all)
  where
    without : (xs : List ℕ) → AllByRecursion IsLineByte xs → NoFeed (xs ++ 13 ∷ [])
    without [] all = ((λ e. omega (arith, e)), tt)
    without (x ∷ xs) all = (all.0.1, without xs all.1)

-- after the first byte
lead : {mark : ℕ} {first front input : List ℕ} (others rest : List ℕ) → first ≡ mark ∷ []
    → front ≡ first ++ others → input ≡ front ++ rest → input ≡ mark ∷ (others ++ rest)
lead others rest e f g =
    g ∙ ap (λ l. l ++ rest) (f ∙ ap (λ l. l ++ others) e)

ended : {tokens : List ℕ} (xs rest : List ℕ) → tokens ≡ xs ++ line_end
    → tokens ++ rest ≡ xs ++ (line_end ++ rest)
ended xs rest e = ap (λ l. l ++ rest) e ∙ append_assoc xs line_end rest

-- the bytes after the line of a size
behind_size : {mark : ℕ} {input others size : List ℕ} (xs behind rest : List ℕ)
    → (mark ≡ 10 → ⊥) → AllByRecursion IsLineByte xs → size ≡ xs ++ line_end
    → others ≡ size ++ behind → input ≡ mark ∷ (others ++ rest)
    → IsBehindFeed input (behind ++ rest)
behind_size {mark} {size = size} xs behind rest other plain e f g = (
  mark ∷ (xs ++ 13 ∷ []),
  plain_line mark xs other plain,
  g ∙ ap (λ l. mark ∷ l) (ap (λ l. l ++ rest) f ∙ append_assoc size behind rest
      ∙ ended xs (behind ++ rest) e ∙ sym (append_assoc xs (13 ∷ []) (10 ∷ (behind ++ rest)))),
)

bulk_ended : {input bytes behind : List ℕ} (xs rest : List ℕ) → behind ≡ xs ++ line_end
    → bytes ≡ xs → IsBehindFeed input (behind ++ rest)
    → IsBehindFeed input (bytes ++ (line_end ++ rest))
bulk_ended {input} xs rest e shows = subst (IsBehindFeed input)
    (ended xs rest e ∙ ap (λ l. l ++ (line_end ++ rest)) (sym shows))

-- ---- by what the reply is

no_feed : (mark : Mark) → byte_of mark ≡ 10 → ⊥
no_feed (Line Plus) e = omega (arith, e)
no_feed (Data Dollar) e = omega (arith, e)
no_feed (Aggregate Star) e = omega (arith, e)
no_feed mark e = omega (arith, e)

module _ {A : Type 0} (protocol : Protocol) (level : ℕ) (input rest : List ℕ) where
  elements_row : (level : ℕ) (all : List (Replies A)) (bytes : List ℕ)
      → Elements protocol level all bytes → IsBehindFeed input (bytes ++ rest)
      → HasElements protocol level input all rest
  unfolding ElementsIn
  elements_row zero all bytes never behind = absurd never
  elements_row (suc inner) all bytes row behind = (inner, refl, bytes, row, behind)

  -- the positions in a reply of this shape
  stands_made : {s : Mark × Content A} (reply : Replies A) → shape_of reply ≡ s
      → StandsAs protocol level input s rest
      → StandsAs protocol level input (shape_of reply) rest
  stands_made reply same = subst (λ s. StandsAs protocol level input s rest) (sym same)

  line_stands : (mark : LineMark) (reply : Replies A) (line : List ℕ)
      → LineContents Any mark reply line
      → ((text : Bor (List ℕ)) → text.now ≡ line → IsLine input text.now rest)
      → StandsAs protocol level input (shape_of reply) rest
  unfolding Shown
  line_stands Colon reply line (n, same, is) at = stands_made reply same tt
  line_stands Underscore reply line (same, is) at = stands_made reply same tt
  line_stands Hash reply line (b, same, is) at = stands_made reply same tt
  line_stands mark reply line says at =
      let (text, same, (all, shows)) = says in stands_made reply same (at text shows)

  after_stands : (mark : Mark) (reply : Replies A) (size : Option ℕ) (vs : List ℕ)
      → AfterSize (Elements protocol level) mark size reply vs → IsBehindFeed input (vs ++ rest)
      → StandsAs protocol level input (shape_of reply) rest
  unfolding DataText WithLineEnd CountedText
  after_stands (Data mark) reply None vs (null, (same, none)) behind = stands_made reply same tt
  after_stands (Data mark) reply (Some k) vs (text, same, (fits, (ds, (many, shows), d))) behind =
      stands_made reply same (bulk_ended ds rest d shows behind)
  after_stands (Aggregate mark) reply None vs (null, (same, none)) behind =
      stands_made reply same tt
  after_stands (Aggregate mark) reply (Some k) vs (list, same, (many, are)) behind =
      stands_made reply same (elements_row level list.items vs are behind)
  after_stands (Line mark) reply None vs (never, nothing) behind = absurd never
  after_stands (Line mark) reply (Some k) vs never behind = absurd never

  body_stands : (mark : Mark) (reply : Replies A) (others : List ℕ)
      → Body Any (Elements protocol level) mark reply others
      → input ≡ byte_of mark ∷ (others ++ rest)
      → StandsAs protocol level input (shape_of reply) rest
  unfolding Led SizeText WithLineEnd
  body_stands (Line mark) reply others (xs, says, e) f =
      line_stands mark reply xs says (λ text shows. (
        byte_of (Line mark),
        f ∙ ap (λ l. byte_of (Line mark) ∷ l) (ended xs rest e
            ∙ ap (λ l. l ++ (line_end ++ rest)) (sym shows)),
      ))
  body_stands mark reply others body f =
      let (size, us, vs, (xs, is, e), b, d) = body in
      after_stands mark reply size vs b
      (behind_size xs vs rest (no_feed mark) (size_plain.plain size xs is) e d f)

  parts_stand : (reply : Replies A) → First (ReplyText protocol level) input reply rest
      → StandsAs protocol level input (shape_of reply) rest
  unfolding First Led MarkText
  parts_stand reply (front, (mark, us, vs, (within, m), x, f), g) =
      body_stands mark reply vs x (lead vs rest m f g)

-- the contents, if the kind of the reply is known
pub stands_as : {A : Type 0} (protocol : Protocol) (level : ℕ) (input rest : List ℕ)
    (reply : Replies A) (kind : UnrolledReply A) → First (ReplyText protocol level) input reply rest
    → out-Reply (Bor (List ℕ)) A reply ≡ kind → StandsBy protocol level input kind rest
stands_as {A} protocol level input rest reply kind is same =
    subst (λ k. StandsBy protocol level input k rest) same
    (parts_stand protocol level input rest reply is)
