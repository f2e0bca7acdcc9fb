-- The positions of the parts of a reply.
use Rattle.std.specs.Prelude.{◌≡◌, ℕ, List, ◌∷◌, ◌++◌, suc, ⊤}
use Rattle.std.specs.List.{AllByRecursion}
use Rattle.grammars.specs.Texts.{EachText}
use Rattle.format_resp.specs.Resp.{Bytes, Content, Items, Replies, ReplyText, UnrolledReply}
use Rattle.format_resp.specs.Resp.{line_end, shape}
use Rattle.format_resp.specs.declared.marks.Mark.{Mark}
use Rattle.format_resp.specs.declared.marks.Mark.TheVariants.{Line}
use Rattle.format_resp.specs.declared.reply.Protocol.{Protocol}

-- no line feed
abbrev pub NoFeed : List ℕ → Type 0
NoFeed bytes = AllByRecursion (λ b. b ≡ 10 → ⊥) bytes

-- After its first byte the input is a line.
abbrev pub IsLine : List ℕ → List ℕ → List ℕ → Type 0
IsLine input text rest = (mark : ℕ) × (input ≡ mark ∷ (text ++ (line_end ++ rest)))

-- After its first line feed the input is this.
abbrev pub IsBehindFeed : List ℕ → List ℕ → Type 0
IsBehindFeed input behind = (line : List ℕ) × NoFeed line × (input ≡ line ++ 10 ∷ behind)

-- After it the elements of an aggregate are, and the rest.
abbrev pub HasElements : {A : Type 0} → Protocol → ℕ → List ℕ → List (Replies A) → List ℕ → Type 0
HasElements protocol level input elements rest =
    (inner : ℕ) × (level ≡ suc inner) × (bytes : List ℕ)
    × EachText (ReplyText protocol inner) elements bytes × IsBehindFeed input (bytes ++ rest)

-- The positions of the parts of a reply, by what it is: on the first line, or after it.
abbrev pub StandsAs : {A : Type 0} → Protocol → ℕ → List ℕ → Mark × Content A → List ℕ → Type 0
StandsAs protocol level input (Line mark, Bytes text) rest = IsLine input text.now rest
StandsAs protocol level input (mark, Bytes text) rest =
    IsBehindFeed input (text.now ++ (line_end ++ rest))
StandsAs protocol level input (mark, Items list) rest =
    HasElements protocol level input list.items rest
StandsAs protocol level input (mark, content) rest = ⊤

abbrev pub StandsBy : {A : Type 0} → Protocol → ℕ → List ℕ → UnrolledReply A → List ℕ → Type 0
StandsBy protocol level input kind rest = StandsAs protocol level input (shape kind) rest
