-- The tokens of XML 1.0 as a grammar by cases. Each relation takes a text, what is spelled from its first character on, and the text that
-- follows. The names are those of the productions. Characters are numbers.
use Rattle.std.specs.Prelude.{◌≡◌, ℕ, Bool, true, false, ◌==◌, ◌||◌, List, [], ◌∷◌, ◌++◌, Option, Some, None, codes, ◌⊎◌}
use Rattle.laws.specs.Runs.{AllPassTest, Bars}
use Rattle.laws.specs.Text.{is_filled}
use Rattle.xml_text.specs.Character.{passes}
use Rattle.xml_text.specs.Tokens.{At, Name, Reference, Entity, Decimal, Hexadecimal, Piece, Literal, Referred, Attribute, Tag, Token, Start, End, Characters, Refers, Section, Nothing}
use Rattle.xml_text.specs.Reading.{left_of, begins}
use Rattle.xml_text.specs.Tags.{mark_of, quoted_class}
use Rattle.xml_text.specs.Markup.{is_end, is_reserved}
use Rattle.xml_text.specs.declared.character.Class.{Class}
use Rattle.xml_text.specs.declared.character.Class.TheVariants.{Space, NameStart, NameCharacter, Digit, HexDigit}
use Rattle.xml_text.specs.declared.character.Quote.{Quote}
use Rattle.xml_text.specs.declared.ending.Ending.{Ending}
use Rattle.xml_text.specs.declared.ending.Ending.TheVariants.{Data, Comment, SectionText, Instruction}

-- a text, what it spells, and the text that follows
abbrev pub Spells : Type 0 → Type 1
Spells X = List ℕ → X → List ℕ → Type 0

-- it begins here
abbrev pub IsPlaced : List ℕ → ℕ → Type 0
IsPlaced cs left = left ≡ left_of cs

-- one or more characters of a class, the first of which is of another; none of the class follows
abbrev pub IsRun : Class → Class → Spells (List ℕ)
IsRun first class cs t rest = (cs ≡ t ++ rest) × (begins first t ≡ true) × AllPassTest (passes class) t × Bars (passes class) rest

-- S or nothing
abbrev pub IsSpace : List ℕ → List ℕ → Type 0
IsSpace cs rest = (t : List ℕ) × (cs ≡ t ++ rest) × AllPassTest (passes Space) t × Bars (passes Space) rest

-- NCName
abbrev pub IsPlainName : Spells (List ℕ)
IsPlainName = IsRun NameStart NameCharacter

abbrev pub IsNameOf : Option (List ℕ) → Spells (List ℕ)
IsNameOf None cs t rest = IsPlainName cs t rest × Bars (λ c. c == 58) rest
IsNameOf (Some prefix) cs t rest = (a : List ℕ) × IsPlainName cs prefix (58 ∷ a) × IsPlainName a t rest

-- QName
abbrev pub IsName : Spells Name
IsName cs n rest = IsNameOf n.prefix cs n.local rest

-- Reference, after its ampersand
abbrev pub IsReference : Spells Reference
IsReference cs (Entity name) rest = IsPlainName cs name (59 ∷ rest)
IsReference cs (Decimal digits) rest = (a : List ℕ) × (cs ≡ 35 ∷ a) × IsRun Digit Digit a digits (59 ∷ rest)
IsReference cs (Hexadecimal digits) rest = (a : List ℕ) × (cs ≡ 35 ∷ 120 ∷ a) × IsRun HexDigit HexDigit a digits (59 ∷ rest)

-- one after the other, and what ends them
abbrev pub AreEach : {X : Type 0} → Spells X → (List ℕ → List ℕ → Type 0) → Spells (List X)
AreEach Is Ends cs [] rest = Ends cs rest
AreEach Is Ends cs (x ∷ xs) rest = (a : List ℕ) × Is cs x a × AreEach Is Ends a xs rest

-- a piece of a value between such quotes: characters that are neither angle brackets, ampersands nor the quote, or a reference
abbrev pub IsPiece : Quote → Spells Piece
IsPiece quote cs (Literal t) rest = IsRun (quoted_class quote) (quoted_class quote) cs t rest
IsPiece quote cs (Referred r) rest = (a : List ℕ) × (cs ≡ 38 ∷ a) × IsPlaced cs r.left × IsReference a r.v rest

-- no piece stands there
abbrev pub EndsPieces : Quote → List ℕ → List ℕ → Type 0
EndsPieces quote cs rest = (cs ≡ rest) × Bars (λ c. c == 38 || passes (quoted_class quote) c) rest

-- AttValue
abbrev pub IsValue : Spells (List Piece)
IsValue cs ps rest = (quote : Quote) × (a : List ℕ) × (cs ≡ mark_of quote ∷ a) × AreEach (IsPiece quote) (EndsPieces quote) a ps (mark_of quote ∷ rest)

-- Attribute
abbrev pub IsAttribute : Spells (At Attribute)
IsAttribute cs a rest = (b : List ℕ) × (c : List ℕ) × (d : List ℕ) × IsPlaced cs a.left × IsName cs a.v.name b × IsSpace b (61 ∷ c) × IsSpace c d × IsValue d a.v.value rest

-- an attribute, and the white space before it
abbrev pub IsSpacedAttribute : Spells (At Attribute)
IsSpacedAttribute cs x rest = (a : List ℕ) × (begins Space cs ≡ true) × IsSpace cs a × IsAttribute a x rest

-- white space or nothing, and no name after it
abbrev pub EndsAttributes : List ℕ → List ℕ → Type 0
EndsAttributes cs rest = IsSpace cs rest × Bars (passes NameStart) rest

abbrev pub AreAttributes : Spells (List (At Attribute))
AreAttributes = AreEach IsSpacedAttribute EndsAttributes

abbrev pub IsTagEnd : Spells Bool
IsTagEnd cs false rest = cs ≡ 62 ∷ rest
IsTagEnd cs true rest = cs ≡ 47 ∷ 62 ∷ rest

-- STag or EmptyElemTag, after its angle bracket
abbrev pub IsStartTag : Spells Tag
IsStartTag cs tag rest = (a : List ℕ) × (b : List ℕ) × IsName cs tag.name a × AreAttributes a tag.attributes b × IsTagEnd b tag.empty rest

-- ETag, after its angle bracket and slash
abbrev pub IsEndTag : Spells (At Name)
IsEndTag cs n rest = (a : List ℕ) × IsPlaced cs n.left × IsName cs n.v a × IsSpace a (62 ∷ rest)

-- characters of XML among which no word stands that ends them
abbrev pub GoesOn : Ending → List ℕ → List ℕ → Type 0
GoesOn ending [] rest = Unit {0}
GoesOn ending (c ∷ t) rest = (is_end ending (c ∷ t ++ rest) ≡ false) × GoesOn ending t rest

abbrev pub IsText : Ending → Spells (List ℕ)
IsText ending cs t rest = (cs ≡ t ++ rest) × GoesOn ending t rest

-- Comment, after its angle bracket and exclamation mark
abbrev pub IsComment : List ℕ → List ℕ → Type 0
IsComment cs rest = (a : List ℕ) × (t : List ℕ) × (cs ≡ codes "--" ++ a) × IsText Comment a t (codes "-->" ++ rest)

-- CDSect, after its angle bracket and exclamation mark
abbrev pub IsSection : Spells (List ℕ)
IsSection cs t rest = (a : List ℕ) × (cs ≡ codes "[CDATA[" ++ a) × IsText SectionText a t (codes "]]>" ++ rest)

-- nothing, or white space and a text
abbrev pub IsInstructionText : List ℕ → List ℕ → Type 0
IsInstructionText cs rest = (cs ≡ rest) ⊎ ((begins Space cs ≡ true) × ((t : List ℕ) × IsText Instruction cs t rest))

-- PI, after its angle bracket and question mark
abbrev pub IsInstruction : List ℕ → List ℕ → Type 0
IsInstruction cs rest = (target : List ℕ) × (a : List ℕ) × IsPlainName cs target a × (is_reserved target ≡ false) × IsInstructionText a (codes "?>" ++ rest)

-- CharData ends with the text, or before an angle bracket or an ampersand
abbrev pub EndsData : List ℕ → Type 0
EndsData [] = Unit {0}
EndsData (c ∷ cs) = (c == 60 || c == 38) ≡ true

-- a token
abbrev pub IsToken : Spells Token
IsToken cs (Start tag) rest = (a : List ℕ) × (cs ≡ 60 ∷ a) × IsStartTag a tag rest
IsToken cs (End name) rest = (a : List ℕ) × (cs ≡ 60 ∷ 47 ∷ a) × IsEndTag a name rest
IsToken cs (Characters t) rest = (is_filled t ≡ true) × IsText Data cs t rest × EndsData rest
IsToken cs (Refers r) rest = (a : List ℕ) × (cs ≡ 38 ∷ a) × IsReference a r rest
IsToken cs (Section t) rest = (a : List ℕ) × (cs ≡ 60 ∷ 33 ∷ a) × IsSection a t rest
IsToken cs Nothing rest = (a : List ℕ) × (((cs ≡ 60 ∷ 33 ∷ a) × IsComment a rest) ⊎ ((cs ≡ 60 ∷ 63 ∷ a) × IsInstruction a rest))

-- the next token and what follows it, or the end of the text
abbrev pub IsNext : List ℕ → Option (At Token) → List ℕ → Type 0
IsNext cs None rest = (cs ≡ []) × (rest ≡ [])
IsNext cs (Some x) rest = IsPlaced cs x.left × IsToken cs x.v rest

-- the text is these tokens, one after the other, up to what follows
abbrev pub AreTokens : Spells (List (At Token))
AreTokens cs [] rest = cs ≡ rest
AreTokens cs (t ∷ ts) rest = (a : List ℕ) × IsPlaced cs t.left × IsToken cs t.v a × AreTokens a ts rest
