-- What the grammar relates, the reading functions read.
use Rattle.std.proofs.Common.{◌≡◌, ℕ, Bool, true, false, true≢false, cond, eqb, ◌||◌, List, [], ◌∷◌, ◌++◌, Option, Some, None, Result, Ok, codes, refl, sym, ap, ◌∙◌, subst, inl, inr}
use Rattle.std.proofs.lemmas.Bool.{eq-eqb, eqb-true}
use Rattle.laws.specs.Results.{◌>>=◌}
use Rattle.laws.specs.Runs.{prefix_of, after, Bars}
use Rattle.laws.specs.Steps.{each}
use Rattle.laws.specs.Text.{is_filled}
use Rattle.laws.proofs.Runs.{cuts}
use Rattle.xml_text.specs.Character.{passes}
use Rattle.xml_text.specs.Tokens.{At, Name, Entity, Decimal, Hexadecimal, Piece, Literal, Referred, Attribute, Tag, Token, Start, End, Characters, Refers, Section, Nothing}
use Rattle.xml_text.specs.Reading.{Refusal, Reading, left_of, character_at, word_at, begins, after_space, run_at, local_at, name_at, ended_at, entity_at, decimal_at, hexadecimal_at, number_at, reference_at}
use Rattle.xml_text.specs.Tags.{mark_of, quoted_class, piece_at, quoted_at, value_at, attribute_at, attribute_after, next_attribute_at, tag_end_at, start_tag_at, end_tag_at}
use Rattle.xml_text.specs.Markup.{is_end, before_end, from_end, comment_at, section_at, exclaimed_at, is_reserved, instruction_end_at, instruction_at, markup_at, characters_end_at, characters_at, token_from, token_at}
use Rattle.xml_text.specs.Grammar.{Spells, IsPlaced, IsRun, IsSpace, IsPlainName, IsNameOf, IsName, IsReference, IsPiece, EndsPieces, IsValue, IsAttribute, IsSpacedAttribute, EndsAttributes, AreAttributes, IsTagEnd, IsStartTag, IsEndTag, GoesOn, IsText, IsComment, IsSection, IsInstructionText, IsInstruction, EndsData, IsToken}
use Rattle.xml_text.specs.declared.character.Class.{Class}
use Rattle.xml_text.specs.declared.character.Class.TheVariants.{Space, NameStart, NameCharacter, Digit, HexDigit}
use Rattle.xml_text.specs.declared.character.Quote.{Quote}
use Rattle.xml_text.specs.declared.character.Quote.TheVariants.{Double, Single}
use Rattle.xml_text.specs.declared.ending.Ending.{Ending}
use Rattle.xml_text.specs.declared.ending.Ending.TheVariants.{Data, Comment, SectionText, Instruction}
use Rattle.xml_text.proofs.EachSpelled.{SpelledGives, each-again}
use Rattle.xml_text.proofs.Shorter.{pieces_shorten, attributes_shorten}

-- what the relation relates is read
abbrev pub Again : {X : Type 0} → Spells X → (List ℕ → Reading X) → Type 0
Again {X} Is read = (cs rest : List ℕ) (x : X) → Is cs x rest → read cs ≡ Ok (x, rest)

-- ---- characters and runs

-- a character that is of a class is none that is not
pub differs : (class : Class) (c d : ℕ) → passes class c ≡ true → passes class d ≡ false → eqb c d ≡ false
differs class c d is never = by_test (eqb c d) refl
  where
    by_test : (b : Bool) → eqb c d ≡ b → b ≡ false
    by_test true e = absurd (true≢false (sym is ∙ ap (passes class) (eqb-true c d e) ∙ never))
    by_test false e = refl

character-again : (c : ℕ) (cs : List ℕ) → character_at c (c ∷ cs) ≡ Ok cs
character-again c cs = rw (eq-eqb c c refl) refl

pub run-again : (first class : Class) → Again (IsRun first class) (run_at first class)
run-again first class cs rest [] (is, begun, all, bars) = absurd (true≢false (sym begun))
run-again first class cs rest (c ∷ t) (is, begun, all, bars) =
    let cut = cuts (passes class) (c ∷ t) rest all bars in
    let prefix = cut.prefix in
    let behind = cut.after in
    ap (run_at first class) is ∙ (rw begun (ap (λ (x : List ℕ). Ok (x, after (passes class) (c ∷ t ++ rest))) prefix ∙ ap (λ (x : List ℕ). Ok (c ∷ t, x)) behind))

pub space-again : (cs rest : List ℕ) → IsSpace cs rest → after_space cs ≡ rest
space-again cs rest (t, is, all, bars) = ap after_space is ∙ (cuts (passes Space) t rest all bars).after

-- ---- names

local-again : (t rest : List ℕ) → Bars (λ c. eqb c 58) rest → local_at t rest ≡ Ok (record { prefix = None; local = t }, rest)
local-again t [] bars = refl
local-again t (c ∷ rest) bars = rw bars refl

name_of-again : (prefix : Option (List ℕ)) (cs t rest : List ℕ) → IsNameOf prefix cs t rest → name_at cs ≡ Ok (record { prefix = prefix; local = t }, rest)
unfolding name_at
name_of-again None cs t rest (plain, bars) = rw (run-again NameStart NameCharacter cs rest t plain) (local-again t rest bars)
name_of-again (Some p) cs t rest (a, plain, local) =
    rw (run-again NameStart NameCharacter cs (58 ∷ a) p plain) (rw (run-again NameStart NameCharacter a rest t local) refl)

pub name-again : Again IsName name_at
name-again cs rest n is = name_of-again n.prefix cs n.local rest is

-- ---- references

ended-again : {X : Type 0} (x : X) (rest : List ℕ) → ended_at x (59 ∷ rest) ≡ Ok (x, rest)
ended-again x rest = refl

entity-again : (cs name rest : List ℕ) → IsPlainName cs name (59 ∷ rest) → entity_at cs ≡ Ok (Entity name, rest)
unfolding entity_at
entity-again cs name rest is = rw (run-again NameStart NameCharacter cs (59 ∷ rest) name is) refl

decimal-again : (cs digits rest : List ℕ) → IsRun Digit Digit cs digits (59 ∷ rest) → decimal_at cs ≡ Ok (Decimal digits, rest)
unfolding decimal_at
decimal-again cs digits rest is = rw (run-again Digit Digit cs (59 ∷ rest) digits is) refl

hexadecimal-again : (cs digits rest : List ℕ) → IsRun HexDigit HexDigit cs digits (59 ∷ rest) → hexadecimal_at cs ≡ Ok (Hexadecimal digits, rest)
unfolding hexadecimal_at
hexadecimal-again cs digits rest is = rw (run-again HexDigit HexDigit cs (59 ∷ rest) digits is) refl

no_name_start : passes NameStart 35 ≡ false
unfolding passes
no_name_start = refl

no_digit : passes Digit 120 ≡ false
unfolding passes
no_digit = refl

-- a run begins with a character of its first class
pub first_is : (first class : Class) (cs t rest : List ℕ) → IsRun first class cs t rest → (c : ℕ) × (more : List ℕ) × (cs ≡ c ∷ more) × (passes first c ≡ true)
first_is first class cs [] rest (is, begun, all, bars) = absurd (true≢false (sym begun))
first_is first class cs (c ∷ t) rest (is, begun, all, bars) = (c, t ++ rest, is, begun)

reference-again : Again IsReference reference_at
reference-again cs rest (Entity name) is =
    let f = first_is NameStart NameCharacter cs name (59 ∷ rest) is in
    let no = differs NameStart f.0 35 f.3 no_name_start in
    let here : reference_at (f.0 ∷ f.1) ≡ entity_at (f.0 ∷ f.1) = rw no refl in
    ap reference_at f.2 ∙ (here ∙ (ap entity_at (sym f.2) ∙ entity-again cs name rest is))
reference-again cs rest (Decimal digits) (a, e, is) =
    let f = first_is Digit Digit a digits (59 ∷ rest) is in
    let no = differs Digit f.0 120 f.3 no_digit in
    let here : number_at (f.0 ∷ f.1) ≡ decimal_at (f.0 ∷ f.1) = rw no refl in
    ap reference_at e ∙ (ap number_at f.2 ∙ (here ∙ (ap decimal_at (sym f.2) ∙ decimal-again a digits rest is)))
reference-again cs rest (Hexadecimal digits) (a, e, is) = ap reference_at e ∙ hexadecimal-again a digits rest is

-- ---- values

no_ampersand : (quote : Quote) → passes (quoted_class quote) 38 ≡ false
unfolding passes
no_ampersand Double = refl
no_ampersand Single = refl

piece-again : (quote : Quote) (cs rest : List ℕ) (x : Piece) → IsPiece quote cs x rest → piece_at quote cs ≡ Ok (Some x, rest)
piece-again quote cs rest (Literal []) (is, begun, all, bars) = absurd (true≢false (sym begun))
piece-again quote cs rest (Literal (c ∷ t)) (is, begun, all, bars) =
    let cut = cuts (passes (quoted_class quote)) (c ∷ t) rest all bars in
    let prefix = cut.prefix in
    let behind = cut.after in
    let no = differs (quoted_class quote) c 38 begun (no_ampersand quote) in
    let here : piece_at quote (c ∷ t ++ rest) ≡ Ok (Some (Literal (prefix_of (passes (quoted_class quote)) (c ∷ t ++ rest))), after (passes (quoted_class quote)) (c ∷ t ++ rest)) = rw (no, begun) refl in
    ap (piece_at quote) is ∙ (here ∙ (ap (λ (x : List ℕ). Ok (Some (Literal x), after (passes (quoted_class quote)) (c ∷ t ++ rest))) prefix ∙ ap (λ (x : List ℕ). Ok (Some (Literal (c ∷ t)), x)) behind))
piece-again quote cs rest (Referred r) (a, e, at, is) =
    ap (piece_at quote) e ∙ (rw (reference-again a rest r.v is) (ap (λ (n : ℕ). Ok (Some (Referred (record { v = r.v; left = n })), rest)) (ap left_of (sym e) ∙ sym at)))

none-again : (quote : Quote) (cs rest : List ℕ) → EndsPieces quote cs rest → piece_at quote cs ≡ Ok (None, rest)
none-again quote cs [] (e, bars) = ap (piece_at quote) e
none-again quote cs (c ∷ rest) (e, bars) =
    let two = neither (eqb c 38) (passes (quoted_class quote) c) bars in
    let a = two.0 in
    let b = two.1 in
    ap (piece_at quote) e ∙ rw (a, b) refl
  where
    neither : (a b : Bool) → a || b ≡ false → (a ≡ false) × (b ≡ false)
    neither true b h = absurd (true≢false h)
    neither false b h = (refl, h)

quoted-again : (quote : Quote) → SpelledGives (IsPiece quote) (EndsPieces quote) (piece_at quote)
quoted-again quote = record { one = piece-again quote; none = none-again quote; shorter = pieces_shorten quote }

quoted_text-again : (quote : Quote) (a rest : List ℕ) (ps : List Piece) → each (piece_at quote) a ≡ Ok (ps, mark_of quote ∷ rest) → quoted_at quote a ≡ Ok (ps, rest)
unfolding quoted_at
quoted_text-again quote a rest ps is = rw is (rw (character-again (mark_of quote) rest) refl)

value-again : Again IsValue value_at
value-again cs rest ps (Double, a, e, pieces) = ap value_at e ∙ quoted_text-again Double a rest ps (each-again (IsPiece Double) (EndsPieces Double) (piece_at Double) (quoted-again Double) a (34 ∷ rest) ps pieces)
value-again cs rest ps (Single, a, e, pieces) = ap value_at e ∙ quoted_text-again Single a rest ps (each-again (IsPiece Single) (EndsPieces Single) (piece_at Single) (quoted-again Single) a (39 ∷ rest) ps pieces)

-- ---- attributes and tags

attribute-again : Again IsAttribute attribute_at
unfolding attribute_at
attribute-again cs rest x (b, c, d, at, name, before, behind, value) =
    rw (name-again cs b x.v.name name, space-again b (61 ∷ c) before, space-again c d behind, value-again d rest x.v.value value)
    (ap (λ (n : ℕ). Ok (record { v = x.v; left = n }, rest)) (sym at))

name_begins : (cs rest : List ℕ) (n : Name) → IsName cs n rest → (c : ℕ) × (more : List ℕ) × (cs ≡ c ∷ more) × (passes NameStart c ≡ true)
name_begins cs rest n is = by_prefix n.prefix is
  where
    by_prefix : (prefix : Option (List ℕ)) → IsNameOf prefix cs n.local rest → (c : ℕ) × (more : List ℕ) × (cs ≡ c ∷ more) × (passes NameStart c ≡ true)
    by_prefix None (plain, bars) = first_is NameStart NameCharacter cs n.local rest plain
    by_prefix (Some p) (a, plain, local) = first_is NameStart NameCharacter cs p (58 ∷ a) plain

attribute_after-again : (cs rest : List ℕ) (x : At Attribute) → IsAttribute cs x rest → attribute_after true cs ≡ Ok (Some x, rest)
attribute_after-again cs rest x is =
    let f = name_begins cs is.0 x.v.name is.4 in
    let start = f.3 in
    let read = attribute-again cs rest x is in
    let here : attribute_after true (f.0 ∷ f.1) ≡ (attribute_at (f.0 ∷ f.1) >>= λ a. Ok (Some a.0, a.1)) = rw start refl in
    ap (attribute_after true) f.2 ∙ (here ∙ ap (λ (r : Result (At Attribute × List ℕ) Refusal). r >>= λ a. Ok (Some a.0, a.1)) (ap attribute_at (sym f.2) ∙ read))

spaced-again : (cs rest : List ℕ) (x : At Attribute) → IsSpacedAttribute cs x rest → next_attribute_at cs ≡ Ok (Some x, rest)
unfolding next_attribute_at
spaced-again cs rest x (a, begun, space, is) = rw (begun, space-again cs a space) (attribute_after-again a rest x is)

no_attribute : (spaced : Bool) (rest : List ℕ) → Bars (passes NameStart) rest → attribute_after spaced rest ≡ Ok (None, rest)
no_attribute spaced [] bars = refl
no_attribute spaced (c ∷ rest) bars = rw bars refl

attributes_end-again : (cs rest : List ℕ) → EndsAttributes cs rest → next_attribute_at cs ≡ Ok (None, rest)
unfolding next_attribute_at
attributes_end-again cs rest (space, bars) = ap (attribute_after (begins Space cs)) (space-again cs rest space) ∙ no_attribute (begins Space cs) rest bars

pub attributes-again : Again AreAttributes (each next_attribute_at)
attributes-again cs rest xs is =
    each-again IsSpacedAttribute EndsAttributes next_attribute_at (record { one = spaced-again; none = attributes_end-again; shorter = attributes_shorten }) cs rest xs is

tag_end-again : Again IsTagEnd tag_end_at
tag_end-again cs rest false is = ap tag_end_at is
tag_end-again cs rest true is = ap tag_end_at is

start_tag-again : Again IsStartTag start_tag_at
unfolding start_tag_at
start_tag-again cs rest tag (a, b, name, attributes, end) = rw (name-again cs a tag.name name, attributes-again a b tag.attributes attributes, tag_end-again b rest tag.empty end) refl

end_tag-again : Again IsEndTag end_tag_at
unfolding end_tag_at
end_tag-again cs rest n (a, at, name, space) =
    rw (name-again cs a n.v name, space-again a (62 ∷ rest) space) (ap (λ (k : ℕ). Ok (record { v = n.v; left = k }, rest)) (sym at))

-- ---- texts that end before a word

pub record CutsText (ending : Ending) (cs t rest : List ℕ) : Type 0 where
  pub before : before_end ending cs ≡ t
  pub behind : from_end ending cs ≡ rest

ended_here : (ending : Ending) (rest : List ℕ) → is_end ending rest ≡ true → CutsText ending rest [] rest
ended_here ending [] e = record { before = refl; behind = refl }
ended_here ending (c ∷ rest) e = record { before = rw e refl; behind = rw e refl }

text_cut : (ending : Ending) (t rest : List ℕ) → GoesOn ending t rest → is_end ending rest ≡ true → CutsText ending (t ++ rest) t rest
text_cut ending [] rest on e = ended_here ending rest e
text_cut ending (c ∷ t) rest (one, on) e =
    let more = text_cut ending t rest on e in
    record { before = rw (one, more.before) refl; behind = rw (one, more.behind) refl }

pub text-again : (ending : Ending) (cs t rest : List ℕ) → IsText ending cs t rest → is_end ending rest ≡ true → CutsText ending cs t rest
text-again ending cs t rest (is, on) e = subst (λ (x : List ℕ). CutsText ending x t rest) (sym is) (text_cut ending t rest on e)

-- ---- tokens

comment-again : (cs rest : List ℕ) → IsComment cs rest → (b : List ℕ) × (cs ≡ 45 ∷ b) × (comment_at b ≡ Ok (Nothing, rest))
unfolding comment_at
comment-again cs rest (a, t, e, text) =
    let cut = (text-again Comment a t (codes "-->" ++ rest) text refl).behind in
    (45 ∷ a, e, rw cut refl)

section-again : (cs t rest : List ℕ) → IsSection cs t rest → (b : List ℕ) × (cs ≡ 91 ∷ b) × (section_at b ≡ Ok (Section t, rest))
unfolding section_at
section-again cs t rest (a, e, text) =
    let cut = text-again SectionText a t (codes "]]>" ++ rest) text refl in
    let before = cut.before in
    let behind = cut.behind in
    (codes "CDATA[" ++ a, e, rw (behind, before) refl)

no_space : passes Space 63 ≡ false
unfolding passes
no_space = refl

-- the end of an instruction after its target
instruction_end-again : (start target cs rest : List ℕ) → is_reserved target ≡ false → IsInstructionText cs (codes "?>" ++ rest) → instruction_end_at start target cs ≡ Ok (Nothing, rest)
instruction_end-again start target cs rest free (inl e) =
    let no = no_space in
    rw free (ap tail e ∙ rw no refl)
  where
    tail : List ℕ → Reading Token
    tail ds = word_at (codes "?>") (cond (begins Space ds) (from_end Instruction ds) ds) >>= λ behind. Ok (Nothing, behind)
instruction_end-again start target cs rest free (inr (begun, (t, text))) =
    let cut = (text-again Instruction cs t (codes "?>" ++ rest) text refl).behind in
    rw (free, begun, cut) refl

instruction-again : (start cs rest : List ℕ) → IsInstruction cs rest → instruction_at start cs ≡ Ok (Nothing, rest)
unfolding instruction_at
instruction-again start cs rest (target, a, name, free, text) =
    rw (run-again NameStart NameCharacter cs a target name) (instruction_end-again start target a rest free text)

-- a token that is read from its first character on
abbrev pub whole_token_at : List ℕ → Reading Token
whole_token_at [] = Ok (Nothing, [])
whole_token_at (c ∷ cs) = token_from c cs

no_slash : passes NameStart 47 ≡ false
unfolding passes
no_slash = refl

no_exclamation : passes NameStart 33 ≡ false
unfolding passes
no_exclamation = refl

no_question : passes NameStart 63 ≡ false
unfolding passes
no_question = refl

start-again : (a rest : List ℕ) (tag : Tag) → IsStartTag a tag rest → markup_at (60 ∷ a) a ≡ Ok (Start tag, rest)
start-again a rest tag is =
    let f = name_begins a is.0 tag.name is.2 in
    let slash = differs NameStart f.0 47 f.3 no_slash in
    let exclamation = differs NameStart f.0 33 f.3 no_exclamation in
    let question = differs NameStart f.0 63 f.3 no_question in
    let read : start_tag_at (f.0 ∷ f.1) ≡ Ok (tag, rest) = ap start_tag_at (sym f.2) ∙ start_tag-again a rest tag is in
    let here : markup_at (60 ∷ a) (f.0 ∷ f.1) ≡ Ok (Start tag, rest) = rw (slash, exclamation, question, read) refl in
    ap (markup_at (60 ∷ a)) f.2 ∙ here

-- character data ends before an angle bracket or an ampersand
data_ends : (rest : List ℕ) → EndsData rest → is_end Data rest ≡ true
data_ends [] ends = refl
data_ends (c ∷ rest) ends = by_tests (eqb c 60) refl (eqb c 38) refl ends
  where
    by_tests : (a : Bool) → eqb c 60 ≡ a → (b : Bool) → eqb c 38 ≡ b → a || b ≡ true → is_end Data (c ∷ rest) ≡ true
    by_tests true e b f h = rw e refl
    by_tests false e true f h = rw (e, f) refl
    by_tests false e false f h = absurd (true≢false (sym h))

goes_on_past : (c : ℕ) (cs : List ℕ) → is_end Data (c ∷ cs) ≡ false → (eqb c 60 ≡ false) × (eqb c 38 ≡ false)
goes_on_past c cs h = (by_angle (eqb c 60) refl, by_ampersand (eqb c 38) refl)
  where
    by_angle : (a : Bool) → eqb c 60 ≡ a → a ≡ false
    by_angle true e = absurd (true≢false (sym (ap (λ (x : ℕ). is_end Data (x ∷ cs)) (eqb-true c 60 e)) ∙ h))
    by_angle false e = refl

    by_ampersand : (a : Bool) → eqb c 38 ≡ a → a ≡ false
    by_ampersand true e = absurd (true≢false (sym (ap (λ (x : ℕ). is_end Data (x ∷ cs)) (eqb-true c 38 e)) ∙ h))
    by_ampersand false e = refl

characters_end-again : (t rest : List ℕ) → EndsData rest → characters_end_at t rest ≡ Ok (Characters t, rest)
characters_end-again t [] ends = refl
characters_end-again t (c ∷ rest) ends = rw ends refl

characters-again : (cs t rest : List ℕ) → is_filled t ≡ true → IsText Data cs t rest → EndsData rest → whole_token_at cs ≡ Ok (Characters t, rest)
characters-again cs [] rest filled text ends = absurd (true≢false (sym filled))
characters-again cs (c ∷ t) rest filled text ends =
    let cut = text-again Data cs (c ∷ t) rest text (data_ends rest ends) in
    let past = goes_on_past c (t ++ rest) text.1.0 in
    let angle = past.0 in
    let ampersand = past.1 in
    let here : whole_token_at (c ∷ t ++ rest) ≡ characters_at (c ∷ t ++ rest) = rw (angle, ampersand) refl in
    ap whole_token_at text.0 ∙ (here ∙ (ap characters_at (sym text.0) ∙ (ap (λ x. characters_end_at x (from_end Data cs)) cut.before ∙ (ap (characters_end_at (c ∷ t)) cut.behind ∙ characters_end-again (c ∷ t) rest ends))))

pub whole_token-again : Again IsToken whole_token_at
whole_token-again cs rest (Start tag) (a, e, is) = ap whole_token_at e ∙ start-again a rest tag is
whole_token-again cs rest (End name) (a, e, is) = ap whole_token_at e ∙ rw (end_tag-again a rest name is) refl
whole_token-again cs rest (Characters t) (filled, text, ends) = characters-again cs t rest filled text ends
whole_token-again cs rest (Refers r) (a, e, is) = ap whole_token_at e ∙ rw (reference-again a rest r is) refl
whole_token-again cs rest (Section t) (a, e, is) =
    let s = section-again a t rest is in
    ap whole_token_at e ∙ (ap (λ (x : List ℕ). exclaimed_at (60 ∷ 33 ∷ a) x) s.1 ∙ s.2)
whole_token-again cs rest Nothing (a, inl (e, is)) =
    let s = comment-again a rest is in
    ap whole_token_at e ∙ (ap (λ (x : List ℕ). exclaimed_at (60 ∷ 33 ∷ a) x) s.1 ∙ s.2)
whole_token-again cs rest Nothing (a, inr (e, is)) = ap whole_token_at e ∙ instruction-again (60 ∷ 63 ∷ a) a rest is

-- a token is not empty
token_filled : (rest : List ℕ) (x : Token) → IsToken [] x rest → ⊥
token_filled rest (Start tag) (a, e, is) = absurd cc
token_filled rest (End name) (a, e, is) = absurd cc
token_filled rest (Characters []) (filled, text, ends) = absurd (true≢false (sym filled))
token_filled rest (Characters (c ∷ t)) (filled, (e, on), ends) = absurd cc
token_filled rest (Refers r) (a, e, is) = absurd cc
token_filled rest (Section t) (a, e, is) = absurd cc
token_filled rest Nothing (a, inl (e, is)) = absurd cc
token_filled rest Nothing (a, inr (e, is)) = absurd cc

-- what the text spells is read
pub token-again : (cs rest : List ℕ) (x : At Token) → IsPlaced cs x.left → IsToken cs x.v rest → token_at cs ≡ Ok (Some x, rest)
token-again [] rest x at is = absurd (token_filled rest x.v is)
token-again (c ∷ cs) rest x at is =
    let read : token_from c cs ≡ Ok (x.v, rest) = whole_token-again (c ∷ cs) rest x.v is in
    rw read (ap (λ (n : ℕ). Ok (Some (record { v = x.v; left = n }), rest)) (sym at))
