-- What the reading functions read, the grammar relates.
use Rattle.std.proofs.Common.{◌≡◌, ℕ, Bool, true, false, true≢false, cond, eqb, ◌||◌, List, [], ◌∷◌, ◌++◌, Option, Some, None, Result, Ok, Err, codes, refl, sym, ap, ◌∙◌, subst, inl, inr}
use Rattle.std.proofs.lemmas.Bool.{eqb-true}
use Rattle.laws.specs.Results.{◌>>=◌}
use Rattle.laws.specs.Runs.{prefix_of, after}
use Rattle.laws.specs.Steps.{each}
use Rattle.laws.specs.Text.{is_filled}
use Rattle.laws.proofs.Results.{bind_ok, ok_is, test_ok, guard_ok}
use Rattle.laws.proofs.Runs.{prefix-after, all-prefix, bars-after}
use Rattle.xml_text.specs.Character.{passes}
use Rattle.xml_text.specs.Tokens.{At, Name, Reference, Entity, Decimal, Hexadecimal, Piece, Literal, Referred, Attribute, Token, Start, End, Characters, Refers, Section, Nothing}
use Rattle.xml_text.specs.Reading.{Refusal, Reading, placed, begun_at, character_at, word_at, stands, begins, after_space, run_at, plain_name_at, local_at, name_at, ended_at, entity_at, decimal_at, hexadecimal_at, number_at, reference_at}
use Rattle.xml_text.specs.Tags.{mark_of, quoted_class, piece_at, quoted_at, value_at, attribute_at, attribute_after, next_attribute_at, tag_end_at, start_tag_at, end_tag_at}
use Rattle.xml_text.specs.Markup.{is_end, before_end, from_end, comment_at, section_at, exclaimed_at, is_reserved, instruction_end_at, instruction_at, markup_at, characters_end_at, characters_at, token_from, token_at}
use Rattle.xml_text.specs.Grammar.{Spells, IsRun, IsSpace, IsPlainName, IsName, IsReference, IsPiece, EndsPieces, IsValue, IsAttribute, IsSpacedAttribute, EndsAttributes, AreEach, AreAttributes, IsTagEnd, IsStartTag, IsEndTag, IsText, IsInstructionText, EndsData, IsToken, IsNext}
use Rattle.xml_text.specs.declared.character.Class.{Class}
use Rattle.xml_text.specs.declared.character.Class.TheVariants.{Space, NameStart, NameCharacter, Digit, HexDigit}
use Rattle.xml_text.specs.declared.character.Quote.{Quote}
use Rattle.xml_text.specs.declared.character.Quote.TheVariants.{Double, Single}
use Rattle.xml_text.specs.declared.ending.Ending.{Ending}
use Rattle.xml_text.specs.declared.ending.Ending.TheVariants.{Data, Comment, SectionText, Instruction}
use Rattle.xml_text.specs.declared.fault.Fault.TheVariants.{Unexpected, Doctype, ReservedTarget}
use Rattle.xml_text.proofs.EachSpelled.{GivesSpelled, each-takes, given}
use Rattle.xml_text.proofs.Shorter.{pieces_shorten, attributes_shorten}

-- what is read the relation relates
abbrev pub Takes : {X : Type 0} → Spells X → (List ℕ → Reading X) → Type 0
Takes {X} Is read = (cs : List ℕ) (p : X × List ℕ) → read cs ≡ Ok p → Is cs p.0 p.1

-- a word that was read stood there
pub character-takes : (wanted : ℕ) (cs rest : List ℕ) → character_at wanted cs ≡ Ok rest → cs ≡ wanted ∷ rest
character-takes wanted [] rest e = absurd cc
character-takes wanted (c ∷ cs) rest e =
    let t = test_ok (eqb c wanted) (Ok cs) (Unexpected, c ∷ cs) rest e in
    ap (λ (x : ℕ). x ∷ cs) (eqb-true c wanted t.0) ∙ ap (λ (x : List ℕ). wanted ∷ x) (ok_is {F = Refusal} cs rest t.1)

pub word-takes : (word cs rest : List ℕ) → word_at word cs ≡ Ok rest → cs ≡ word ++ rest
word-takes [] cs rest e = ok_is {F = Refusal} cs rest e
word-takes (w ∷ ws) cs rest e =
    let one = bind_ok (character_at w cs) (λ more. word_at ws more) rest e in
    character-takes w cs one.0 one.1 ∙ ap (λ (x : List ℕ). w ∷ x) (word-takes ws one.0 rest one.2)

-- ---- runs and names

run-takes : (first class : Class) → ((c : ℕ) → passes first c ≡ true → passes class c ≡ true) → Takes (IsRun first class) (run_at first class)
run-takes first class within [] p e = absurd cc
run-takes first class within (c ∷ cs) p e =
    let t = test_ok (passes first c) (Ok (prefix_of (passes class) (c ∷ cs), after (passes class) (c ∷ cs))) (Unexpected, c ∷ cs) p e in
    let inside = within c t.0 in
    let begun : begins first (prefix_of (passes class) (c ∷ cs)) ≡ true = rw inside t.0 in
    given (λ q. IsRun first class (c ∷ cs) q.0 q.1) (prefix_of (passes class) (c ∷ cs)) (after (passes class) (c ∷ cs)) p t.1
    (prefix-after (passes class) (c ∷ cs), begun, all-prefix (passes class) (c ∷ cs), bars-after (passes class) (c ∷ cs))

same_class : (class : Class) (c : ℕ) → passes class c ≡ true → passes class c ≡ true
same_class class c e = e

start_in_name : (c : ℕ) → passes NameStart c ≡ true → passes NameCharacter c ≡ true
unfolding passes
start_in_name c e = rw e refl

plain_name-takes : Takes IsPlainName plain_name_at
plain_name-takes = run-takes NameStart NameCharacter start_in_name

pub space-takes : (cs : List ℕ) → IsSpace cs (after_space cs)
space-takes cs = (prefix_of (passes Space) cs, prefix-after (passes Space) cs, all-prefix (passes Space) cs, bars-after (passes Space) cs)

local-takes : (cs first ds : List ℕ) (p : Name × List ℕ) → IsPlainName cs first ds → local_at first ds ≡ Ok p → IsName cs p.0 p.1
local-takes cs first [] p plain e = given (λ q. IsName cs q.0 q.1) (record { prefix = None; local = first }) [] p e (plain, tt)
local-takes cs first (c ∷ ds) p plain e = by_test (eqb c 58) refl e
  where
    Holds : Name × List ℕ → Type 0
    Holds q = IsName cs q.0 q.1

    by_test : (b : Bool) → eqb c 58 ≡ b
        → cond b (plain_name_at ds >>= λ n. Ok (record { prefix = Some first; local = n.0 }, n.1)) (Ok (record { prefix = None; local = first }, c ∷ ds)) ≡ Ok p → Holds p
    by_test true is d =
        let more = bind_ok (plain_name_at ds) (λ n. Ok (record { prefix = Some first; local = n.0 }, n.1)) p d in
        given Holds (record { prefix = Some first; local = more.0.0 }) more.0.1 p more.2
        (ds, subst (λ (x : ℕ). IsPlainName cs first (x ∷ ds)) (eqb-true c 58 is) plain, plain_name-takes ds more.0 more.1)
    by_test false is d = given Holds (record { prefix = None; local = first }) (c ∷ ds) p d (plain, is)

pub name-takes : Takes IsName name_at
unfolding name_at
name-takes cs p e =
    let one = bind_ok (plain_name_at cs) (λ first. local_at first.0 first.1) p e in
    local-takes cs one.0.0 one.0.1 p (plain_name-takes cs one.0 one.1) one.2

-- ---- references

ended-takes : {X : Type 0} (P : X × List ℕ → Type 0) (x : X) (cs : List ℕ) (p : X × List ℕ) → ended_at x cs ≡ Ok p → ((rest : List ℕ) → cs ≡ 59 ∷ rest → P (x, rest)) → P p
ended-takes P x cs p e holds =
    let end = bind_ok (character_at 59 cs) (λ rest. Ok (x, rest)) p e in
    given P x end.0 p end.2 (holds end.0 (character-takes 59 cs end.0 end.1))

entity-takes : (cs : List ℕ) (p : Reference × List ℕ) → entity_at cs ≡ Ok p → IsReference cs p.0 p.1
unfolding entity_at
entity-takes cs p e =
    let name = bind_ok (plain_name_at cs) (λ n. ended_at (Entity n.0) n.1) p e in
    ended-takes (λ q. IsReference cs q.0 q.1) (Entity name.0.0) name.0.1 p name.2 (λ rest is. subst (IsPlainName cs name.0.0) is (plain_name-takes cs name.0 name.1))

decimal-takes : (cs : List ℕ) (p : Reference × List ℕ) → decimal_at cs ≡ Ok p → IsReference (35 ∷ cs) p.0 p.1
unfolding decimal_at
decimal-takes cs p e =
    let digits = bind_ok (run_at Digit Digit cs) (λ n. ended_at (Decimal n.0) n.1) p e in
    ended-takes (λ q. IsReference (35 ∷ cs) q.0 q.1) (Decimal digits.0.0) digits.0.1 p digits.2
    (λ rest is. (cs, refl, subst (IsRun Digit Digit cs digits.0.0) is (run-takes Digit Digit (same_class Digit) cs digits.0 digits.1)))

hexadecimal-takes : (cs : List ℕ) (p : Reference × List ℕ) → hexadecimal_at cs ≡ Ok p → IsReference (35 ∷ 120 ∷ cs) p.0 p.1
unfolding hexadecimal_at
hexadecimal-takes cs p e =
    let digits = bind_ok (run_at HexDigit HexDigit cs) (λ n. ended_at (Hexadecimal n.0) n.1) p e in
    ended-takes (λ q. IsReference (35 ∷ 120 ∷ cs) q.0 q.1) (Hexadecimal digits.0.0) digits.0.1 p digits.2
    (λ rest is. (cs, refl, subst (IsRun HexDigit HexDigit cs digits.0.0) is (run-takes HexDigit HexDigit (same_class HexDigit) cs digits.0 digits.1)))

number-takes : (cs : List ℕ) (p : Reference × List ℕ) → number_at cs ≡ Ok p → IsReference (35 ∷ cs) p.0 p.1
number-takes [] p e = absurd cc
number-takes (c ∷ cs) p e = by_test (eqb c 120) refl e
  where
    by_test : (b : Bool) → eqb c 120 ≡ b → cond b (hexadecimal_at cs) (decimal_at (c ∷ cs)) ≡ Ok p → IsReference (35 ∷ c ∷ cs) p.0 p.1
    by_test true is d = subst (λ (x : ℕ). IsReference (35 ∷ x ∷ cs) p.0 p.1) (sym (eqb-true c 120 is)) (hexadecimal-takes cs p d)
    by_test false is d = decimal-takes (c ∷ cs) p d

reference-takes : Takes IsReference reference_at
reference-takes [] p e = absurd cc
reference-takes (c ∷ cs) p e = by_test (eqb c 35) refl e
  where
    by_test : (b : Bool) → eqb c 35 ≡ b → cond b (number_at cs) (entity_at (c ∷ cs)) ≡ Ok p → IsReference (c ∷ cs) p.0 p.1
    by_test true is d = subst (λ (x : ℕ). IsReference (x ∷ cs) p.0 p.1) (sym (eqb-true c 35 is)) (number-takes cs p d)
    by_test false is d = entity-takes (c ∷ cs) p d

-- ---- values

abbrev none_of : (X : Type 0) → Option X
none_of X = None

-- a step that gave something, and one that gave nothing
abbrev PieceIs : Quote → List ℕ → Option Piece × List ℕ → Type 0
PieceIs quote cs (Some x, rest) = IsPiece quote cs x rest
PieceIs quote cs (None, rest) = EndsPieces quote cs rest

either_false : (a b : Bool) → a ≡ false → b ≡ false → a || b ≡ false
either_false a b e f = rw (e, f) refl

piece-takes : (quote : Quote) (cs : List ℕ) (p : Option Piece × List ℕ) → piece_at quote cs ≡ Ok p → PieceIs quote cs p
piece-takes quote [] p e = given (PieceIs quote []) None [] p e (refl, tt)
piece-takes quote (c ∷ cs) p e = by_ampersand (eqb c 38) refl e
  where
    Step : Type 0
    Step = Result (Option Piece × List ℕ) Refusal

    by_class : (b : Bool) → passes (quoted_class quote) c ≡ b → eqb c 38 ≡ false
        → cond {A = Step} b (Ok (Some (Literal (prefix_of (passes (quoted_class quote)) (c ∷ cs))), after (passes (quoted_class quote)) (c ∷ cs))) (Ok (None, c ∷ cs)) ≡ Ok p → PieceIs quote (c ∷ cs) p
    by_class true is other d =
        let run = run-takes (quoted_class quote) (quoted_class quote) (same_class (quoted_class quote)) (c ∷ cs) (prefix_of (passes (quoted_class quote)) (c ∷ cs), after (passes (quoted_class quote)) (c ∷ cs)) (rw is refl) in
        given (PieceIs quote (c ∷ cs)) (Some (Literal (prefix_of (passes (quoted_class quote)) (c ∷ cs)))) (after (passes (quoted_class quote)) (c ∷ cs)) p d run
    by_class false is other d = given (PieceIs quote (c ∷ cs)) None (c ∷ cs) p d (refl, either_false (eqb c 38) (passes (quoted_class quote) c) other is)

    by_ampersand : (b : Bool) → eqb c 38 ≡ b
        → cond {A = Step} b (reference_at cs >>= λ r. Ok (Some (Referred (placed (c ∷ cs) r.0)), r.1))
        (cond {A = Step} (passes (quoted_class quote) c) (Ok (Some (Literal (prefix_of (passes (quoted_class quote)) (c ∷ cs))), after (passes (quoted_class quote)) (c ∷ cs))) (Ok (None, c ∷ cs))) ≡ Ok p
        → PieceIs quote (c ∷ cs) p
    by_ampersand true is d =
        let r = bind_ok (reference_at cs) (λ r. Ok (Some (Referred (placed (c ∷ cs) r.0)), r.1)) p d in
        given (PieceIs quote (c ∷ cs)) (Some (Referred (placed (c ∷ cs) r.0.0))) r.0.1 p r.2
        (cs, ap (λ (x : ℕ). x ∷ cs) (eqb-true c 38 is), refl, reference-takes cs r.0 r.1)
    by_ampersand false is d = by_class (passes (quoted_class quote) c) refl is d

pieces-give : (quote : Quote) → GivesSpelled (IsPiece quote) (EndsPieces quote) (piece_at quote)
pieces-give quote = record { one = λ cs rest x e. piece-takes quote cs (Some x, rest) e; none = λ cs rest e. piece-takes quote cs (None, rest) e; shorter = pieces_shorten quote }

quoted-takes : (quote : Quote) (cs : List ℕ) (p : List Piece × List ℕ) → quoted_at quote cs ≡ Ok p → IsValue (mark_of quote ∷ cs) p.0 p.1
unfolding quoted_at
quoted-takes quote cs p e =
    let pieces = bind_ok (each (piece_at quote) cs) (λ x. character_at (mark_of quote) x.1 >>= λ rest. Ok (x.0, rest)) p e in
    let end = bind_ok (character_at (mark_of quote) pieces.0.1) (λ rest. Ok (pieces.0.0, rest)) p pieces.2 in
    let are = each-takes (IsPiece quote) (EndsPieces quote) (piece_at quote) (pieces-give quote) cs pieces.0 pieces.1 in
    given (λ q. IsValue (mark_of quote ∷ cs) q.0 q.1) pieces.0.0 end.0 p end.2
    (quote, cs, refl, subst (AreEach (IsPiece quote) (EndsPieces quote) cs pieces.0.0) (character-takes (mark_of quote) pieces.0.1 end.0 end.1) are)

value-takes : Takes IsValue value_at
value-takes [] p e = absurd cc
value-takes (c ∷ cs) p e = by_tests (eqb c 34) refl (eqb c 39) refl e
  where
    by_tests : (a : Bool) → eqb c 34 ≡ a → (b : Bool) → eqb c 39 ≡ b → cond a (quoted_at Double cs) (cond b (quoted_at Single cs) (Err (Unexpected, c ∷ cs))) ≡ Ok p → IsValue (c ∷ cs) p.0 p.1
    by_tests true e b f d = subst (λ (x : ℕ). IsValue (x ∷ cs) p.0 p.1) (sym (eqb-true c 34 e)) (quoted-takes Double cs p d)
    by_tests false e true f d = subst (λ (x : ℕ). IsValue (x ∷ cs) p.0 p.1) (sym (eqb-true c 39 f)) (quoted-takes Single cs p d)
    by_tests false e false f d = absurd cc

-- ---- attributes and tags

attribute-takes : Takes IsAttribute attribute_at
unfolding attribute_at
attribute-takes cs p e =
    let name = bind_ok (name_at cs) (λ n. character_at 61 (after_space n.1) >>= λ f. value_at (after_space f) >>= λ v. Ok (placed cs (record { name = n.0; value = v.0 }), v.1)) p e in
    let following = bind_ok (character_at 61 (after_space name.0.1)) (λ f. value_at (after_space f) >>= λ v. Ok (placed cs (record { name = name.0.0; value = v.0 }), v.1)) p name.2 in
    let value = bind_ok (value_at (after_space following.0)) (λ v. Ok (placed cs (record { name = name.0.0; value = v.0 }), v.1)) p following.2 in
    given (λ q. IsAttribute cs q.0 q.1) (placed cs (record { name = name.0.0; value = value.0.0 })) value.0.1 p value.2 (
      name.0.1,
      following.0,
      after_space following.0,
      refl,
      name-takes cs name.0 name.1,
      subst (IsSpace name.0.1) (character-takes 61 (after_space name.0.1) following.0 following.1) (space-takes name.0.1),
      space-takes following.0,
      value-takes (after_space following.0) value.0 value.1,
    )

abbrev AttributeIs : List ℕ → Option (At Attribute) × List ℕ → Type 0
AttributeIs cs (Some x, rest) = IsSpacedAttribute cs x rest
AttributeIs cs (None, rest) = EndsAttributes cs rest

attribute_after-takes : (cs ds : List ℕ) (spaced : Bool) (p : Option (At Attribute) × List ℕ) → begins Space cs ≡ spaced → IsSpace cs ds → attribute_after spaced ds ≡ Ok p → AttributeIs cs p
attribute_after-takes cs [] spaced p begun space e = given (AttributeIs cs) None [] p e (space, tt)
attribute_after-takes cs (c ∷ ds) spaced p begun space e = by_tests (passes NameStart c) refl spaced begun e
  where
    by_tests : (a : Bool) → passes NameStart c ≡ a → (b : Bool) → begins Space cs ≡ b
        → cond a (cond b (attribute_at (c ∷ ds) >>= λ x. Ok (Some x.0, x.1)) (Err (Unexpected, c ∷ ds))) (Ok (None, c ∷ ds)) ≡ Ok p → AttributeIs cs p
    by_tests true is true f d =
        let x = bind_ok (attribute_at (c ∷ ds)) (λ x. Ok (Some x.0, x.1)) p d in
        given (AttributeIs cs) (Some x.0.0) x.0.1 p x.2 (c ∷ ds, f, space, attribute-takes (c ∷ ds) x.0 x.1)
    by_tests true is false f d = absurd cc
    by_tests false is b f d = given (AttributeIs cs) None (c ∷ ds) p d (space, is)

next_attribute-takes : (cs : List ℕ) (p : Option (At Attribute) × List ℕ) → next_attribute_at cs ≡ Ok p → AttributeIs cs p
unfolding next_attribute_at
next_attribute-takes cs p e = attribute_after-takes cs (after_space cs) (begins Space cs) p refl (space-takes cs) e

pub attributes-takes : Takes AreAttributes (each next_attribute_at)
attributes-takes cs p e =
    each-takes IsSpacedAttribute EndsAttributes next_attribute_at
    (record { one = λ ds rest x is. next_attribute-takes ds (Some x, rest) is; none = λ ds rest is. next_attribute-takes ds (None, rest) is; shorter = attributes_shorten }) cs p e

tag_end-takes : Takes IsTagEnd tag_end_at
tag_end-takes [] p e = absurd cc
tag_end-takes (c ∷ cs) p e = by_tests (eqb c 62) refl (eqb c 47) refl e
  where
    by_tests : (a : Bool) → eqb c 62 ≡ a → (b : Bool) → eqb c 47 ≡ b
        → cond a (Ok (false, cs)) (cond b (character_at 62 cs >>= λ rest. Ok (true, rest)) (Err (Unexpected, c ∷ cs))) ≡ Ok p → IsTagEnd (c ∷ cs) p.0 p.1
    by_tests true e b f d = given (λ q. IsTagEnd (c ∷ cs) q.0 q.1) false cs p d (ap (λ (x : ℕ). x ∷ cs) (eqb-true c 62 e))
    by_tests false e true f d =
        let end = bind_ok (character_at 62 cs) (λ rest. Ok (true, rest)) p d in
        given (λ q. IsTagEnd (c ∷ cs) q.0 q.1) true end.0 p end.2
        (ap (λ (x : ℕ). x ∷ cs) (eqb-true c 47 f) ∙ ap (λ (x : List ℕ). 47 ∷ x) (character-takes 62 cs end.0 end.1))
    by_tests false e false f d = absurd cc

start_tag-takes : Takes IsStartTag start_tag_at
unfolding start_tag_at
start_tag-takes cs p e =
    let name = bind_ok (name_at cs) (λ n. each next_attribute_at n.1 >>= λ a. tag_end_at a.1 >>= λ e. Ok (record { name = n.0; attributes = a.0; empty = e.0 }, e.1)) p e in
    let attributes = bind_ok (each next_attribute_at name.0.1) (λ a. tag_end_at a.1 >>= λ e. Ok (record { name = name.0.0; attributes = a.0; empty = e.0 }, e.1)) p name.2 in
    let end = bind_ok (tag_end_at attributes.0.1) (λ e. Ok (record { name = name.0.0; attributes = attributes.0.0; empty = e.0 }, e.1)) p attributes.2 in
    given (λ q. IsStartTag cs q.0 q.1) (record { name = name.0.0; attributes = attributes.0.0; empty = end.0.0 }) end.0.1 p end.2
    (name.0.1, attributes.0.1, name-takes cs name.0 name.1, attributes-takes name.0.1 attributes.0 attributes.1, tag_end-takes attributes.0.1 end.0 end.1)

end_tag-takes : Takes IsEndTag end_tag_at
unfolding end_tag_at
end_tag-takes cs p e =
    let name = bind_ok (name_at cs) (λ n. character_at 62 (after_space n.1) >>= λ rest. Ok (placed cs n.0, rest)) p e in
    let end = bind_ok (character_at 62 (after_space name.0.1)) (λ rest. Ok (placed cs name.0.0, rest)) p name.2 in
    given (λ q. IsEndTag cs q.0 q.1) (placed cs name.0.0) end.0 p end.2
    (name.0.1, refl, name-takes cs name.0 name.1, subst (IsSpace name.0.1) (character-takes 62 (after_space name.0.1) end.0 end.1) (space-takes name.0.1))

-- ---- texts that end before a word

pub text-takes : (ending : Ending) (cs : List ℕ) → IsText ending cs (before_end ending cs) (from_end ending cs)
text-takes ending [] = (refl, tt)
text-takes ending (c ∷ cs) = by_test (text-takes ending cs) (is_end ending (c ∷ cs)) refl
  where
    by_test : IsText ending cs (before_end ending cs) (from_end ending cs) → (b : Bool) → is_end ending (c ∷ cs) ≡ b
        → IsText ending (c ∷ cs) (cond b [] (c ∷ before_end ending cs)) (cond b (c ∷ cs) (from_end ending cs))
    by_test more true e = (refl, tt)
    by_test more false e = (ap (λ (x : List ℕ). c ∷ x) more.0, (subst (λ (x : List ℕ). is_end ending (c ∷ x) ≡ false) more.0 e, more.1))

comment-takes : (cs : List ℕ) (p : Token × List ℕ) → comment_at cs ≡ Ok p → IsToken (60 ∷ 33 ∷ 45 ∷ cs) p.0 p.1
unfolding comment_at
comment-takes cs p e =
    let body = bind_ok (character_at 45 cs) (λ b. word_at (codes "-->") (from_end Comment b) >>= λ rest. Ok (Nothing, rest)) p e in
    let end = bind_ok (word_at (codes "-->") (from_end Comment body.0)) (λ rest. Ok (Nothing, rest)) p body.2 in
    let text : IsText Comment body.0 (before_end Comment body.0) (codes "-->" ++ end.0) =
    subst (IsText Comment body.0 (before_end Comment body.0)) (word-takes (codes "-->") (from_end Comment body.0) end.0 end.1) (text-takes Comment body.0) in
    given (λ q. IsToken (60 ∷ 33 ∷ 45 ∷ cs) q.0 q.1) Nothing end.0 p end.2
    (45 ∷ cs, inl (refl, (body.0, before_end Comment body.0, ap (λ (x : List ℕ). 45 ∷ x) (character-takes 45 cs body.0 body.1), text)))

section-takes : (cs : List ℕ) (p : Token × List ℕ) → section_at cs ≡ Ok p → IsToken (60 ∷ 33 ∷ 91 ∷ cs) p.0 p.1
unfolding section_at
section-takes cs p e =
    let body = bind_ok (word_at (codes "CDATA[") cs) (λ b. word_at (codes "]]>") (from_end SectionText b) >>= λ rest. Ok (Section (before_end SectionText b), rest)) p e in
    let end = bind_ok (word_at (codes "]]>") (from_end SectionText body.0)) (λ rest. Ok (Section (before_end SectionText body.0), rest)) p body.2 in
    let text : IsText SectionText body.0 (before_end SectionText body.0) (codes "]]>" ++ end.0) =
    subst (IsText SectionText body.0 (before_end SectionText body.0)) (word-takes (codes "]]>") (from_end SectionText body.0) end.0 end.1) (text-takes SectionText body.0) in
    given (λ q. IsToken (60 ∷ 33 ∷ 91 ∷ cs) q.0 q.1) (Section (before_end SectionText body.0)) end.0 p end.2
    (91 ∷ cs, refl, (body.0, ap (λ (x : List ℕ). 91 ∷ x) (word-takes (codes "CDATA[") cs body.0 body.1), text))

exclaimed-takes : (start cs : List ℕ) (p : Token × List ℕ) → exclaimed_at start cs ≡ Ok p → IsToken (60 ∷ 33 ∷ cs) p.0 p.1
exclaimed-takes start [] p e = absurd cc
exclaimed-takes start (c ∷ cs) p e = by_tests (eqb c 45) refl (eqb c 91) refl (stands (codes "DOCTYPE") (c ∷ cs)) e
  where
    by_tests : (a : Bool) → eqb c 45 ≡ a → (b : Bool) → eqb c 91 ≡ b → (d : Bool)
        → cond a (comment_at cs) (cond b (section_at cs) (cond d (Err (Doctype, start)) (Err (Unexpected, c ∷ cs)))) ≡ Ok p → IsToken (60 ∷ 33 ∷ c ∷ cs) p.0 p.1
    by_tests true e b f d h = subst (λ (x : ℕ). IsToken (60 ∷ 33 ∷ x ∷ cs) p.0 p.1) (sym (eqb-true c 45 e)) (comment-takes cs p h)
    by_tests false e true f d h = subst (λ (x : ℕ). IsToken (60 ∷ 33 ∷ x ∷ cs) p.0 p.1) (sym (eqb-true c 91 f)) (section-takes cs p h)
    by_tests false e false f true h = absurd cc
    by_tests false e false f false h = absurd cc

instruction_text-takes : (cs : List ℕ) → IsInstructionText cs (cond (begins Space cs) (from_end Instruction cs) cs)
instruction_text-takes cs = by_test (begins Space cs) refl
  where
    by_test : (b : Bool) → begins Space cs ≡ b → IsInstructionText cs (cond b (from_end Instruction cs) cs)
    by_test true e = inr (e, (before_end Instruction cs, text-takes Instruction cs))
    by_test false e = inl refl

instruction-takes : (start cs : List ℕ) (p : Token × List ℕ) → instruction_at start cs ≡ Ok p → IsToken (60 ∷ 63 ∷ cs) p.0 p.1
unfolding instruction_at
instruction-takes start cs p e =
    let target = bind_ok (plain_name_at cs) (λ t. instruction_end_at start t.0 t.1) p e in
    let a = target.0.1 in
    let free = guard_ok (is_reserved target.0.0) (word_at (codes "?>") (cond (begins Space a) (from_end Instruction a) a) >>= λ rest. Ok (Nothing, rest)) (ReservedTarget, start) p target.2 in
    let end = bind_ok (word_at (codes "?>") (cond (begins Space a) (from_end Instruction a) a)) (λ rest. Ok (Nothing, rest)) p free.1 in
    given (λ q. IsToken (60 ∷ 63 ∷ cs) q.0 q.1) Nothing end.0 p end.2 (
      cs,
      inr (
        refl,
        (
          target.0.0,
          a,
          plain_name-takes cs target.0 target.1,
          free.0,
          subst (IsInstructionText a) (word-takes (codes "?>") (cond (begins Space a) (from_end Instruction a) a) end.0 end.1) (instruction_text-takes a),
        ),
      ),
    )

markup-takes : (start cs : List ℕ) (p : Token × List ℕ) → markup_at start cs ≡ Ok p → IsToken (60 ∷ cs) p.0 p.1
markup-takes start [] p e = absurd cc
markup-takes start (c ∷ cs) p e = by_tests (eqb c 47) refl (eqb c 33) refl (eqb c 63) refl e
  where
    by_tests : (a : Bool) → eqb c 47 ≡ a → (b : Bool) → eqb c 33 ≡ b → (d : Bool) → eqb c 63 ≡ d
        → cond a (end_tag_at cs >>= λ n. Ok (End n.0, n.1)) (cond b (exclaimed_at start cs) (cond d (instruction_at start cs) (start_tag_at (c ∷ cs) >>= λ t. Ok (Start t.0, t.1)))) ≡ Ok p
        → IsToken (60 ∷ c ∷ cs) p.0 p.1
    by_tests true e b f d g h =
        let name = bind_ok (end_tag_at cs) (λ n. Ok (End n.0, n.1)) p h in
        given (λ q. IsToken (60 ∷ c ∷ cs) q.0 q.1) (End name.0.0) name.0.1 p name.2 (cs, ap (λ (x : ℕ). 60 ∷ x ∷ cs) (eqb-true c 47 e), end_tag-takes cs name.0 name.1)
    by_tests false e true f d g h = subst (λ (x : ℕ). IsToken (60 ∷ x ∷ cs) p.0 p.1) (sym (eqb-true c 33 f)) (exclaimed-takes start cs p h)
    by_tests false e false f true g h = subst (λ (x : ℕ). IsToken (60 ∷ x ∷ cs) p.0 p.1) (sym (eqb-true c 63 g)) (instruction-takes start cs p h)
    by_tests false e false f false g h =
        let tag = bind_ok (start_tag_at (c ∷ cs)) (λ t. Ok (Start t.0, t.1)) p h in
        given (λ q. IsToken (60 ∷ c ∷ cs) q.0 q.1) (Start tag.0.0) tag.0.1 p tag.2 (c ∷ cs, refl, start_tag-takes (c ∷ cs) tag.0 tag.1)

-- ---- tokens

abbrev EndsAs : List ℕ → List ℕ → Token × List ℕ → Type 0
EndsAs t rest p = (p ≡ (Characters t, rest)) × EndsData rest

characters_end-takes : (t ds : List ℕ) (p : Token × List ℕ) → characters_end_at t ds ≡ Ok p → EndsAs t ds p
characters_end-takes t [] p e = given (EndsAs t []) (Characters t) [] p e (refl, tt)
characters_end-takes t (c ∷ ds) p e = by_test (eqb c 60 || eqb c 38) refl e
  where
    by_test : (b : Bool) → eqb c 60 || eqb c 38 ≡ b → cond b (Ok (Characters t, c ∷ ds)) (word_at (codes "]]") (c ∷ ds) >>= λ bracket. Err (Unexpected, bracket)) ≡ Ok p → EndsAs t (c ∷ ds) p
    by_test true is d = given (EndsAs t (c ∷ ds)) (Characters t) (c ∷ ds) p d (refl, is)
    by_test false is d =
        let never = (bind_ok (word_at (codes "]]") (c ∷ ds)) (λ bracket. Err (Unexpected, bracket)) p d).2 in
        absurd cc

characters-takes : (c : ℕ) (cs : List ℕ) (p : Token × List ℕ) → eqb c 60 || eqb c 38 ≡ false → characters_at (c ∷ cs) ≡ Ok p → IsToken (c ∷ cs) p.0 p.1
characters-takes c cs p plain e = by_test (is_end Data (c ∷ cs)) refl
  where
    by_test : (b : Bool) → is_end Data (c ∷ cs) ≡ b → IsToken (c ∷ cs) p.0 p.1
    by_test true is =
        let d : characters_end_at [] (c ∷ cs) ≡ Ok p = rw is at e in
        let ends = (characters_end-takes [] (c ∷ cs) p d).1 in
        absurd (true≢false (sym ends ∙ plain))
    by_test false is =
        let ends = characters_end-takes (before_end Data (c ∷ cs)) (from_end Data (c ∷ cs)) p e in
        let filled : is_filled (before_end Data (c ∷ cs)) ≡ true = rw is refl in
        subst (λ (q : Token × List ℕ). IsToken (c ∷ cs) q.0 q.1) (sym ends.0) (filled, text-takes Data (c ∷ cs), ends.1)

token_from-takes : (c : ℕ) (cs : List ℕ) (p : Token × List ℕ) → token_from c cs ≡ Ok p → IsToken (c ∷ cs) p.0 p.1
token_from-takes c cs p e = by_tests (eqb c 60) refl (eqb c 38) refl e
  where
    by_tests : (a : Bool) → eqb c 60 ≡ a → (b : Bool) → eqb c 38 ≡ b
        → cond a (markup_at (c ∷ cs) cs) (cond b (reference_at cs >>= λ r. Ok (Refers r.0, r.1)) (characters_at (c ∷ cs))) ≡ Ok p → IsToken (c ∷ cs) p.0 p.1
    by_tests true e b f d = subst (λ (x : ℕ). IsToken (x ∷ cs) p.0 p.1) (sym (eqb-true c 60 e)) (markup-takes (c ∷ cs) cs p d)
    by_tests false e true f d =
        let r = bind_ok (reference_at cs) (λ r. Ok (Refers r.0, r.1)) p d in
        given (λ q. IsToken (c ∷ cs) q.0 q.1) (Refers r.0.0) r.0.1 p r.2 (cs, ap (λ (x : ℕ). x ∷ cs) (eqb-true c 38 f), reference-takes cs r.0 r.1)
    by_tests false e false f d = characters-takes c cs p (either_false (eqb c 60) (eqb c 38) e f) d

pub begun_ok : {X : Type 0} (start : List ℕ) (r : Result X Refusal) (y : X) → begun_at start r ≡ Ok y → r ≡ Ok y
begun_ok start (Ok x) y e = e
begun_ok start (Err f) y e = absurd cc

-- what is read the text spells
pub token-takes : (cs : List ℕ) (p : Option (At Token) × List ℕ) → token_at cs ≡ Ok p → IsNext cs p.0 p.1
token-takes [] p e = given (λ q. IsNext [] q.0 q.1) None [] p e (refl, refl)
token-takes (c ∷ cs) p e =
    let token = bind_ok (begun_at (c ∷ cs) (token_from c cs)) (λ t. Ok (Some (placed (c ∷ cs) t.0), t.1)) p e in
    given (λ q. IsNext (c ∷ cs) q.0 q.1) (Some (placed (c ∷ cs) token.0.0)) token.0.1 p token.2 (refl, token_from-takes c cs token.0 (begun_ok (c ∷ cs) (token_from c cs) token.0 token.1))
