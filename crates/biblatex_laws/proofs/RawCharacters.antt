-- What a text of characters holds is made of characters.
use Rattle.std.proofs.Common.{◌≡◌, ℕ, Bool, List, [], ◌∷◌, ◌++◌, inl, inr, Ok, refl, sym, ap, subst, flat_map}
use Rattle.std.specs.List.{AllByRecursion}
use Rattle.laws.specs.Characters.{open_parenthesis, open_brace, close_brace, double_quote, number_sign, percent_sign, line_feed, equals_sign, at_sign, comma}
use Rattle.biblatex_text.specs.Items.{raw_of}
use Rattle.biblatex_text.specs.Raw.{At, Piece, normal, abbreviation, Field, Item, nothing, definitions, an_entry, Raw, abbreviations_of, entries_of}
use Rattle.biblatex_grammar.specs.Balanced.{Inside, Braces, Quotes, Remark, IsBalanced}
use Rattle.biblatex_grammar.specs.Characters.{IsRun}
use Rattle.biblatex_grammar.specs.Gaps.{Part, character, hidden, AreParts, EndsLine, IsAfterGap, IsGap, IsPart}
use Rattle.biblatex_grammar.specs.Items.{AreFields, AreItems, EndsOrGoesOn, IsBody, IsComment, IsField, IsItem, IsOpened, IsPreamble}
use Rattle.biblatex_grammar.specs.Values.{AreFurther, ArePieces, IsBare, IsBraced, IsIdentifier, IsPiece, IsQuoted, IsValue}
use Rattle.biblatex_grammar.proofs.Laws.{read-held}
use Rattle.biblatex_laws.specs.Raw.{AreCharacters, AreFieldsText, ArePiecesText, IsEntryText, IsFieldText, IsItemText, IsPieceText, IsRawText}
use Rattle.biblatex_laws.proofs.CharacterLists.{left, right, tail}

-- what is read, and the text that follows
abbrev With : Type 0 → List ℕ → Type 0
With P rest = P × AreCharacters rest

ends_line : (cs rest : List ℕ) → AreCharacters cs → EndsLine cs rest → AreCharacters rest
ends_line cs rest p (inl e) = tail line_feed rest (subst AreCharacters e p)
ends_line cs rest p (inr (e, f)) = subst AreCharacters (sym f) refl

part : (test : ℕ → Bool) (cs : List ℕ) (q : Part) (rest : List ℕ) → AreCharacters cs → IsPart test cs q rest → AreCharacters rest
part test cs (character c) rest p h = tail c rest (subst AreCharacters h.0 p)
part test cs (hidden t) rest p (a, is, all, ends) = ends_line a rest (right t a (tail percent_sign (t ++ a) (subst AreCharacters is p))) ends

parts : (test : ℕ → Bool) (cs : List ℕ) (qs : List Part) (rest : List ℕ) → AreCharacters cs → AreParts test cs qs rest → AreCharacters rest
parts test cs [] rest p h = subst AreCharacters h.0 p
parts test cs (q ∷ qs) rest p (a, one, more) = parts test a qs rest (part test cs q a p one) more

gap : (cs rest : List ℕ) → AreCharacters cs → IsGap cs rest → AreCharacters rest
gap cs rest p (qs, h) = parts _ cs qs rest p h

after_gap : (mark : ℕ) (cs rest : List ℕ) → AreCharacters cs → IsAfterGap mark cs rest → AreCharacters rest
after_gap mark cs rest p h = tail mark rest (gap cs (mark ∷ rest) p h)

run : (test : ℕ → Bool) (cs t rest : List ℕ) → AreCharacters cs → IsRun test cs t rest → With (AreCharacters t) rest
run test cs t rest p h = let q = subst AreCharacters h.0 p in (left t rest q, right t rest q)

identifier : (n : ℕ) (cs : List ℕ) (name : At (List ℕ)) (rest : List ℕ) → AreCharacters cs → IsIdentifier n cs name rest → With (AreCharacters name.v) rest
identifier n cs name rest p h = run _ cs name.v rest p h.1

balanced : (inside : Inside) (mark : ℕ) (cs t rest : List ℕ) → AreCharacters cs → IsBalanced inside mark cs t rest → With (AreCharacters t) rest
balanced inside mark cs t rest p h = let q = subst AreCharacters h.3 p in (left t (mark ∷ rest) q, tail mark rest (right t (mark ∷ rest) q))

braced : (n : ℕ) (cs : List ℕ) (q : At Piece) (rest : List ℕ) → AreCharacters cs → IsBraced n cs q rest → With (IsPieceText q.v) rest
braced n cs q rest p (a, t, is, text, spells, at) =
    let h = balanced Braces close_brace a t rest (tail open_brace a (subst AreCharacters is p)) text in
    (subst IsPieceText (sym spells) h.0, h.1)

quoted : (n : ℕ) (cs : List ℕ) (q : At Piece) (rest : List ℕ) → AreCharacters cs → IsQuoted n cs q rest → With (IsPieceText q.v) rest
quoted n cs q rest p (a, t, is, text, spells, at) =
    let h = balanced Quotes double_quote a t rest (tail double_quote a (subst AreCharacters is p)) text in
    (subst IsPieceText (sym spells) h.0, h.1)

bare : (t : List ℕ) (q : Piece) → AreCharacters t → IsBare t q → IsPieceText q
bare t (normal s) p h = subst AreCharacters (sym h.1) p
bare t (abbreviation s) p h = subst AreCharacters (sym h.1) p

piece : (n : ℕ) (cs : List ℕ) (q : At Piece) (rest : List ℕ) → AreCharacters cs → IsPiece n cs q rest → With (IsPieceText q.v) rest
piece n cs q rest p (inl h) = braced n cs q rest p h
piece n cs q rest p (inr (inl h)) = quoted n cs q rest p h
piece n cs q rest p (inr (inr (t, h, filled, is, at))) = let r = run _ cs t rest p h in (bare t q.v r.0 is, r.1)

further : (n : ℕ) (cs : List ℕ) (qs : List (At Piece)) (rest : List ℕ) → AreCharacters cs → AreFurther n cs qs rest → With (ArePiecesText qs) rest
further n cs [] rest p h = (tt, subst AreCharacters h p)
further n cs (q ∷ qs) rest p (a, b, c, sign, space, one, more) =
    let first = piece n b q c (gap a b (after_gap number_sign cs a p sign) space) one in
    let others = further n c qs rest first.1 more in
    ((first.0, others.0), others.1)

pieces : (n : ℕ) (cs : List ℕ) (qs : List (At Piece)) (rest : List ℕ) → AreCharacters cs → ArePieces n cs qs rest → With (ArePiecesText qs) rest
pieces n cs [] rest p h = absurd h
pieces n cs (q ∷ qs) rest p (a, one, more, last) =
    let first = piece n cs q a p one in
    let others = further n a qs rest first.1 more in
    ((first.0, others.0), others.1)

value : (n : ℕ) (cs : List ℕ) (v : At (List (At Piece))) (rest : List ℕ) → AreCharacters cs → IsValue n cs v rest → With (ArePiecesText v.v) rest
value n cs v rest p h = pieces n cs v.v rest p h.0

field : (n : ℕ) (cs : List ℕ) (f : Field) (rest : List ℕ) → AreCharacters cs → IsField n cs f rest → With (IsFieldText f) rest
field n cs f rest p (a, b, c, named, sign, space, spelled) =
    let name = identifier n cs f.name a p named in
    let v = value n c f.value rest (gap b c (after_gap equals_sign a b name.1 sign) space) spelled in
    (record { name = name.0; pieces = v.0 }, v.1)

-- after a key or a value
ends_or : (closing : ℕ) (fs : List Field) (Next : List ℕ → Type 0) (cs rest : List ℕ) → AreCharacters cs → ((c : List ℕ) → AreCharacters c → Next c → With (AreFieldsText fs) rest)
    → EndsOrGoesOn closing fs Next cs rest → With (AreFieldsText fs) rest
ends_or closing [] Next cs rest p more (inl h) = (tt, after_gap closing cs rest p h)
ends_or closing (f ∷ fs) Next cs rest p more (inl h) = absurd h
ends_or closing fs Next cs rest p more (inr (a, sign, next)) = more a (after_gap comma cs a p sign) next

fields : (n closing : ℕ) (cs : List ℕ) (fs : List Field) (rest : List ℕ) → AreCharacters cs → AreFields n closing cs fs rest → With (AreFieldsText fs) rest
fields n closing cs [] rest p h = (tt, after_gap closing cs rest p h)
fields n closing cs (f ∷ fs) rest p (a, b, space, one, next) =
    let first = field n a f b (gap cs a p space) one in
    let others = ends_or closing fs (λ c. AreFields n closing c fs rest) b rest first.1 (λ c q h. fields n closing c fs rest q h) next in
    ((first.0, others.0), others.1)

opened : (cs : List ℕ) (closing : ℕ) (rest : List ℕ) → AreCharacters cs → IsOpened cs closing rest → AreCharacters rest
opened cs closing rest p (inl (is, e)) = tail open_brace rest (subst AreCharacters e p)
opened cs closing rest p (inr (is, e)) = tail open_parenthesis rest (subst AreCharacters e p)

comment : (cs rest : List ℕ) → AreCharacters cs → IsComment cs rest → AreCharacters rest
comment cs rest p (inl (a, t, is, text)) = (balanced Remark close_brace a t rest (tail open_brace a (subst AreCharacters is p)) text).1
comment cs rest p (inr (is, none)) = subst AreCharacters is p

preamble : (n closing : ℕ) (cs rest : List ℕ) → AreCharacters cs → IsPreamble n closing cs rest → AreCharacters rest
preamble n closing cs rest p (a, b, v, space, spelled, ends) = after_gap closing b rest (value n a v b (gap cs a p space) spelled).1 ends

body : (n : ℕ) (kind : At (List ℕ)) (cs : List ℕ) (i : Item) (rest : List ℕ) → AreCharacters kind.v → AreCharacters cs → IsBody n kind cs i rest → With (IsItemText i) rest
body n kind cs nothing rest k p (inl (word, h)) = (tt, comment cs rest p h)
body n kind cs nothing rest k p (inr (word, (a, closing, opens, h))) = (tt, preamble n closing a rest (opened cs closing a p opens) h)
body n kind cs (definitions fs) rest k p (word, (a, closing, opens, h)) = fields n closing a fs rest (opened cs closing a p opens) h
body n kind cs (an_entry e) rest k p (other, same, (a, closing, opens, (b, c, space, key, next))) =
    let r = run _ b e.key.v c (gap a b (opened cs closing a p opens) space) key.0 in
    let fs = ends_or closing e.fields (λ d. AreFields n closing d e.fields rest) c rest r.1 (λ d q h. fields n closing d e.fields rest q h) next in
    (record { kind = subst AreCharacters (ap (λ (x : At (List ℕ)). x.v) (sym same)) k; key = r.0; fields = fs.0 }, fs.1)

item : (n : ℕ) (cs : List ℕ) (i : At Item) (rest : List ℕ) → AreCharacters cs → IsItem n cs i rest → With (IsItemText i.v) rest
item n cs i rest p (a, b, c, d, kind, is, space, named, more, h, at) =
    let name = identifier n b kind c (gap a b (tail at_sign a (subst AreCharacters is p)) space) named in
    body n kind d i.v rest name.0 (gap c d name.1 more) h

items : (n : ℕ) (cs : List ℕ) (is : List (At Item)) → AreCharacters cs → AreItems n cs is → AllByRecursion (λ i. IsItemText i.v) is
items n cs [] p h = tt
items n cs (i ∷ is) p (a, b, (qs, skipped), one, more) =
    let first = item n a i b (parts _ cs qs a p skipped) one in
    (first.0, items n b is first.1 more)

all_after : {X : Type 0} (P : X → Type 0) (xs ys : List X) → AllByRecursion P xs → AllByRecursion P ys → AllByRecursion P (xs ++ ys)
all_after P [] ys h g = g
all_after P (x ∷ xs) ys h g = (h.0, all_after P xs ys h.1 g)

entries_in : (i : At Item) → IsItemText i.v → AllByRecursion (λ e. IsEntryText e.v) (entries_of i)
entries_in i = by i.v
  where
    by : (v : Item) → IsItemText v → AllByRecursion (λ e. IsEntryText e.v) (entries_of (record { v = v; start = i.start; end = i.end }))
    by nothing h = tt
    by (definitions fs) h = tt
    by (an_entry e) h = (h, tt)

abbreviations_in : (i : At Item) → IsItemText i.v → AreFieldsText (abbreviations_of i)
abbreviations_in i = by i.v
  where
    by : (v : Item) → IsItemText v → AreFieldsText (abbreviations_of (record { v = v; start = i.start; end = i.end }))
    by nothing h = tt
    by (definitions fs) h = h
    by (an_entry e) h = tt

all_entries : (is : List (At Item)) → AllByRecursion (λ i. IsItemText i.v) is → AllByRecursion (λ e. IsEntryText e.v) (flat_map entries_of is)
all_entries [] all = tt
all_entries (i ∷ is) all = all_after (λ e. IsEntryText e.v) (entries_of i) (flat_map entries_of is) (entries_in i all.0) (all_entries is all.1)

all_abbreviations : (is : List (At Item)) → AllByRecursion (λ i. IsItemText i.v) is → AreFieldsText (flat_map abbreviations_of is)
all_abbreviations [] all = tt
all_abbreviations (i ∷ is) all = all_after IsFieldText (abbreviations_of i) (flat_map abbreviations_of is) (abbreviations_in i all.0) (all_abbreviations is all.1)

pub raw_is_text : (cs : List ℕ) (raw : Raw) → AreCharacters cs → raw_of cs ≡ Ok raw → IsRawText raw
raw_is_text cs raw p read =
    let held = read-held cs raw read in
    let all = items _ cs held.0 p held.1 in
    subst IsRawText (sym held.2) (record { entries = all_entries held.0 all; abbreviations = all_abbreviations held.0 all })
