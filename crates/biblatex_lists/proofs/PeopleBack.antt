-- People that were written are read back.
use Rattle.std.proofs.Common.{◌≡◌, ℕ, Bool, true, false, not, ◌==◌, ◌&&◌, ◌||◌, List, [], ◌∷◌, ◌++◌, map, None, refl, sym, ap, ◌∙◌, append_assoc}
use Rattle.std.proofs.lemmas.List.{append-nil}
use Rattle.std.proofs.lemmas.Bool.{eqb-true}
use Rattle.std.specs.List.{list_any, list_all, flat_map, filter}
use Rattle.biblatex_content.specs.Styled.{Member, letters}
use Rattle.biblatex_lists.specs.declared.styled_char.StyledChar.{StyledChar}
use Rattle.biblatex_lists.specs.StyledChars.{of_style, styled_chars, plain}
use Rattle.biblatex_lists.specs.Parts.{trimmed, parts}
use Rattle.laws.specs.Characters as character
use Rattle.laws.specs.Text.{is_filled}
use Rattle.biblatex_lists.specs.Writing.{kind, and_word, after_and, space, is_loose, holds}
use Rattle.biblatex_lists.proofs.PartsTested.{and_first, and_second}
use Rattle.biblatex_lists.proofs.StyledCharsTexts.{chars_of_letters, chars_of_both, plain_of_style}
use Rattle.biblatex_lists.proofs.WritingJoined.{AreParts, past_first, parts_joined}
use Rattle.biblatex_lists.proofs.ReadBack.{nowhere_and, nowhere_two_gaps, trimmed_already}
use Rattle.biblatex_lists.specs.declared.words.Mark.TheVariants.{Comma, Equals}
use Rattle.biblatex_lists.specs.Words.{is_mark, split_once, cut_at, words, joined_words}
use Rattle.biblatex_lists.specs.Reading.{Named, is_named, with_commas, by_parts, person_of, person_in, is_someone, is_letter, is_others, ends_in_others, without_others, people_of}
use Rattle.biblatex_lists.specs.PeopleWriting.{is_steady, is_name, written_part, written_name, before_name, after_name, given_after, written_person, written_people}
use Rattle.biblatex_lists.specs.PeopleLaws.{is_prefix, is_read_back, AreReadBack, PeopleReadBack, is_capitalised, is_plain_person, PlainPeopleAreReadBack}
use Rattle.biblatex_lists.proofs.WordsWindows.{comma, comma_before}
use Rattle.biblatex_lists.proofs.WritingFields.{IsField, nowhere_loose, field_before_comma, field_has_no_comma, cut_before, cut_nowhere, no_pair, joined_field, part_field}
use Rattle.biblatex_lists.proofs.WritingLeading.{IsLeading, name_chars, part_chars, leading_without, leading_with}

-- what stands after the last comma, and after the first one
abbrev given_rest : List StyledChar → List StyledChar
given_rest [] = []
given_rest (s ∷ g) = space ∷ s ∷ g

abbrev tail_rest : List StyledChar → List StyledChar → List StyledChar
tail_rest [] g = given_rest g
tail_rest (c ∷ s) g = space ∷ (c ∷ s) ++ comma ∷ given_rest g

-- a person as characters: the name, the suffix and the given name
abbrev person_chars : List StyledChar → List StyledChar → List StyledChar → List StyledChar
person_chars x s g = x ++ comma ∷ tail_rest s g

-- nothing in it parts people
given_fine : (g : List StyledChar) → IsField g → holds is_loose (given_rest g ++ space ∷ []) ≡ false
given_fine [] f = refl
given_fine (s ∷ g) f = nowhere_loose (space ∷ s ∷ g ++ space ∷ []) (f.steady refl)

tail_fine : (s g : List StyledChar) → IsField s → IsField g → holds is_loose (tail_rest s g ++ space ∷ []) ≡ false
tail_fine [] g fs fg = given_fine g fg
tail_fine (c ∷ s) g fs fg =
    ap (λ (ss : List StyledChar). holds is_loose (space ∷ ss)) (append_assoc (c ∷ s) (comma ∷ given_rest g) (space ∷ []))
    ∙ field_before_comma (c ∷ s) (given_rest g ++ space ∷ []) fs (comma_before (given_rest g ++ space ∷ []) (given_fine g fg))

person_fine : (x s g : List StyledChar) (prefix name : List ℕ) → IsLeading x prefix name → IsField s → IsField g → holds is_loose (space ∷ person_chars x s g ++ space ∷ []) ≡ false
person_fine x s g prefix name fx fs fg =
    ap (λ (ss : List StyledChar). holds is_loose (space ∷ ss)) (append_assoc x (comma ∷ tail_rest s g) (space ∷ []))
    ∙ fx.fine (tail_rest s g ++ space ∷ []) (comma_before (tail_rest s g ++ space ∷ []) (tail_fine s g fs fg))

-- it is one part between commas
given_parts : (g : List StyledChar) → IsField g → cut_at Comma (given_rest g) ≡ given_rest g ∷ []
given_parts [] f = refl
given_parts (s ∷ g) f = cut_nowhere Comma (space ∷ s ∷ g) (field_has_no_comma (s ∷ g) f)

-- the words of what stands after a comma
given_words : (g : List StyledChar) → words (given_rest g) ≡ words g
given_words [] = refl
given_words (s ∷ g) = refl

-- a first part that is no pair makes it a name by commas
by_commas : (x : List StyledChar) (ps : List (List StyledChar)) → list_any (is_mark Equals) x ≡ false → person_of (x ∷ ps) ≡ by_parts (x ∷ ps)
by_commas x ps e =
    let none : split_once Equals x ≡ None = no_pair x e in
    rw none refl

-- a name of these parts
abbrev name_of : List ℕ → List ℕ → List ℕ → List ℕ → Named
name_of prefix name suffix given = record { name = name; given_name = given; prefix = prefix; suffix = suffix }

of_words : (x : List StyledChar) (prefix name suffix given : List ℕ) (ws gs : List (List StyledChar)) → IsLeading x prefix name → joined_words ws ≡ suffix → joined_words gs ≡ given → with_commas (words x) ws gs ≡ name_of prefix name suffix given
of_words x prefix name suffix given ws gs fx es eg = four fx.before fx.following es eg
  where
    four : {a b c d : List ℕ} → a ≡ prefix → b ≡ name → c ≡ suffix → d ≡ given → name_of a b c d ≡ name_of prefix name suffix given
    four pa pb pc pd = rw (pa, pb, pc, pd) refl

read_person : (x s g : List StyledChar) (prefix name : List ℕ) → IsLeading x prefix name → IsField s → IsField g → person_in (person_chars x s g) ≡ name_of prefix name (plain s) (plain g)
read_person x [] g prefix name fx fs fg =
    ap person_of (cut_before x (given_rest g) fx.commas ∙ ap (λ (ps : List (List StyledChar)). x ∷ ps) (given_parts g fg))
    ∙ (by_commas x (given_rest g ∷ []) fx.equals ∙ of_words x prefix name [] (plain g) [] (words (given_rest g)) fx refl (ap joined_words (given_words g) ∙ joined_field g fg))
read_person x (c ∷ s) g prefix name fx fs fg =
    ap person_of (cut_before x (space ∷ (c ∷ s) ++ comma ∷ given_rest g) fx.commas
    ∙ ap (λ (ps : List (List StyledChar)). x ∷ ps) (cut_before (space ∷ c ∷ s) (given_rest g) (field_has_no_comma (c ∷ s) fs) ∙ ap (λ (ps : List (List StyledChar)). (space ∷ c ∷ s) ∷ ps) (given_parts g fg)))
    ∙ (by_commas x ((space ∷ c ∷ s) ∷ given_rest g ∷ []) fx.equals
    ∙ of_words x prefix name (plain (c ∷ s)) (plain g) (words (c ∷ s)) (words (given_rest g) ++ []) fx (joined_field (c ∷ s) fs) (ap joined_words (append-nil (words (given_rest g)) ∙ given_words g) ∙ joined_field g fg))

-- a text with a comma is not `others`
not_comma : (c : ℕ) (s : StyledChar) → (c == character.comma) ≡ false → is_letter c s ≡ true → is_mark Comma s ≡ false
not_comma c s other e = rw (eqb-true s.c c (and_second s.is_normal (s.c == c) e), other) (and_false s.is_normal)
  where
    and_false : (b : Bool) → b && false ≡ false
    and_false true = refl
    and_false false = refl

others_has_no_comma : (o t h e r s : StyledChar) → is_others (o ∷ t ∷ h ∷ e ∷ r ∷ s ∷ []) ≡ true → list_any (is_mark Comma) (o ∷ t ∷ h ∷ e ∷ r ∷ s ∷ []) ≡ false
others_has_no_comma o t h e r s all =
    let five = and_first (is_letter character.lower_o o && is_letter character.lower_t t && is_letter character.lower_h h && is_letter character.lower_e e && is_letter character.lower_r r) (is_letter character.lower_s s) all in
    let four = and_first (is_letter character.lower_o o && is_letter character.lower_t t && is_letter character.lower_h h && is_letter character.lower_e e) (is_letter character.lower_r r) five in
    let three = and_first (is_letter character.lower_o o && is_letter character.lower_t t && is_letter character.lower_h h) (is_letter character.lower_e e) four in
    let two = and_first (is_letter character.lower_o o && is_letter character.lower_t t) (is_letter character.lower_h h) three in
    let is_o = not_comma character.lower_o o refl (and_first (is_letter character.lower_o o) (is_letter character.lower_t t) two) in
    let is_t = not_comma character.lower_t t refl (and_second (is_letter character.lower_o o) (is_letter character.lower_t t) two) in
    let is_h = not_comma character.lower_h h refl (and_second (is_letter character.lower_o o && is_letter character.lower_t t) (is_letter character.lower_h h) three) in
    let is_e = not_comma character.lower_e e refl (and_second (is_letter character.lower_o o && is_letter character.lower_t t && is_letter character.lower_h h) (is_letter character.lower_e e) four) in
    let is_r = not_comma character.lower_r r refl (and_second (is_letter character.lower_o o && is_letter character.lower_t t && is_letter character.lower_h h && is_letter character.lower_e e) (is_letter character.lower_r r) five) in
    let is_s = not_comma character.lower_s s refl (and_second (is_letter character.lower_o o && is_letter character.lower_t t && is_letter character.lower_h h && is_letter character.lower_e e && is_letter character.lower_r r) (is_letter character.lower_s s) all) in
    rw (is_o, is_t, is_h, is_e, is_r, is_s) refl

has_comma : (x rest : List StyledChar) → list_any (is_mark Comma) (x ++ comma ∷ rest) ≡ true
has_comma [] rest = refl
has_comma (s ∷ x) rest = rw (has_comma x rest) (or_true (is_mark Comma s))
  where
    or_true : (b : Bool) → b || true ≡ true
    or_true true = refl
    or_true false = refl

comma_not_others : (ss : List StyledChar) → list_any (is_mark Comma) ss ≡ true → is_others ss ≡ false
comma_not_others [] e = refl
comma_not_others (o ∷ []) e = refl
comma_not_others (o ∷ t ∷ []) e = refl
comma_not_others (o ∷ t ∷ h ∷ []) e = refl
comma_not_others (o ∷ t ∷ h ∷ r ∷ []) e = refl
comma_not_others (o ∷ t ∷ h ∷ r ∷ s ∷ []) e = refl
comma_not_others (o ∷ t ∷ h ∷ f ∷ r ∷ s ∷ []) e = by_test (is_others (o ∷ t ∷ h ∷ f ∷ r ∷ s ∷ [])) refl
  where
    by_test : (b : Bool) → is_others (o ∷ t ∷ h ∷ f ∷ r ∷ s ∷ []) ≡ b → b ≡ false
    by_test false k = refl
    by_test true k = sym e ∙ others_has_no_comma o t h f r s k
comma_not_others (o ∷ t ∷ h ∷ f ∷ r ∷ s ∷ u ∷ ss) e = refl

-- the prefix and the name of a person, as characters
abbrev leading_chars : List ℕ → List ℕ → List StyledChar
leading_chars [] name = name_chars name
leading_chars (c ∷ p) name = part_chars (c ∷ p) ++ space ∷ name_chars name

abbrev chars_of : Named → List StyledChar
chars_of n = person_chars (leading_chars n.prefix n.name) (part_chars n.suffix) (part_chars n.given_name)

-- what is written of the given name and the suffix
given_chars : (g : List ℕ) → styled_chars (given_after g) ≡ comma ∷ given_rest (part_chars g)
given_chars [] = refl
given_chars (c ∷ g) = ap (λ (ss : List StyledChar). comma ∷ space ∷ ss) (chars_of_letters (is_steady (c ∷ g)) (c ∷ g))

tail_chars : (s g : List ℕ) → styled_chars (after_name s ++ given_after g) ≡ comma ∷ tail_rest (part_chars s) (part_chars g)
tail_chars [] g = given_chars g
tail_chars (c ∷ s) g =
    chars_of_both (after_name (c ∷ s)) (given_after g)
    ∙ (ap (λ (ss : List StyledChar). (comma ∷ space ∷ ss) ++ styled_chars (given_after g)) (chars_of_letters (is_steady (c ∷ s)) (c ∷ s))
    ∙ ap (λ (ss : List StyledChar). comma ∷ space ∷ (part_chars (c ∷ s) ++ ss)) (given_chars g))

name_written : (name : List ℕ) (ms : List Member) → styled_chars (written_name name ++ ms) ≡ name_chars name ++ styled_chars ms
name_written name ms = chars_of_both (written_name name) ms ∙ ap (λ (ss : List StyledChar). ss ++ styled_chars ms) (chars_of_letters (is_name name) name)

leading_written : (p name : List ℕ) (ms : List Member) → styled_chars (before_name p ++ (written_name name ++ ms)) ≡ leading_chars p name ++ styled_chars ms
leading_written [] name ms = name_written name ms
leading_written (c ∷ p) name ms =
    chars_of_both (before_name (c ∷ p)) (written_name name ++ ms)
    ∙ (ap (λ (ss : List StyledChar). ss ++ styled_chars (written_name name ++ ms)) (chars_of_both (written_part (c ∷ p)) (letters (kind true) (character.space ∷ [])) ∙ ap (λ (ss : List StyledChar). ss ++ space ∷ []) (chars_of_letters (is_steady (c ∷ p)) (c ∷ p)))
    ∙ (ap (λ (ss : List StyledChar). (part_chars (c ∷ p) ++ space ∷ []) ++ ss) (name_written name ms)
    ∙ (append_assoc (part_chars (c ∷ p)) (space ∷ []) (name_chars name ++ styled_chars ms)
    ∙ sym (append_assoc (part_chars (c ∷ p)) (space ∷ name_chars name) (styled_chars ms)))))

person_written : (n : Named) → styled_chars (written_person n) ≡ chars_of n
person_written n =
    leading_written n.prefix n.name (after_name n.suffix ++ given_after n.given_name)
    ∙ ap (λ (ss : List StyledChar). leading_chars n.prefix n.name ++ ss) (tail_chars n.suffix n.given_name)

-- what is known of one that is read back
leading_is : (p name : List ℕ) → not (is_filled p) || (is_prefix p && is_filled name) ≡ true → IsLeading (leading_chars p name) p name
leading_is [] name e = leading_without name
leading_is (c ∷ p) name e = leading_with c p name (and_first (is_prefix (c ∷ p)) (is_filled name) e) (and_second (is_prefix (c ∷ p)) (is_filled name) e)

leading_of : (n : Named) → is_read_back n ≡ true → IsLeading (leading_chars n.prefix n.name) n.prefix n.name
leading_of n e = leading_is n.prefix n.name (and_second (is_named n) (not (is_filled n.prefix) || (is_prefix n.prefix && is_filled n.name)) e)

first_of : (n : Named) (ns : List Named) → AreReadBack (n ∷ ns) → is_read_back n ≡ true
first_of n ns e = and_first (is_read_back n) (list_all is_read_back ns) e

others_of : (n : Named) (ns : List Named) → AreReadBack (n ∷ ns) → AreReadBack ns
others_of n ns e = and_second (is_read_back n) (list_all is_read_back ns) e

-- a person that is read back is the one that was written
person_back : (n : Named) → is_read_back n ≡ true → person_in (chars_of n) ≡ n
person_back n e =
    read_person (leading_chars n.prefix n.name) (part_chars n.suffix) (part_chars n.given_name) n.prefix n.name (leading_of n e) (part_field n.suffix (is_steady n.suffix) refl) (part_field n.given_name (is_steady n.given_name) refl)
    ∙ fields (plain_of_style (is_steady n.suffix) n.suffix) (plain_of_style (is_steady n.given_name) n.given_name)
  where
    fields : plain (part_chars n.suffix) ≡ n.suffix → plain (part_chars n.given_name) ≡ n.given_name → name_of n.prefix n.name (plain (part_chars n.suffix)) (plain (part_chars n.given_name)) ≡ n
    fields s g = rw (s, g) refl

person_loose : (n : Named) → is_read_back n ≡ true → holds is_loose (space ∷ chars_of n ++ space ∷ []) ≡ false
person_loose n e = person_fine (leading_chars n.prefix n.name) (part_chars n.suffix) (part_chars n.given_name) n.prefix n.name (leading_of n e)
    (part_field n.suffix (is_steady n.suffix) refl) (part_field n.given_name (is_steady n.given_name) refl)

person_not_others : (n : Named) → is_others (chars_of n) ≡ false
person_not_others n = comma_not_others (chars_of n) (has_comma (leading_chars n.prefix n.name) (tail_rest (part_chars n.suffix) (part_chars n.given_name)))

-- people that are read back are parts of a list
are_parts : (ns : List Named) → AreReadBack ns → AreParts (map chars_of ns)
are_parts [] e = tt
are_parts (n ∷ ns) e = (record { alone = nowhere_and (space ∷ chars_of n ++ space ∷ []) (person_loose n (first_of n ns e)) }, are_parts ns (others_of n ns e))

are_trimmed : (ns : List Named) → AreReadBack ns → map trimmed (map chars_of ns) ≡ map chars_of ns
are_trimmed [] e = refl
are_trimmed (n ∷ ns) e = rw (trimmed_already (chars_of n) (nowhere_two_gaps (space ∷ chars_of n ++ space ∷ []) (person_loose n (first_of n ns e))), are_trimmed ns (others_of n ns e)) refl

are_someone : (ns : List Named) → AreReadBack ns → filter is_someone (map chars_of ns) ≡ map chars_of ns
are_someone [] e = refl
are_someone (n ∷ ns) e =
    let someone : is_someone (chars_of n) ≡ true =
    ap is_named (person_back n (first_of n ns e)) ∙ and_first (is_named n) (not (is_filled n.prefix) || (is_prefix n.prefix && is_filled n.name)) (first_of n ns e) in
    rw (someone, are_someone ns (others_of n ns e)) refl

not_others : (ns : List Named) → ends_in_others (map chars_of ns) ≡ false
not_others [] = refl
not_others (n ∷ []) = person_not_others n
not_others (n ∷ m ∷ ns) = not_others (m ∷ ns)

are_back : (ns : List Named) → AreReadBack ns → map person_in (map chars_of ns) ≡ ns
are_back [] e = refl
are_back (n ∷ ns) e = rw (person_back n (first_of n ns e), are_back ns (others_of n ns e)) refl

people_of_chars : (ns : List Named) → AreReadBack ns → people_of (map chars_of ns) ≡ ns
people_of_chars ns e =
    ap (λ (ps : List (List StyledChar)). map person_in (without_others ps)) (are_someone ns e)
    ∙ (without (map chars_of ns) (not_others ns) ∙ are_back ns e)
  where
    without : (ps : List (List StyledChar)) → ends_in_others ps ≡ false → map person_in (without_others ps) ≡ map person_in ps
    without ps k = rw k refl

chars_after : (ns : List Named) → AreReadBack ns → styled_chars (flat_map after_and (map written_person ns)) ≡ past_first (map chars_of ns)
chars_after [] e = refl
chars_after (n ∷ ns) e =
    let here : styled_chars (after_and (written_person n)) ≡ of_style true and_word ++ chars_of n =
    chars_of_both (letters (kind true) and_word) (written_person n) ∙ ap (λ (ss : List StyledChar). of_style true and_word ++ ss) (person_written n) in
    chars_of_both (after_and (written_person n)) (flat_map after_and (map written_person ns))
    ∙ (ap (λ (ss : List StyledChar). ss ++ styled_chars (flat_map after_and (map written_person ns))) here
    ∙ (ap (λ (ss : List StyledChar). (of_style true and_word ++ chars_of n) ++ ss) (chars_after ns (others_of n ns e))
    ∙ append_assoc (of_style true and_word) (chars_of n) (past_first (map chars_of ns))))

chars_joined : (n : Named) (ns : List Named) → AreReadBack (n ∷ ns) → styled_chars (written_people (n ∷ ns)) ≡ chars_of n ++ past_first (map chars_of ns)
chars_joined n ns e =
    chars_of_both (written_person n) (flat_map after_and (map written_person ns))
    ∙ (ap (λ (ss : List StyledChar). ss ++ styled_chars (flat_map after_and (map written_person ns))) (person_written n)
    ∙ ap (λ (ss : List StyledChar). chars_of n ++ ss) (chars_after ns (others_of n ns e)))

pub people_are_back : PeopleReadBack
people_are_back [] e = refl
people_are_back (n ∷ ns) e =
    ap (λ (ss : List StyledChar). people_of (parts ss)) (chars_joined n ns e)
    ∙ (ap people_of (parts_joined (chars_of n) (map chars_of ns) (are_parts (n ∷ ns) e) ∙ are_trimmed (n ∷ ns) e) ∙ people_of_chars (n ∷ ns) e)

-- capitalised words are names
capitalised_filled : (cs : List ℕ) → is_capitalised cs ≡ true → is_filled cs ≡ true
capitalised_filled [] e = absurd cc
capitalised_filled (c ∷ cs) e = refl

filled_leading : (cs ds : List ℕ) → is_filled cs ≡ true → is_filled (cs ++ ds) ≡ true
filled_leading [] ds e = absurd cc
filled_leading (c ∷ cs) ds e = refl

plain_back : (n : Named) → is_plain_person n ≡ true → is_read_back n ≡ true
plain_back n e =
    let leading = and_first (is_capitalised n.name && is_capitalised n.given_name && not (is_filled n.prefix)) (not (is_filled n.suffix)) e in
    let names = and_first (is_capitalised n.name && is_capitalised n.given_name) (not (is_filled n.prefix)) leading in
    let prefix = and_second (is_capitalised n.name && is_capitalised n.given_name) (not (is_filled n.prefix)) leading in
    let filled : is_filled (n.name ++ n.given_name ++ n.prefix ++ n.suffix) ≡ true =
    filled_leading (n.name ++ n.given_name ++ n.prefix) n.suffix (filled_leading (n.name ++ n.given_name) n.prefix
    (filled_leading n.name n.given_name (capitalised_filled n.name (and_first (is_capitalised n.name) (is_capitalised n.given_name) names)))) in
    rw (filled, prefix) refl

pub plain_people_are_back : PlainPeopleAreReadBack
plain_people_are_back [] e = refl
plain_people_are_back (n ∷ ns) e =
    rw (plain_back n (and_first (is_plain_person n) (list_all is_plain_person ns) e), plain_people_are_back ns (and_second (is_plain_person n) (list_all is_plain_person ns) e)) refl
