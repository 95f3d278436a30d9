-- A single name in texts, where something is specified for its parts.
use Rattle.std.specs.Prelude.{ℕ, Bool, true, false, ◌||◌, List, [], ◌∷◌, ◌++◌, is_some, if◌then◌else◌, Option, Some, None}
use Rattle.std.specs.Option.{option_map_or, unwrap_or}
use Rattle.laws.specs.Characters.{space}
use Rattle.laws.specs.Text.{is_filled}
use Rattle.literature_values.specs.PersonViews.{Named}
use Rattle.rendering_taxonomy.specs.Formats.{changed}
use Rattle.rendering_page.specs.Pages.{Manner, uncased, with_case}
use Rattle.rendering_page.specs.Pieces.{Piece, normal}
use Rattle.rendering_style.specs.Nodes.{NameLook, NamePart}
use Rattle.rendering_style.specs.Options.{NameOptions}
use Rattle.rendering_names.specs.Persons.{comma_and_space, given_of, prefix_of, suffix_of, initials_by, short_text, person_text}
use Rattle.rendering_taxonomy.specs.declared.name.DisambiguatedNameForm.{DisambiguatedNameForm}
use Rattle.rendering_taxonomy.specs.declared.name.DisambiguatedNameForm.TheVariants as forms

-- A word of a name: what stands before it, where another word does; its affixes; what is specified for the part of the name that it is; and
-- itself.
pub record Word : Type 0 where
  pub before : List ℕ
  pub prefix : List ℕ
  pub suffix : List ℕ
  pub part : Option NamePart
  pub text : List ℕ

-- how a word is appended: in the look and the case of its part over those of the name
abbrev pub part_manner : Manner → Option NamePart → Manner
part_manner m None = m
part_manner m (Some l) =
    with_case l.text_case (record m { formatting = changed l.formatting m.formatting })

-- the affixes of a part
abbrev pub part_prefix : Option NamePart → List ℕ
part_prefix part = option_map_or (λ l. l.prefix) part []

abbrev pub part_suffix : Option NamePart → List ℕ
part_suffix part = option_map_or (λ l. l.suffix) part []

-- a word between its affixes, which stay in the case that they have, after another text; one that is empty is none
abbrev pub word_pieces : Manner → List ℕ → Word → List Piece
word_pieces m before w =
    if is_filled w.text
    then normal m before ∷ normal (uncased m) w.prefix ∷ normal (part_manner m w.part) w.text
    ∷ normal (uncased m) w.suffix ∷ []
    else []

-- words one after the other; nothing stands before the first of them that is not empty
abbrev pub words_pieces : Manner → Bool → List Word → List Piece
words_pieces m is_after [] = []
words_pieces m is_after (w ∷ ws) =
    word_pieces m (if is_after then w.before else []) w
    ++ words_pieces m (is_after || is_filled w.text) ws

-- a word of a part, in its affixes
abbrev pub part_word : Option NamePart → List ℕ → List ℕ → Word
part_word part before cs = record {
  before = before;
  prefix = part_prefix part;
  suffix = part_suffix part;
  part = part;
  text = cs;
}

-- two words in the affixes of the first; where one of them is empty the other alone stands in them
abbrev pub opening : Word → Word → Word
opening v w = record v { suffix = if is_filled w.text then [] else v.suffix }

abbrev pub closing : Word → Word → Word
closing v w = record w { prefix = if is_filled v.text then [] else v.prefix; suffix = v.suffix }

-- given name, particle and family name, suffix, of which the last two stand in one pair of affixes
abbrev pub straight_words : NameLook → List ℕ → List ℕ → List ℕ → List Word
straight_words l given short suffix =
    let family = part_word l.family (space ∷ []) short in
    let last = part_word None (space ∷ []) suffix in
    part_word l.given [] given ∷ opening family last ∷ closing family last ∷ []

-- what stands before a particle behind a given name
abbrev pub after_given : List ℕ → List ℕ → List ℕ
after_given separator given = if is_filled given then space ∷ [] else separator

-- particle and family name, given name, suffix, with the separator between
abbrev pub inverted_words : NameLook → List ℕ → List ℕ → List ℕ → List ℕ → List Word
inverted_words l separator given short suffix =
    part_word l.family [] short ∷ part_word l.given separator given
    ∷ part_word None separator suffix ∷ []

-- family name, given name, particle, suffix; the particle stands in the affixes of the given name
abbrev pub demoted_words : NameLook → List ℕ → List ℕ → Named → List Word
demoted_words l separator given p =
    let first = part_word l.given separator given in
    let particle = part_word l.family (after_given separator given) (prefix_of p) in
    part_word l.family [] p.name ∷ opening first particle ∷ closing first particle
    ∷ part_word None separator (suffix_of p) ∷ []

-- a name with its family name first; the particle goes after the given name where it is demoted
abbrev pub turned_words : Bool → NameLook → List ℕ → List ℕ → Named → List Word
turned_words false l separator given p =
    inverted_words l separator given (short_text p) (suffix_of p)
turned_words true l separator given p = demoted_words l separator given p

-- a name with its given name, inverted or not
abbrev pub long_words : NameLook → NameOptions → Bool → List ℕ → Named → List Word
long_words l o false given p = straight_words l given (short_text p) (suffix_of p)
long_words l o true given p =
    turned_words (unwrap_or o.demote false) l (unwrap_or o.sort_separator comma_and_space) given p

-- a name in a form
abbrev pub person_words : NameLook → NameOptions → Bool → DisambiguatedNameForm → Named → List Word
person_words l o is_inverted forms.LongFull p = long_words l o is_inverted (given_of p) p
person_words l o is_inverted forms.LongInitialized p =
    long_words l o is_inverted (initials_by o p) p
person_words l o is_inverted f p = part_word l.family [] (short_text p) ∷ []

-- whether something is specified for a part of names
abbrev pub has_parts : NameLook → Bool
has_parts l = is_some l.given || is_some l.family

-- a name in words, where something is specified for its parts, or else as one text
abbrev pub person_pieces : Manner → NameLook → NameOptions → Bool → DisambiguatedNameForm → Named →
    List Piece
person_pieces m l o is_inverted f p =
    if has_parts l
    then words_pieces m false (person_words l o is_inverted f p)
    else normal m (person_text o is_inverted f p) ∷ []
