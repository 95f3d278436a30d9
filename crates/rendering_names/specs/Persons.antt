-- How a single name is printed.
use Rattle.std.specs.Prelude.{ℕ, Bool, true, false, List, [], ◌∷◌, ◌++◌, codes}
use Rattle.std.specs.Option.{unwrap_or}
use Rattle.laws.specs.Characters.{space}
use Rattle.literature_values.specs.GivenNames.{given_by}
use Rattle.literature_values.specs.Initials.{style}
use Rattle.literature_values.specs.PersonViews.{Named}
use Rattle.literature_values.specs.declared.given_name.InitialsRule.{InitialsRule}
use Rattle.literature_values.specs.declared.given_name.InitialsRule.TheVariants as rules
use Rattle.rendering_style.specs.Options.{NameOptions}
use Rattle.rendering_taxonomy.specs.declared.name.DisambiguatedNameForm.{DisambiguatedNameForm}
use Rattle.rendering_taxonomy.specs.declared.name.DisambiguatedNameForm.TheVariants as forms

-- two texts with another between them; where one of them is empty, the other alone
abbrev pub joined : List ℕ → List ℕ → List ℕ → List ℕ
joined between [] ds = ds
joined between (c ∷ cs) [] = c ∷ cs
joined between (c ∷ cs) (d ∷ ds) = (c ∷ cs) ++ between ++ (d ∷ ds)

-- with a space between them
abbrev pub spaced : List ℕ → List ℕ → List ℕ
spaced cs ds = joined (space ∷ []) cs ds

-- what stands between names where nothing is specified for it
abbrev pub comma_and_space : List ℕ
comma_and_space = codes ", "

-- what stands after initials where nothing is specified for it
abbrev pub stop_and_space : List ℕ
stop_and_space = codes ". "

-- the given name; empty where there is none, as the two parts after it
abbrev pub given_of : Named → List ℕ
given_of p = unwrap_or p.given_name []

-- the particle before a family name
abbrev pub prefix_of : Named → List ℕ
prefix_of p = unwrap_or p.prefix []

-- what stands after a name
abbrev pub suffix_of : Named → List ℕ
suffix_of p = unwrap_or p.suffix []

-- what of given names is cut: nothing where they are not to be, else each piece, or each run
abbrev pub rule_by : Bool → Bool → InitialsRule
rule_by false splits = rules.Kept
rule_by true true = rules.Pieces
rule_by true false = rules.Runs

-- what the options say of that, or else runs
abbrev pub initials_rule : NameOptions → InitialsRule
initials_rule o = rule_by (unwrap_or o.initialize true) (unwrap_or o.splits_initials false)

-- the given name with initials, with hyphens if the options do not drop them; after each what the options say, or else a full stop and a
-- space
abbrev pub initials_by : NameOptions → Named → List ℕ
initials_by o p =
    given_by (initials_rule o)
    (style (unwrap_or o.initialize_with stop_and_space) (unwrap_or o.initialize_with_hyphen true))
    (given_of p)

-- particle and family name
abbrev pub short_text : Named → List ℕ
short_text p = spaced (prefix_of p) p.name

-- given name, particle, family name, suffix
abbrev pub straight : List ℕ → Named → List ℕ
straight given p = spaced (spaced (spaced given (prefix_of p)) p.name) (suffix_of p)

-- particle and family name, given name, suffix, with the separator between; the particle goes after the given name where it is demoted
abbrev pub inverted_by : Bool → List ℕ → List ℕ → Named → List ℕ
inverted_by false separator given p =
    joined separator (joined separator (short_text p) given) (suffix_of p)
inverted_by true separator given p =
    joined separator (joined separator p.name (spaced given (prefix_of p))) (suffix_of p)

-- a name with its family name first, as the options say
abbrev pub inverted : NameOptions → List ℕ → Named → List ℕ
inverted o given p =
    inverted_by (unwrap_or o.demote false) (unwrap_or o.sort_separator comma_and_space) given p

-- a name with its given name, inverted or not
abbrev pub long_text : NameOptions → Bool → List ℕ → Named → List ℕ
long_text o false given p = straight given p
long_text o true given p = inverted o given p

-- a name in a form
abbrev pub person_text : NameOptions → Bool → DisambiguatedNameForm → Named → List ℕ
person_text o is_inverted forms.LongFull p = long_text o is_inverted (given_of p) p
person_text o is_inverted forms.LongInitialized p = long_text o is_inverted (initials_by o p) p
person_text o is_inverted f p = short_text p
