-- The keys of entries.
use Rattle.std.specs.Prelude.{ℕ, Bool, true, false, List, [], map, Option, None}
use Rattle.std.specs.Option.{option_map_or}
use Rattle.rendering.specs.Purposes.{citation_options, context_of}
use Rattle.rendering_context.specs.Cites.{CiteProperties, SpecificLocator, undisambiguated}
use Rattle.rendering_context.specs.Contexts.{Context, StyleContext}
use Rattle.rendering_entries.specs.Answers.{Answers}
use Rattle.rendering_style.specs.Options.{NameOptions, options_over}
use Rattle.rendering_style.specs.Sorting.{SortKey}
use Rattle.rendering_style.specs.Styles.{Style}
use Rattle.rendering_taxonomy.specs.declared.cite.IbidState.TheVariants as ibids
use Rattle.rendering_taxonomy.specs.declared.cite.IdentifierUsage.TheVariants as usages
use Rattle.rendering_sorting.specs.Keys.{Part, part_of}
use Rattle.rendering_sorting.specs.Printed.{key_value}

-- a cite as it is sorted: the first of its entry, with the number of this and the locator alone
abbrev pub sorting_properties : ℕ → Option SpecificLocator → CiteProperties
sorting_properties number locator = record {
  note_number = None;
  first_note_number = None;
  is_near_note = false;
  is_first = true;
  initial_idx = 0;
  locator = locator;
  citation_number = number;
  ibid = ibids.Different;
  disambiguation = undisambiguated;
  identifier_usage = usages.None;
  first_names = [];
}

-- the options for names in the bibliography, over those of the style; where there is no bibliography, those of the style
abbrev pub bibliography_options : Style → NameOptions
bibliography_options s =
    option_map_or (λ b. options_over b.name_options s.name_options) s.bibliography s.name_options

-- the options for names that keys of the bibliography inherit, or those of the citation
abbrev pub inherited : Bool → Style → NameOptions
inherited true s = bibliography_options s
inherited false s = citation_options s

-- the keys by which the bibliography is sorted, or the cites of a citation
abbrev pub keys_of : Bool → Style → List SortKey
keys_of true s = s.bibliography_sort
keys_of false s = s.citation_sort

-- what a key is of what is printed from
abbrev pub part_by : Context → Style → NameOptions → SortKey → Part
part_by c s options k = part_of k.direction (key_value c s options k)

-- all keys, in order, of an entry with these properties
abbrev pub keys_with : Bool → StyleContext → Answers → CiteProperties → List Part
keys_with is_bibliography x answers p =
    let context = context_of x None is_bibliography answers p in
    map (part_by context x.style (inherited is_bibliography x.style)) (keys_of is_bibliography x.style)

-- those of an entry that has this number and is cited with this locator
abbrev pub keys_in : Bool → StyleContext → Answers → ℕ → Option SpecificLocator → List Part
keys_in is_bibliography x answers number locator =
    keys_with is_bibliography x answers (sorting_properties number locator)

-- the keys of an entry with a number, by which it is sorted in the bibliography
abbrev pub bibliography_keys : StyleContext → Answers → ℕ → List Part
bibliography_keys x answers number = keys_in true x answers number None

-- the keys of a cite with the number of its entry, by which it is sorted in its citation
abbrev pub citation_keys : StyleContext → Answers → ℕ → Option SpecificLocator → List Part
citation_keys x answers number locator = keys_in false x answers number locator
