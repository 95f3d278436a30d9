-- A citation outside of any document.
use Rattle.std.specs.Prelude.{ℕ, Bool, false, not, List, [], ◌∷◌, fold, map, filter, if◌then◌else◌, Option, None}
use Rattle.std.specs.Option.{option_map, unwrap_or}
use Rattle.rendering_taxonomy.specs.declared.formatting.Formatting.{Formatting}
use Rattle.rendering_tree.specs.Trees.{Children, nothing, flat, followed_by}
use Rattle.rendering_style.specs.Styles.{Layout}
use Rattle.rendering_names.specs.Persons.{comma_and_space}
use Rattle.rendering_context.specs.Cites.{CiteProperties, undisambiguated}
use Rattle.rendering_context.specs.Contexts.{StyleContext}
use Rattle.rendering.specs.Purposes.{citation}
use Rattle.rendering.specs.Words.{joining_quotes}
use Rattle.rendering_page.specs.Pages.{Quotes, prints}
use Rattle.driver_requests.specs.Requests.{Item, Request, plain_locator}
use Rattle.driver_citations.specs.Citations.{affixed, as_printed, citation_look, text_after}
use Rattle.driver_citations.specs.Meeting.{delimiter_before}
use Rattle.rendering_taxonomy.specs.declared.cite.IbidState.TheVariants as ibids
use Rattle.rendering_taxonomy.specs.declared.cite.IdentifierUsage.TheVariants as usages

-- what is known of an item of such a citation; it is not the first cite of its entry
abbrev pub properties_alone : {P : Type 0} → Item P → CiteProperties
properties_alone i = record {
  note_number = None;
  first_note_number = None;
  is_near_note = false;
  is_first = false;
  initial_idx = 0;
  locator = option_map plain_locator i.locator;
  citation_number = 0;
  ibid = ibids.Different;
  disambiguation = undisambiguated;
  identifier_usage = usages.None;
  first_names = [];
}

-- what an item of such a citation prints
abbrev pub printed_alone : {P : Type 0} → StyleContext → Item P → Children
printed_alone x i = (citation x i.entry.answers (properties_alone i) None i.purpose None).tree

-- whether a tree is more than white space
abbrev pub has_content : Children → Bool
has_content tree = prints 0 (flat tree)

-- a tree after others, and a text before it
abbrev pub tree_after : Option Quotes → Formatting → List ℕ → Children → Children → Children
tree_after o f between xs t = followed_by (text_after o f (delimiter_before o t between) xs) t

-- trees one after the other, with the delimiter of the layout between them
abbrev pub delimited : Option Quotes → Layout → Children → List Children → Children
delimited o l t ts = fold (tree_after o (citation_look l) (unwrap_or l.delimiter comma_and_space)) t ts

-- what items print, in the affixes of the layout; where there is none, nothing
abbrev pub joined_alone : Option Quotes → Layout → List Children → Children
joined_alone o l [] = nothing
joined_alone o l (t ∷ ts) = as_printed o (affixed o l (delimited o l t ts))

-- the items of a request that are not hidden
abbrev pub shown_items : {P : Type 0} → Request P → List (Item P)
shown_items r = filter (λ i. not i.is_hidden) r.items

-- what these print, but for what is white space alone
abbrev pub trees_alone : {P : Type 0} → Request P → List Children
trees_alone r = filter has_content (map (printed_alone r.context) (shown_items r))

-- A citation outside of any document.
abbrev pub standalone_citation : {P : Type 0} → Request P → Children
standalone_citation r = joined_alone (joining_quotes r.context) r.context.style.citation.layout (trees_alone r)

-- what items of a citation outside of any document print, but hidden ones and what is white space alone
abbrev pub all_alone : {P : Type 0} → StyleContext → List (Item P) → List Children
all_alone x is = filter has_content (map (printed_alone x) (filter (λ i. not i.is_hidden) is))

-- a tree, but not if it is white space alone
abbrev pub with_content : Children → List Children
with_content t = if has_content t then t ∷ [] else []

-- what an item of a citation outside of any document prints, but nothing of a hidden one
abbrev pub alone : {P : Type 0} → StyleContext → Item P → List Children
alone x i = if i.is_hidden then [] else with_content (printed_alone x i)
