-- The three styles: plain numbers, authors and years, and notes.
use Rattle.std.specs.Prelude.{true, List, [], ◌∷◌, Some, None, codes}
use Rattle.cite_styles.specs.Layouts.{sentence, bracketed, plain_bibliography, style_of}
use Rattle.cite_styles.specs.Nodes.{grouped, citation_number, item_number, title, ibid, locator, year, authors, short_authors, source}
use Rattle.rendering_style.specs.Nodes.{Node, choose, stands_at, nodes_of, plain_look}
use Rattle.rendering_style.specs.Views.{Branch, branches_of}
use Rattle.rendering_style.specs.Styles.{Citation, Bibliography, Style, plain_citation}
use Rattle.rendering_taxonomy.specs.declared.choose.ChooseMatch.TheVariants as matches
use Rattle.rendering_taxonomy.specs.declared.choose.TestPosition.{TestPosition}
use Rattle.rendering_taxonomy.specs.declared.choose.TestPosition.TheVariants as positions
use Rattle.rendering_taxonomy.specs.declared.style.Collapse.TheVariants as collapses
use Rattle.rendering_taxonomy.specs.declared.style.SecondFieldAlign.TheVariants as aligns
use Rattle.rendering_taxonomy.specs.declared.style.StyleCategory.TheVariants as categories
use Rattle.rendering_taxonomy.specs.declared.style.StyleClass.TheVariants as classes

-- Plain numbers. A cite is the number of its entry and the locator.
unfoldable pub numeric_cite : Node
numeric_cite = grouped (codes ", ") (citation_number plain_look ∷ locator ∷ [])

-- an entry is who wrote it, what it is, where it appeared, and when
unfoldable pub numeric_entry : Node
numeric_entry = grouped (codes ". ") (authors ∷ title ∷ source ∷ year ∷ [])

-- an item is its number and the entry
unfoldable pub numeric_item : List Node
numeric_item = item_number ∷ numeric_entry ∷ []

-- cites stand in square brackets, and numbers one after the other are collapsed
unfoldable pub numeric_citation : Citation
numeric_citation = record (plain_citation (bracketed (codes "[") (codes "]") (codes ", ") numeric_cite)) { collapse = Some collapses.CitationNumber }

-- the numbers of items are aligned
unfoldable pub numeric_bibliography : Bibliography
numeric_bibliography = record (plain_bibliography (sentence numeric_item)) { second_field_align = Some aligns.Flush }

-- plain numbers
unfoldable pub numeric : Style
numeric = style_of classes.InText categories.Numeric numeric_citation (Some numeric_bibliography)

-- Authors and years. A cite is the authors, the year
unfoldable pub author_year : Node
author_year = grouped (codes " ") (short_authors ∷ year ∷ [])

-- and the locator
unfoldable pub author_date_cite : Node
author_date_cite = grouped (codes ", ") (author_year ∷ locator ∷ [])

-- an item is who wrote it, when, what it is, and where it appeared
unfoldable pub author_date_item : Node
author_date_item = grouped (codes ". ") (authors ∷ year ∷ title ∷ source ∷ [])

-- cites stand in round brackets; names, given names and year suffixes disambiguate like ones
unfoldable pub author_date_citation : Citation
author_date_citation =
    record (plain_citation (bracketed (codes "(") (codes ")") (codes "; ") author_date_cite)) { add_names = true; add_givenname = true; add_year_suffix = true }

-- items
unfoldable pub author_date_bibliography : Bibliography
author_date_bibliography = plain_bibliography (sentence (author_date_item ∷ []))

-- authors and years
unfoldable pub author_date : Style
author_date = style_of classes.InText categories.AuthorDate author_date_citation (Some author_date_bibliography)

-- Notes. In the first one an entry is cited whole.
unfoldable pub first_note : Node
first_note = grouped (codes ", ") (authors ∷ title ∷ source ∷ year ∷ locator ∷ [])

-- in later ones it is cited by authors and title
unfoldable pub later_note : Node
later_note = grouped (codes ", ") (short_authors ∷ title ∷ locator ∷ [])

-- right after a cite of it, with another locator
unfoldable pub ibid_note : Node
ibid_note = grouped (codes ", ") (ibid ∷ locator ∷ [])

-- a node for the cites at a position
abbrev pub at : TestPosition → Node → Branch
at p x = (record { required = matches.All; tests = stands_at p ∷ [] }, nodes_of (x ∷ []))

-- cites that are not the first of their entry
unfoldable pub repeated : List Branch
repeated = at positions.IbidWithLocator ibid_note ∷ at positions.Ibid ibid ∷ at positions.Subsequent later_note ∷ []

-- a cite, by where it stands
unfoldable pub note_cite : Node
note_cite = choose (branches_of repeated (nodes_of (first_note ∷ [])))

-- notes end with a full stop
unfoldable pub note_citation : Citation
note_citation = plain_citation (record (sentence (note_cite ∷ [])) { delimiter = Some (codes "; ") })

-- notes
unfoldable pub note : Style
note = style_of classes.Note categories.Note note_citation None
