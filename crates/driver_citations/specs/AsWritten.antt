-- Citations of styles whose texts stand as they are written.
use Rattle.std.specs.Prelude.{◌≡◌, ℕ, List, [], ◌∷◌, if◌then◌else◌, None}
use Rattle.std.specs.Option.{unwrap_or}
use Rattle.rendering_page.specs.Tail.{ends_in}
use Rattle.rendering_names.specs.Persons.{comma_and_space}
use Rattle.rendering_style.specs.Styles.{Layout}
use Rattle.rendering_taxonomy.specs.declared.formatting.Formatting.{Formatting}
use Rattle.rendering_tree.specs.Trees.{Children, Text, nothing, before, followed_by, simplified}
use Rattle.driver_citations.specs.Citations.{Shown, citation_look, entry_element, followed_by_text, joined_cites, printed_cites, suffixed}
use Rattle.driver_citations.specs.Ends.{end_of}
use Rattle.driver_citations.specs.Standalone.{delimited}

-- cites after another one, each after its delimiter
abbrev pub after_cite : Formatting → List Shown → Children
after_cite f [] = nothing
after_cite f (s ∷ ss) = before (Text f (unwrap_or s.delimiter [])) (before (entry_element s) (after_cite f ss))

-- Where no texts are joined, cites and their delimiters stand as they are.
abbrev pub CitesAreAsWritten : Type 0
CitesAreAsWritten = (f : Formatting) (s : Shown) (ss : List Shown) → joined_cites None f s ss ≡ before (entry_element s) (after_cite f ss)

-- All cites that are shown are printed then.
abbrev pub AllCitesArePrinted : Type 0
AllCitesArePrinted = (ss : List Shown) → printed_cites None ss ≡ ss

-- trees after another one, each after a text
abbrev pub after_tree : Formatting → List ℕ → List Children → Children
after_tree f between [] = nothing
after_tree f between (t ∷ ts) = before (Text f between) (followed_by t (after_tree f between ts))

-- So do trees, with the delimiter of the layout between them.
abbrev pub TreesAreAsWritten : Type 0
TreesAreAsWritten =
    (l : Layout) (t : Children) (ts : List Children)
    → delimited None l t ts ≡ followed_by t (after_tree (citation_look l) (unwrap_or l.delimiter comma_and_space) ts)

-- A suffix then stands after what does not end in it.
abbrev pub SuffixesAreNotRepeated : Type 0
SuffixesAreNotRepeated =
    (f : Formatting) (suffix : List ℕ) (xs : Children)
    → suffixed None f suffix xs ≡ (if ends_in suffix (end_of (simplified xs)) then xs else followed_by_text f suffix xs)
