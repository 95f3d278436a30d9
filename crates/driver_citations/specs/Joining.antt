-- Citations that are put together cite by cite.
use Rattle.std.specs.Prelude.{ℕ, Bool, true, false, List, [], ◌∷◌, fold, if◌then◌else◌, Option, Some, None}
use Rattle.std.specs.Option.{option_map}
use Rattle.laws.specs.Text.{spelled}
use Rattle.rendering_page.specs.Pages.{Quotes}
use Rattle.rendering_page.specs.Tail.{ends_in}
use Rattle.rendering_taxonomy.specs.declared.formatting.Formatting.{Formatting}
use Rattle.rendering_tree.specs.Trees.{Children, nothing, before, followed_by, is_nothing, simplified}
use Rattle.rendering_tree.specs.Views.{tree_view}
use Rattle.rendering_style.specs.Styles.{Layout}
use Rattle.rendering.specs.Ends.{trimmed_tree}
use Rattle.driver_citations.specs.Citations.{Shown, affixed, as_printed, entry_element, followed_by_text, is_printed, own_delimiter, text_after}
use Rattle.driver_citations.specs.Ends.{end_of}
use Rattle.driver_citations.specs.Standalone.{tree_after}
use Rattle.driver_citations.specs.declared.citation.ShownCite.{ShownCite}

-- a cite that is shown
abbrev pub shown_view : ShownCite → Shown
shown_view s = record { delimiter = option_map spelled s.delimiter; index = s.index; tree = tree_view s.tree }

-- what is already there before the next cite
abbrev pub delimited_after : Option Quotes → Formatting → Children → List ℕ → Children
delimited_after o f xs delimiter = if is_nothing xs then xs else text_after o f delimiter xs

-- a cite after those that are already there
abbrev pub put_cite : Option Quotes → Formatting → Children → Shown → Children
put_cite o f xs s = followed_by (delimited_after o f xs (own_delimiter o s)) (before (entry_element s) nothing)

-- the same, if it is printed
abbrev pub put_shown : Option Quotes → Formatting → Children → Shown → Children
put_shown o f xs s = if is_printed o s.tree then put_cite o f xs s else xs

-- cites one after the other
abbrev pub put_cites : Option Quotes → Formatting → List Shown → Children
put_cites o f ss = fold (put_shown o f) nothing ss

-- a tree in its normal form with a suffix, as it is printed
abbrev pub suffix_put : Option Quotes → Formatting → List ℕ → Children → Children
suffix_put None f suffix xs = if ends_in suffix (end_of xs) then xs else simplified (followed_by_text f suffix xs)
suffix_put (Some quotes) f suffix xs = trimmed_tree (text_after (Some quotes) f suffix xs)

-- what is printed between the affixes of a layout, if anything is, with them or, where a cite has a purpose, without
abbrev pub finished : Option Quotes → Layout → Bool → Children → Children
finished o l some_purpose nothing = nothing
finished o l true (before x xs) = as_printed o (before x xs)
finished o l false (before x xs) = as_printed o (affixed o l (before x xs))

-- trees after what is there, with a text between them, and before the first unless nothing stands before it
abbrev pub trees_put : Option Quotes → Formatting → List ℕ → Bool → Children → List Children → Children
trees_put o f between true xs [] = xs
trees_put o f between true xs (t ∷ ts) = fold (tree_after o f between) (followed_by xs t) ts
trees_put o f between false xs ts = fold (tree_after o f between) xs ts
