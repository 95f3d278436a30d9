-- Citations from what their cites print.
use Rattle.std.specs.Prelude.{ℕ, Bool, true, false, not, List, [], ◌∷◌, filter, fold, if◌then◌else◌, Option, Some, None}
use Rattle.std.specs.Option.{unwrap_or}
use Rattle.rendering_page.specs.Pages.{Quotes}
use Rattle.rendering_page.specs.Tail.{ends_in}
use Rattle.rendering_tree.specs.Metas.{Entry}
use Rattle.rendering_tree.specs.Trees.{Child, Children, Text, Elem, nothing, before, is_nothing, simplified, followed_by}
use Rattle.rendering_style.specs.Styles.{Layout}
use Rattle.rendering.specs.Ends.{trimmed_tree}
use Rattle.rendering.specs.Purposes.{layout_manner}
use Rattle.driver_citations.specs.Ends.{end_of}
use Rattle.driver_citations.specs.Meeting.{delimiter_before, left_after, met_list}
use Rattle.rendering_taxonomy.specs.declared.formatting.Formatting.{Formatting}

-- the look of what a layout itself prints
abbrev pub citation_look : Layout → Formatting
citation_look l = (layout_manner l).formatting

-- a text after others
abbrev pub followed_by_text : Formatting → List ℕ → Children → Children
followed_by_text f cs xs = followed_by xs (before (Text f cs) nothing)

-- A text after a tree: where texts are joined its first character meets the text in which the tree ends.
abbrev pub text_after : Option Quotes → Formatting → List ℕ → Children → Children
text_after None f cs xs = followed_by_text f cs xs
text_after (Some quotes) f cs xs = followed_by_text f (left_after quotes (end_of xs) cs) (met_list quotes cs xs)

-- A suffix after a tree: where texts are joined it meets what stands there; else it stands after what does not end in it already. The empty
-- text is an end of each.
abbrev pub suffixed : Option Quotes → Formatting → List ℕ → Children → Children
suffixed None f suffix xs = if ends_in suffix (end_of (simplified xs)) then xs else followed_by_text f suffix xs
suffixed (Some quotes) f suffix xs = text_after (Some quotes) f suffix (simplified xs)

-- what is printed between the affixes of a layout, with them
abbrev pub affixed : Option Quotes → Layout → Children → Children
affixed o l xs = suffixed o (citation_look l) (unwrap_or l.suffix []) (before (Text (citation_look l) (unwrap_or l.prefix [])) xs)

-- A cite that is shown: the delimiter before it if it is not the first, its index in its request, and what it prints.
pub record Shown : Type 0 where
  pub delimiter : Option (List ℕ)
  pub index : ℕ
  pub tree : Children

-- a cite in its element
abbrev pub entry_element : Shown → Child
entry_element s = Elem None (Some (Entry s.index)) s.tree

-- the delimiter of a cite, as it stands before that
abbrev pub own_delimiter : Option Quotes → Shown → List ℕ
own_delimiter o s = delimiter_before o s.tree (unwrap_or s.delimiter [])

-- a cite after others, and its delimiter before it
abbrev pub cite_after : Option Quotes → Formatting → Children → Shown → Children
cite_after o f xs s = followed_by (text_after o f (own_delimiter o s) xs) (before (entry_element s) nothing)

-- cites one after the other
abbrev pub joined_cites : Option Quotes → Formatting → Shown → List Shown → Children
joined_cites o f s ss = fold (cite_after o f) (before (entry_element s) nothing) ss

-- whether a cite is printed: where texts are joined one that prints nothing is not
abbrev pub is_printed : Option Quotes → Children → Bool
is_printed None tree = true
is_printed (Some quotes) tree = not (is_nothing tree)

-- those that are
abbrev pub printed_cites : Option Quotes → List Shown → List Shown
printed_cites o ss = filter (λ s. is_printed o s.tree) ss

-- a tree as it is printed: in its normal form, and where texts are joined without the white space at its end
abbrev pub as_printed : Option Quotes → Children → Children
as_printed None xs = simplified xs
as_printed (Some quotes) xs = trimmed_tree xs

-- cites in the affixes of the layout, or without these where one has a purpose; where there is none, nothing
abbrev pub citation_by : Option Quotes → Layout → Bool → List Shown → Children
citation_by o l some_purpose [] = nothing
citation_by o l true (s ∷ ss) = as_printed o (joined_cites o (citation_look l) s ss)
citation_by o l false (s ∷ ss) = as_printed o (affixed o l (joined_cites o (citation_look l) s ss))

-- A citation from the cites that are shown.
abbrev pub citation_of : Option Quotes → Layout → Bool → List Shown → Children
citation_of o l some_purpose ss = citation_by o l some_purpose (printed_cites o ss)
