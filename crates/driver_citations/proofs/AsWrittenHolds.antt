-- Citations of styles whose texts stand as they are written.
use Rattle.std.proofs.Common.{◌≡◌, ℕ, List, [], ◌∷◌, fold, refl, sym, ap, ◌∙◌, None}
use Rattle.std.specs.Option.{unwrap_or}
use Rattle.rendering_names.specs.Persons.{comma_and_space}
use Rattle.rendering_taxonomy.specs.declared.formatting.Formatting.{Formatting}
use Rattle.rendering_tree.specs.Trees.{Children, Text, nothing, before, followed_by}
use Rattle.rendering_tree.proofs.SimplifySteps.{followed_by-assoc, followed_by-nothing}
use Rattle.driver_citations.specs.AsWritten.{AllCitesArePrinted, CitesAreAsWritten, SuffixesAreNotRepeated, TreesAreAsWritten, after_cite, after_tree}
use Rattle.driver_citations.specs.Citations.{Shown, cite_after, citation_look, entry_element}
use Rattle.driver_citations.specs.Standalone.{tree_after}

-- cites after others
after_others : (f : Formatting) (xs : Children) (ss : List Shown) → fold (cite_after None f) xs ss ≡ followed_by xs (after_cite f ss)
after_others f xs [] = sym (followed_by-nothing xs)
after_others f xs (s ∷ ss) =
    let e = before (entry_element s) nothing in
    let t = before (Text f (unwrap_or s.delimiter [])) nothing in
    after_others f (cite_after None f xs s) ss
    ∙ followed_by-assoc (followed_by xs t) e (after_cite f ss)
    ∙ followed_by-assoc xs t (before (entry_element s) (after_cite f ss))

pub cites_as_written : CitesAreAsWritten
cites_as_written f s ss = after_others f (before (entry_element s) nothing) ss

pub all_printed : AllCitesArePrinted
all_printed [] = refl
all_printed (s ∷ ss) = ap (λ ts. s ∷ ts) (all_printed ss)

-- trees after others
trees_after : (f : Formatting) (between : List ℕ) (xs : Children) (ts : List Children) → fold (tree_after None f between) xs ts ≡ followed_by xs (after_tree f between ts)
trees_after f between xs [] = sym (followed_by-nothing xs)
trees_after f between xs (t ∷ ts) =
    let b = before (Text f between) nothing in
    trees_after f between (tree_after None f between xs t) ts
    ∙ followed_by-assoc (followed_by xs b) t (after_tree f between ts)
    ∙ followed_by-assoc xs b (followed_by t (after_tree f between ts))

pub trees_as_written : TreesAreAsWritten
trees_as_written l t ts = trees_after (citation_look l) (unwrap_or l.delimiter comma_and_space) t ts

pub suffix_not_repeated : SuffixesAreNotRepeated
suffix_not_repeated f suffix xs = refl
