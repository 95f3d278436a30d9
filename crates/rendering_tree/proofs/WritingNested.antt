-- The tags of a tree are properly nested.
use Rattle.std.proofs.Common.{ℕ, Bool, true, false, List, [], ◌∷◌, ◌++◌, Some, None, sym, subst, append_assoc, append-nil, if◌then◌else◌}
use Rattle.rendering_taxonomy.specs.Formats.{plain, looks_like}
use Rattle.rendering_tree.specs.Trees.{Child, Children, Text, Elem, Markup, Link, Transparent, nothing, before}
use Rattle.rendering_output.specs.Writing.{Tag, words, span, end_span, end_div, end_anchor, spanned, Open, open_div, open_anchor, AreNested}
use Rattle.rendering_tree.specs.Writing.{tags_in, tags, TagsAreNested}
use Rattle.rendering_taxonomy.specs.declared.formatting.Formatting.{Formatting}

-- what follows a text goes on as before it
spanned_nested : (b : Bool) (f : Formatting) (cs : List ℕ) (ts : List Tag) (os : List Open) → AreNested ts os
    → AreNested ((if b then words cs ∷ [] else span f ∷ words cs ∷ end_span ∷ []) ++ ts) os
spanned_nested true f cs ts os h = h
spanned_nested false f cs ts os h = h

-- one after the other
regrouped : (us bs ts : List Tag) (os : List Open) → AreNested (us ++ (bs ++ ts)) os → AreNested ((us ++ bs) ++ ts) os
regrouped us bs ts os h = subst (λ l. AreNested l os) (sym (append_assoc us bs ts)) h

mutual
  child_nested : (x : Child) (ts : List Tag) (os : List Open) → AreNested ts os → AreNested (tags_in x ++ ts) os
  child_nested (Text f cs) ts os h = spanned_nested (looks_like f plain) f cs ts os h
  child_nested (Elem None m xs) ts os h = children_nested xs ts os h
  child_nested (Elem (Some d) m xs) ts os h = regrouped (tags xs) (end_div d ∷ []) ts (open_div ∷ os) (children_nested xs (end_div d ∷ ts) (open_div ∷ os) h)
  child_nested (Markup cs) ts os h = h
  child_nested (Link f cs url) ts os h =
      regrouped (spanned f cs) (end_anchor ∷ []) ts (open_anchor ∷ os) (spanned_nested (looks_like f plain) f cs (end_anchor ∷ ts) (open_anchor ∷ os) h)
  child_nested (Transparent f n) ts os h = h

  children_nested : (xs : Children) (ts : List Tag) (os : List Open) → AreNested ts os → AreNested (tags xs ++ ts) os
  children_nested nothing ts os h = h
  children_nested (before x xs) ts os h = regrouped (tags_in x) (tags xs) ts os (child_nested x (tags xs ++ ts) os (children_nested xs ts os h))

pub tags_nested : TagsAreNested
tags_nested xs = subst (λ l. AreNested l []) (append-nil (tags xs)) (children_nested xs [] [] tt)
