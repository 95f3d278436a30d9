-- Items that are changed one by one.
use Rattle.std.proofs.Common.{◌≡◌, ℕ, ◌+◌, ◌<◌, List, [], ◌∷◌, ◌++◌, append_assoc, append-nil, length, map, drop, get_or, refl, sym, ap, ◌∙◌}
use Rattle.std.proofs.lemmas.List.{drop_more, map-append, length-append}
use Rattle.rendering_tree.specs.Trees.{Children, simplified}
use Rattle.rendering_tree.specs.Views.{tree_view}
use Rattle.rendering_tree.specs.declared.element.ElemChildren.{ElemChildren}
use Rattle.driver_bibliography.specs.Substitution.{text_for}
use Rattle.driver_bibliography.specs.Views.{all_changed, printed_view, repeated_view}
use Rattle.driver_bibliography.specs.declared.fields.PrintedItem.{PrintedItem}
use Rattle.driver_bibliography.specs.declared.repeats.Repetition.{Repetition}

module _ (text : List ℕ) (rs : List Repetition) where
  -- the items that were changed, and those that are left to be
  abbrev pub changed_from : List ElemChildren → List PrintedItem → List Children
  changed_from items rest = map tree_view items ++ all_changed text (map repeated_view (drop (length items) rs)) (map printed_view rest)

  pub each_goes_on : (items new : List ElemChildren) (n : ℕ) (r d : Repetition) (x : PrintedItem) (y : ElemChildren) (rest : List PrintedItem) (all : List Children) (t : Children) → n ≡ length items → length items < length rs → r ≡ get_or rs n d
      → changed_from items (x ∷ rest) ≡ all → tree_view y ≡ simplified (text_for text (repeated_view r) t) → t ≡ (printed_view x).tree → new ≡ items ++ y ∷ [] → changed_from new rest ≡ all
  each_goes_on items new n r d x y rest all t long less at h says same e =
      let is : r ≡ get_or rs (length items) d = at ∙ ap (λ m. get_or rs m d) long in
      let from : drop (length items) rs ≡ r ∷ drop (length items + 1) rs = drop_more rs (length items) d less ∙ ap (λ q. q ∷ drop (length items + 1) rs) (sym is) in
      let others = all_changed text (map repeated_view (drop (length items + 1) rs)) (map printed_view rest) in
      (λ k. changed_from (e k) rest)
      ∙ (λ k. map-append tree_view items (y ∷ []) k ++ all_changed text (map repeated_view (drop (length-append items (y ∷ []) k) rs)) (map printed_view rest))
      ∙ append_assoc (map tree_view items) (tree_view y ∷ []) others
      ∙ ap (λ t. map tree_view items ++ t ∷ others) (says ∙ ap (λ (u : Children). simplified (text_for text (repeated_view r) u)) same)
      ∙ ap (λ qs. map tree_view items ++ all_changed text (map repeated_view qs) (map printed_view (x ∷ rest))) (sym from)
      ∙ h

  none_changed : (qs : List Repetition) → all_changed text (map repeated_view qs) [] ≡ []
  none_changed [] = refl
  none_changed (q ∷ qs) = refl

  -- after all
  pub each_ends : (items : List ElemChildren) (rest : List PrintedItem) (all : List Children) → rest ≡ [] → changed_from items rest ≡ all → map tree_view items ≡ all
  each_ends items rest all none h =
      sym (append-nil (map tree_view items))
      ∙ ap (λ ts. map tree_view items ++ ts) (sym (none_changed (drop (length items) rs)))
      ∙ ap (changed_from items) (sym none)
      ∙ h

-- trees of items that were taken, and those that are left to be
abbrev pub trees_from : List ElemChildren → List PrintedItem → List Children
trees_from trees rest = map tree_view trees ++ map (λ p. p.tree) (map printed_view rest)

pub trees_go_on : (trees new : List ElemChildren) (x : PrintedItem) (y : ElemChildren) (rest whole : List PrintedItem) (all : List Children) → whole ≡ x ∷ rest
    → trees_from trees whole ≡ all → tree_view y ≡ (printed_view x).tree → new ≡ trees ++ y ∷ [] → trees_from new rest ≡ all
trees_go_on trees new x y rest whole all split h says e =
    ap (λ ts. trees_from ts rest) e
    ∙ ap (λ ts. ts ++ map (λ p. p.tree) (map printed_view rest)) (map-append tree_view trees (y ∷ []))
    ∙ append_assoc (map tree_view trees) (tree_view y ∷ []) (map (λ p. p.tree) (map printed_view rest))
    ∙ ap (λ t. map tree_view trees ++ t ∷ map (λ p. p.tree) (map printed_view rest)) says
    ∙ ap (trees_from trees) (sym split)
    ∙ h

pub trees_end : (trees : List ElemChildren) (whole : List PrintedItem) (all : List Children) → whole ≡ [] → trees_from trees whole ≡ all → map tree_view trees ≡ all
trees_end trees whole all none h = sym (append-nil (map tree_view trees)) ∙ ap (trees_from trees) (sym none) ∙ h
