use Rattle.std.proofs.Common.{◌≡◌, ◌++◌, true, take, drop, List, Vec, sym, ap, ◌∙◌}
use Rattle.std.specs.Global.{Global}
use Rattle.std.specs.Str.{chars}
use Rattle.std.proofs.lemmas.Result.{on_ok_weaker}
use Rattle.rendering_tree.specs.Views.{children_view}
use Rattle.rendering_tree.specs.declared.element.ElemChild.{ElemChild}
use Rattle.driver_bibliography.specs.Substitution.{after_names, before_names, has_single_names, text_alone}
use Rattle.driver_bibliography.proofs.ListsReplaced.{after_front, replaced}
use Rattle.driver_bibliography.proofs.lists.replace_list.Goals as goal

pub returns : goal.returns
returns c =
    let xs = c.args.parts.now.items in
    let start = c.count_before-start.result in
    let end = c.count_to_last-end.result in
    let all = c.deref.ensures.value in
    let left = c.deref-2.ensures.value in
    let rest = c.in_ok-rest.ensures.tail in
    let before : children_view (take start xs) ≡ before_names (children_view xs) =
    sym (ap (λ ys. children_view (take start ys)) all) ∙ c.count_before-start.ensures.before ∙ ap (λ ys. before_names (children_view ys)) all in
    let some : has_single_names (children_view (drop start xs)) ≡ true =
    sym (ap (λ ys. has_single_names (children_view (drop start ys))) all) ∙ c.count_before-start.ensures.others ∙ ap (λ ys. has_single_names (children_view ys)) all ∙ c.requires in
    let after : children_view (drop end c.in_ok-rest.rest.items) ≡ after_names (children_view xs) =
    sym (ap (λ ys. children_view (drop end ys)) left)
    ∙ c.count_to_last-end.ensures.after (ap (λ ys. has_single_names (children_view ys)) (left ∙ rest) ∙ some)
    ∙ ap (λ ys. after_names (children_view ys)) (left ∙ rest)
    ∙ after_front start xs some in
    on_ok_weaker c.append_all-2.result
    (λ e. replaced (text_alone (chars c.args.text.now)) xs c.append_all-2.new.parts.items c.split_off.new.self.items c.in_ok-after.after.items c.into_vec.result.items
    (ap children_view c.in_ok-rest.ensures.items ∙ before)
    (ap (λ (v : Vec ElemChild Global). children_view v.items) c.into_vec.ensures ∙ c.in_ok-own.ensures)
    (ap children_view c.in_ok-after.ensures.tail ∙ after)
    (e ∙ ap (λ (ys : List ElemChild). ys ++ c.in_ok-after.after.items) c.in_ok-append_all.ensures))
    c.append_all-2.ensures
