use Rattle.std.proofs.Common.{◌≡◌, true, [], ◌∷◌, length, map, sym, ap, ◌∙◌, arith}
use Rattle.std.specs.Option.{option_map}
use Rattle.std.specs.Str.{chars}
use Rattle.std.specs.Vec.Iter.{into_iter_items}
use Rattle.std.proofs.lemmas.List.{nil_from_length}
use Rattle.rendering_page.specs.Views.{quotes_view}
use Rattle.rendering_tree.specs.Views.{tree_view}
use Rattle.driver_citations.specs.Joining.{trees_put}
use Rattle.driver_citations.proofs.JoiningSteps.{no_tree_left, tree_put}
use Rattle.driver_citations.proofs.standalone.delimited.Goals as goal

pub loop-tree-init : goal.loop-tree-init
loop-tree-init c =
    let e = c.into_iter-tree-iterator.ensures.into_iter_gives in
    record {
      same = λ k. trees_put (option_map (λ q. quotes_view q.now) c.args.quotes) c.args.look (chars c.args.between.now) true (c.new-inside.ensures k) (map tree_view (e.0 k));
      long = e.1 ∙ (c.args.trees.ok.0 ∙ sym (ap length e.0));
    }

pub loop-tree-preserved : goal.loop-tree-preserved
loop-tree-preserved c =
    let rest = into_iter_items c.next.new.self in
    let steps : into_iter_items c.loop-tree.tree-iterator ≡ c.in-Some.tree ∷ rest = c.in-Some.ensures.steps.0 in
    record {
      same = tree_put (option_map (λ q. quotes_view q.now) c.args.quotes) c.args.look (chars c.args.between.now) (chars c.delimiter_before.result.now) c.loop-tree.is_first (tree_view c.loop-tree.inside) (tree_view c.push_between.new.inside) (tree_view c.append.new.parts) _ c.in-Some.tree rest
          (into_iter_items c.loop-tree.tree-iterator) steps c.delimiter_before.ensures c.loop-tree.invariant.same c.in_ok-push_between.ensures c.in_ok-append.ensures;
      long = omega (arith, c.loop-tree.invariant.long, ap length steps, c.in-Some.ensures.steps.1);
    }

pub returns : goal.returns
returns c =
    let none : into_iter_items c.loop-tree.tree-iterator ≡ [] = nil_from_length _ (sym c.loop-tree.invariant.long ∙ c.in-None.ensures.steps.0) in
    no_tree_left (option_map (λ q. quotes_view q.now) c.args.quotes) c.args.look (chars c.args.between.now) c.loop-tree.is_first (tree_view c.loop-tree.inside) _ (into_iter_items c.loop-tree.tree-iterator) none c.loop-tree.invariant.same
