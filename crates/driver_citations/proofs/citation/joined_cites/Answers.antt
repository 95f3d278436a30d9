use Rattle.std.proofs.Common.{◌≡◌, [], ◌∷◌, fold, length, map, sym, ap, ◌∙◌, arith}
use Rattle.std.specs.Option.{option_map}
use Rattle.std.specs.Vec.Iter.{into_iter_items}
use Rattle.std.proofs.lemmas.List.{nil_from_length}
use Rattle.rendering_page.specs.Views.{quotes_view}
use Rattle.rendering_tree.specs.Views.{tree_view}
use Rattle.driver_citations.specs.Joining.{put_shown, shown_view}
use Rattle.driver_citations.proofs.JoiningSteps.{cite_put}
use Rattle.driver_citations.proofs.citation.joined_cites.Goals as goal

pub loop-cite-init : goal.loop-cite-init
loop-cite-init c =
    let e = c.into_iter-cite-iterator.ensures.into_iter_gives in
    record {
      same = λ k. fold (put_shown (option_map (λ q. quotes_view q.now) c.args.quotes) c.args.look) (c.new-joined.ensures k) (map shown_view (e.0 k));
      long = e.1 ∙ (c.args.cites.ok.0 ∙ sym (ap length e.0));
    }

pub loop-cite-preserved : goal.loop-cite-preserved
loop-cite-preserved c =
    let rest = into_iter_items c.next.new.self in
    let steps : into_iter_items c.loop-cite.cite-iterator ≡ c.in-Some.cite ∷ rest = c.in-Some.ensures.steps.0 in
    record {
      same = cite_put (option_map (λ q. quotes_view q.now) c.args.quotes) c.args.look (tree_view c.loop-cite.joined) (tree_view c.push_shown.new.joined) _ c.in-Some.cite rest (into_iter_items c.loop-cite.cite-iterator) steps c.loop-cite.invariant.same c.in_ok-push_shown.ensures;
      long = omega (arith, c.loop-cite.invariant.long, ap length steps, c.in-Some.ensures.steps.1);
    }

pub returns : goal.returns
returns c =
    let none : into_iter_items c.loop-cite.cite-iterator ≡ [] = nil_from_length _ (sym c.loop-cite.invariant.long ∙ c.in-None.ensures.steps.0) in
    ap (λ xs. fold (put_shown (option_map (λ q. quotes_view q.now) c.args.quotes) c.args.look) (tree_view c.loop-cite.joined) (map shown_view xs)) (sym none) ∙ c.loop-cite.invariant.same
