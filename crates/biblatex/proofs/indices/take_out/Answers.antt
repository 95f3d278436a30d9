use Rattle.std.proofs.Common.{◌≡◌, List, not, eqb, map, rules, sym, ap, subst, ◌∙◌}
use Rattle.std.proofs.Math.Path.{fun_ext}
use Rattle.std.proofs.lemmas.Fn.{filter_same}
use Rattle.biblatex.specs.declared.indices.NamedIndex.{NamedIndex}
use Rattle.biblatex.specs.Indices.{names_in, meaning_in, named_down, AreInOrder}
use Rattle.biblatex.proofs.IndicesChanges.{without, meant_without, order_without}
use Rattle.biblatex.proofs.indices.take_out.Goals as goal

pub returns-clause-meaning : goal.returns-clause-meaning
returns-clause-meaning c =
    let out = c.args.out in
    let old = c.args.names.now.items in
    let kept = filter_same _ (λ (n : NamedIndex). not (eqb n.index out)) _ (λ x b f' k. search rules) _ _ c.retain.ensures.filtered in
    let left : c.move_down.new.names.items ≡ without out old = c.move_down.ensures ∙ ap (map (named_down out)) kept in
    ap (λ (ns : List NamedIndex). meaning_in (names_in ns)) left ∙ fun_ext (meant_without old out c.requires)

pub returns-clause-order : goal.returns-clause-order
returns-clause-order c =
    let out = c.args.out in
    let old = c.args.names.now.items in
    let kept = filter_same _ (λ (n : NamedIndex). not (eqb n.index out)) _ (λ x b f' k. search rules) _ _ c.retain.ensures.filtered in
    let left : c.move_down.new.names.items ≡ without out old = c.move_down.ensures ∙ ap (map (named_down out)) kept in
    subst AreInOrder (sym left) (order_without old out c.requires)
