use Rattle.std.proofs.Common.{List, [], ◌∷◌, None, sym, ap, subst, ◌∙◌}
use Rattle.std.proofs.lemmas.List.{map_push}
use Rattle.biblatex.specs.declared.indices.NamedIndex.{NamedIndex}
use Rattle.biblatex_meaning.specs.Listed.{bound}
use Rattle.biblatex.specs.Indices.{Names, name_of, named_index, names_in, meaning_in, AreInOrder}
use Rattle.biblatex.specs.Naming.{bound_each}
use Rattle.biblatex.proofs.NamingEqual.{bound_alone, bound_more}
use Rattle.biblatex.proofs.NamingOrder.{order_nothing}
use Rattle.biblatex.proofs.NamingOnce.{passed}
use Rattle.biblatex.proofs.naming.last_of_each.Goals as goal

pub returns-then-is_in_order-clause-meaning : goal.returns-then-is_in_order-clause-meaning
returns-then-is_in_order-clause-meaning c =
    bound_alone c.args.names.items (subst AreInOrder c.as_slice.ensures.value (passed c.is_in_order.result (AreInOrder c.as_slice.result.now) c.if-is_in_order.true c.is_in_order.ensures))

pub loop-named-init : goal.loop-named-init
loop-named-init c = (subst AreInOrder (sym c.in_ok-last.ensures.items) order_nothing, ap (λ (ns : List NamedIndex). meaning_in (names_in ns)) c.in_ok-last.ensures.items)

pub loop-named-preserved : goal.loop-named-preserved
loop-named-preserved c =
    let n = c.in-Some.named in (
      c.bind.ensures.order,
      c.in_ok-bind.ensures.ok ∙ ((λ i. bound (c.into_text.ensures i ∷ []) n.index (meaning_in (names_in c.loop-named.last.items)))
          ∙ (ap (bound (name_of n ∷ []) n.index) c.loop-named.invariant.1
          ∙ (sym (bound_more (names_in c.loop-named.yielded) (named_index n) (λ name. None))
          ∙ ap (λ (ns : Names). bound_each ns (λ name. None)) (sym (map_push named_index c.loop-named.yielded n))))),
    )
