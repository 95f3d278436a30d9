use Rattle.std.proofs.Common.{◌≡◌, is_lt, rules, ap, ◌∙◌}
use Rattle.std.proofs.lemmas.List.Sorted.{answers_always}
use Rattle.biblatex.specs.Indices.{name_of}
use Rattle.biblatex.specs.Naming.{equal_names}
use Rattle.biblatex.proofs.IndicesOrder.{compared, is_order}
use Rattle.biblatex.proofs.NamingOrder.{is_less_than, equal_stable}
use Rattle.biblatex.proofs.naming.sorted_names.Goals as goal

pub returns-clause-sorted : goal.returns-clause-sorted
returns-clause-sorted c =
    c.in_ok-sort_by.ensures.sorted is_less_than is_order (answers_always _ _ _ (λ f a r g k. let same : r ≡ compared (name_of a.0.now) (name_of a.1.0.now) = search rules in ap is_lt same))

pub returns-clause-equal : goal.returns-clause-equal
returns-clause-equal c = λ name.
    let keeps = c.in_ok-sort_by.ensures.stable is_less_than is_order (answers_always _ _ _ (λ f a r g k. let same : r ≡ compared (name_of a.0.now) (name_of a.1.0.now) = search rules in ap is_lt same)) in
    equal_stable c.in_ok-names.names.items c.sort_by.new.self.items keeps name ∙ ap (equal_names name) c.in_ok-names.ensures
