use Rattle.std.proofs.Common.{◌≡◌, Bool, true, false, ◌∷◌, [], ◌++◌, cond, sym, ap, ◌∙◌}
use Rattle.std.specs.List.{list_any}
use Rattle.rendering_context.proofs.VariablesIndices.{same_variable}
use Rattle.rendering_taxonomy.specs.Variables.{is_among}
use Rattle.rendering_taxonomy.specs.declared.variable.Variable.{Variable}
use Rattle.rendering_alike.proofs.names.add_variable.Goals as goal

pub returns-then-contains : goal.returns-then-contains
returns-then-contains c =
    let v = c.args.variable in
    let vs = c.args.found.now.variables.items in
    let there : is_among vs v ≡ true =
    sym (c.contains.ensures.value ∙ (λ i. list_any (λ (w : Variable). same_variable v w i) (c.deref.ensures.value i))) ∙ c.if-contains.true in
    λ i. record { variables = cond (sym there i) vs (vs ++ v ∷ []); kinds = c.args.found.now.kinds.items; written = c.args.found.now.written.items }

pub returns : goal.returns
returns c =
    let v = c.args.variable in
    let vs = c.args.found.now.variables.items in
    let none : is_among vs v ≡ false =
    sym (c.contains.ensures.value ∙ (λ i. list_any (λ (w : Variable). same_variable v w i) (c.deref.ensures.value i))) ∙ c.if-contains.false in
    λ i. record { variables = (c.in_ok-push.ensures.items ∙ ap (λ (b : Bool). cond b vs (vs ++ v ∷ [])) (sym none)) i; kinds = c.args.found.now.kinds.items; written = c.args.found.now.written.items }
