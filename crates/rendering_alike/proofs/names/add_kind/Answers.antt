use Rattle.std.proofs.Common.{◌≡◌, Bool, true, false, List, ◌∷◌, [], ◌++◌, cond, sym, ap, ◌∙◌}
use Rattle.std.specs.List.{list_any}
use Rattle.rendering_taxonomy.specs.contracts.kind.KindPartialEq.TheImpl as kind_eq
use Rattle.rendering_taxonomy.specs.declared.kind.Kind.{Kind}
use Rattle.rendering_alike.proofs.names.add_kind.Goals as goal

-- whether a kind is among others
abbrev is_among : List Kind → Kind → Bool
is_among ks k = list_any (λ (l : Kind). kind_eq.ghosts.eq l k) ks

pub returns-then-contains : goal.returns-then-contains
returns-then-contains c =
    let k = c.args.kind in
    let ks = c.args.found.now.kinds.items in
    let there : is_among ks k ≡ true = sym (c.contains.ensures.value ∙ ap (λ ls. is_among ls k) c.deref.ensures.value) ∙ c.if-contains.true in
    λ i. record { variables = c.args.found.now.variables.items; kinds = cond (sym there i) ks (ks ++ k ∷ []); written = c.args.found.now.written.items }

pub returns : goal.returns
returns c =
    let k = c.args.kind in
    let ks = c.args.found.now.kinds.items in
    let none : is_among ks k ≡ false = sym (c.contains.ensures.value ∙ ap (λ ls. is_among ls k) c.deref.ensures.value) ∙ c.if-contains.false in
    λ i. record { variables = c.args.found.now.variables.items; kinds = (c.in_ok-push.ensures.items ∙ ap (λ (b : Bool). cond b ks (ks ++ k ∷ [])) (sym none)) i; written = c.args.found.now.written.items }
