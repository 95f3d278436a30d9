use Rattle.std.proofs.Common.{◌≡◌, List, None, sym, ap, subst, ◌∙◌, option_map}
use Rattle.biblatex_fields.specs.Fields.{Named, named_fields_view, value_named, without_field, AreInOrder}
use Rattle.biblatex_fields.specs.Slots.{AreMarked}
use Rattle.biblatex_fields.proofs.FieldsEntries.{value_there, removed_there, ordered_there, value_of}
use Rattle.biblatex_fields.proofs.FieldsLookUps.{removed_found}
use Rattle.biblatex_fields.proofs.SlotsFields.{marked_removed, removed_nothing}
use Rattle.biblatex_fields.proofs.fields.Fields.remove.Goals as goal

pub returns-clause-value : goal.returns-clause-value
returns-clause-value c = rw (← c.self.view_is) (ap (option_map value_of) c.remove.ensures.value ∙ value_there c.args.name.now c.self.inside.values.entries)

pub returns-clause-rest : goal.returns-clause-rest
returns-clause-rest c =
    ap named_fields_view c.remove.ensures.entries ∙ (removed_there c.args.name.now c.self.inside.values.entries ∙ ap (without_field c.args.name.now) c.self.view_is)

pub returns-clause-found : goal.returns-clause-found
returns-clause-found c q =
    let whole = ap named_fields_view c.remove.ensures.entries ∙ (removed_there c.args.name.now c.self.inside.values.entries ∙ ap (without_field c.args.name.now) c.self.view_is) in
    ap (value_named q) whole ∙ removed_found c.args.self.now c.args.name.now q (subst AreInOrder c.self.view_is c.self.invariant.0)

pub invariant_of-self : goal.invariant_of-self
invariant_of-self c =
    let out = ap named_fields_view c.remove.ensures.entries ∙ removed_there c.args.name.now c.self.inside.values.entries in
    let marked = marked_removed c.self.inside.slots.marks c.args.name.now (named_fields_view c.self.inside.values.entries) c.self.invariant.0 c.self.invariant.1 in
    (ordered_there c.remove.new.self.entries c.remove.ensures.ordered, subst (AreMarked c.self.inside.slots.marks) (sym out) marked)

pub returns-then-not-is_marked-clause-rest : goal.returns-then-not-is_marked-clause-rest
returns-then-not-is_marked-clause-rest c =
    let none = c.self.invariant.1 c.args.name.now (sym c.is_marked.ensures ∙ c.if-not-is_marked.true) in
    removed_nothing c.args.name.now c.args.self.now (subst (λ (fs : List Named). value_named c.args.name.now fs ≡ None) c.self.view_is none)
