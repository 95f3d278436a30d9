use Rattle.std.proofs.Common.{length, sym, ap, subst, ◌∙◌, map}
use Rattle.std.proofs.lemmas.List.{length-map}
use Rattle.driver_names.specs.Namesakes.{forms_after}
use Rattle.driver_names.specs.NamesViews.{member_view, members_view}
use Rattle.driver_names.specs.Shared.{AreInOrder, shared_people}
use Rattle.driver_names.specs.Views.{class_view}
use Rattle.driver_names.proofs.SharedStill.{in_order}
use Rattle.driver_names.proofs.names.states_by_names.Goals as goal

pub shared_people-requires : goal.shared_people-requires
shared_people-requires c = subst AreInOrder (sym (ap members_view c.as_slice-2.ensures.value ∙ c.in_ok-members.ensures)) (in_order (class_view c.args.class.now))

pub forms_after-requires-clause-order : goal.forms_after-requires-clause-order
forms_after-requires-clause-order c = subst AreInOrder (sym (ap members_view c.as_slice-3.ensures.value ∙ c.in_ok-members.ensures)) (in_order (class_view c.args.class.now))

pub forms_after-requires-clause-shared : goal.forms_after-requires-clause-shared
forms_after-requires-clause-shared c =
    c.as_slice-4.ensures.value ∙ c.in_ok-shared.ensures ∙ (λ k. let ms = members_view ((c.as_slice-2.ensures.value ∙ sym c.as_slice-3.ensures.value) k) in map (shared_people c.people_compared-compared.result ms) ms)

pub forms_after-requires-clause-len : goal.forms_after-requires-clause-len
forms_after-requires-clause-len c =
    ap length (c.as_slice-4.ensures.value ∙ c.in_ok-shared.ensures)
    ∙ length-map (members_view c.as_slice-2.result.now) _
    ∙ length-map c.as_slice-2.result.now member_view
    ∙ ap length (c.as_slice-2.ensures.value ∙ sym c.as_slice-3.ensures.value)

pub distinguish-requires-clause-shared : goal.distinguish-requires-clause-shared
distinguish-requires-clause-shared c = c.as_slice-5.ensures.value ∙ c.in_ok-shared.ensures ∙ ap (λ ms. map (shared_people c.people_compared-compared.result (members_view ms)) (members_view ms)) c.as_slice-2.ensures.value

pub distinguish-requires-clause-forms : goal.distinguish-requires-clause-forms
distinguish-requires-clause-forms c = c.as_slice-6.ensures.value ∙ c.in_ok-forms.ensures ∙ ap (λ ms. forms_after c.people_compared-compared.result (members_view ms)) c.as_slice-3.ensures.value
