use Rattle.std.proofs.Common.{arith, ◌≡◌, length, map, ap, sym, subst, ◌∙◌, cond}
use Rattle.std.specs.Prelude.{is_some, zip}
use Rattle.std.specs.List.{list_any}
use Rattle.std.specs.Vec.{with_items}
use Rattle.std.proofs.lemmas.List.{with_items_is}
use Rattle.driver_names.specs.Namesakes.{AreFormsAt}
use Rattle.driver_names.specs.NamesViews.{distinction, members_view, shown_with}
use Rattle.driver_names.specs.Shared.{AreShared}
use Rattle.driver_names.proofs.NamesDistinguished.{distinguished_is}
use Rattle.driver_names.proofs.names.distinguish_by.Goals as goal

pub distinctions-requires-clause-len : goal.distinctions-requires-clause-len
distinctions-requires-clause-len c = c.requires.len ∙ ap length (sym c.as_slice.ensures.value)

pub distinctions-requires-clause-shared : goal.distinctions-requires-clause-shared
distinctions-requires-clause-shared c = subst (λ ms. AreShared c.args.index (members_view ms) c.args.shared.now) (sym c.as_slice.ensures.value) c.requires.shared

pub distinctions-requires-clause-form_len : goal.distinctions-requires-clause-form_len
distinctions-requires-clause-form_len c = c.requires.form_len ∙ ap length (sym c.as_slice.ensures.value)

pub distinctions-requires-clause-forms : goal.distinctions-requires-clause-forms
distinctions-requires-clause-forms c = subst (λ ms. AreFormsAt c.args.index (members_view ms) c.args.forms.now) (sym c.as_slice.ensures.value) c.requires.forms

pub returns : goal.returns
returns c =
    let v = c.args.members.now in
    let index = c.args.index in
    let found : c.in_ok-found.found.items ≡ map (distinction (members_view v.items) index) (members_view v.items) =
    c.in_ok-found.ensures ∙ ap (λ ms. map (distinction (members_view ms) index) (members_view ms)) c.as_slice.ensures.value in
    let len : length c.as_mut_slice.result.now ≡ v.len = omega (arith, c.as_mut_slice.ensures.len, ap length c.as_mut_slice.ensures.value) in
    let long : length c.show_found.new.members ≡ v.len = c.show_found.auto.members ∙ len in
    let shown : members_view c.show_found.new.members ≡ cond (list_any (λ d. is_some d) c.in_ok-found.found.items) (map (λ p. shown_with index p.0 p.1) (zip c.in_ok-found.found.items (members_view v.items))) (members_view v.items) =
    c.show_found.ensures
    ∙ (λ k. let ds = c.as_slice-2.ensures.value k in let ms = members_view (c.as_mut_slice.ensures.value k) in
    cond (list_any (λ d. is_some d) ds) (map (λ p. shown_with index p.0 p.1) (zip ds ms)) ms) in
    distinguished_is (members_view v.items) (members_view (with_items v c.show_found.new.members).items) index c.in_ok-found.found.items found
    (ap members_view (with_items_is v c.show_found.new.members long) ∙ shown)
