use Rattle.std.proofs.Common.{◌≡◌, ◌<◌, length, get_or, ap, sym, ◌∙◌, arith}
use Rattle.std.proofs.lemmas.List.{get_or-map, length-map}
use Rattle.std.proofs.lemmas.Result.{IfOk-weaker}
use Rattle.driver_names.specs.Namesakes.{form_after, form_counted}
use Rattle.driver_names.specs.NamesViews.{member_view, members_view}
use Rattle.driver_names.specs.Shared.{shared_people}
use Rattle.driver_names.proofs.NamesakesCounted.{form_counted_is, shared_of, unraised}
use Rattle.driver_names.proofs.NamesShared.{push_step}
use Rattle.driver_names.proofs.names_raised.forms_after.Goals as goal

pub returns-then-not-are_raised : goal.returns-then-not-are_raised
returns-then-not-are_raised c =
    let members = c.args.members.now in
    IfOk-weaker c.no_forms.result _ _
    (λ v is. unraised c.args.most (members_view members) _ v.items (sym (length-map members member_view)) (sym c.are_raised.ensures ∙ c.if-not-are_raised.true) is)
    c.no_forms.ensures

pub loop-at-preserved : goal.loop-at-preserved
loop-at-preserved c =
    let members = c.args.members.now in
    let ms = members_view members in
    let i = c.loop-at.at in
    let m = c.index-members-at.result in
    let low = c.loop-at-test.true in
    let viewed : length ms ≡ length members = length-map members member_view in
    let within : i < length ms = omega (arith, viewed, low) in
    let at : get_or ms i (member_view m) ≡ member_view m = get_or-map member_view members i m (member_view m) low ∙ ap member_view (sym c.index-members-at.is) in
    let shared : get_or c.args.shared.now i 0 ≡ shared_people c.args.most ms (member_view m) = shared_of c.args.most ms c.args.shared.now i (member_view m) c.requires.shared within (sym at) in
    push_step member_view (form_after c.args.most ms) members i m c.loop-at.forms.items c.push.new.self.items c.form_after.result low c.index-members-at.is c.loop-at.invariant
    (c.form_after.ensures ms c.in_ok-counts.ensures
    ∙ ap (λ n. form_counted ms c.args.most n (member_view m)) shared
    ∙ form_counted_is c.args.most ms i (member_view m) c.requires.order within at)
    c.in_ok-push.ensures.items
