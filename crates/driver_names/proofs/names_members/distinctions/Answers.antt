use Rattle.std.proofs.Common.{◌≡◌, ◌<◌, length, get_or, ap, sym, ◌∙◌, arith}
use Rattle.std.proofs.lemmas.List.{get_or-map, length-map}
use Rattle.driver_names.specs.NamesViews.{distinction, member_view, members_view}
use Rattle.driver_names.proofs.FormsShared.{distinction_is}
use Rattle.driver_names.proofs.NamesShared.{push_step, shared_at}
use Rattle.driver_names.proofs.names_members.distinctions.Goals as goal

pub loop-at-preserved : goal.loop-at-preserved
loop-at-preserved c =
    let members = c.args.members.now in
    let ms = members_view members in
    let nth = c.args.nth in
    let i = c.loop-at.at in
    let m = c.index-members-at.result in
    let low = c.loop-at-test.true in
    let viewed : length ms ≡ length members = length-map members member_view in
    let within : i < length ms = omega (arith, viewed, low) in
    let at : member_view m ≡ get_or ms i (member_view m) = ap member_view c.index-members-at.is ∙ sym (get_or-map member_view members i m (member_view m) low) in
    let known = c.requires.shared in
    push_step member_view (distinction ms nth) members i m c.loop-at.distinctions.items c.push.new.self.items c.distinction.result low c.index-members-at.is c.loop-at.invariant
    (c.distinction.ensures
    ∙ distinction_is ms nth i (get_or c.args.shared.now i 0) (member_view m) c.args.forms.now _ at within
    (shared_at nth known.0 ms c.args.shared.now i (member_view m) known.1 known.2 within at) c.requires.forms)
    c.in_ok-push.ensures.items
