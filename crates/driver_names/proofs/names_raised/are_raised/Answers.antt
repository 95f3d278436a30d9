use Rattle.std.proofs.Common.{◌≡◌, ◌<◌, length, ap, sym, ◌∙◌, arith}
use Rattle.std.proofs.lemmas.List.{get_or-map, length-map}
use Rattle.driver_names.specs.Namesakes.{is_raised, is_raised_after}
use Rattle.driver_names.specs.NamesViews.{member_view, members_view}
use Rattle.driver_names.proofs.NamesakesCounted.{any_found, any_later, shared_of}
use Rattle.driver_names.proofs.names_raised.are_raised.Goals as goal

pub returns-then-is_raised : goal.returns-then-is_raised
returns-then-is_raised c =
    let members = c.args.members.now in
    let ms = members_view members in
    let i = c.loop-at.at in
    let m = c.index-members-at.result in
    let low = c.loop-at-test.true in
    let within : i < length ms = omega (arith, length-map members member_view, low) in
    let at : member_view m ≡ _ = ap member_view c.index-members-at.is ∙ sym (get_or-map member_view members i m (member_view m) low) in
    any_found member_view (is_raised_after c.args.most ms) members i m low c.index-members-at.is
    (ap (λ n. is_raised c.args.most n (member_view m)) (sym (shared_of c.args.most ms c.args.shared.now i (member_view m) c.requires.shared within at)) ∙ sym c.is_raised.ensures ∙ c.if-is_raised.true)
    c.loop-at.invariant

pub loop-at-preserved : goal.loop-at-preserved
loop-at-preserved c =
    let members = c.args.members.now in
    let ms = members_view members in
    let i = c.loop-at.at in
    let m = c.index-members-at.result in
    let low = c.loop-at-test.true in
    let within : i < length ms = omega (arith, length-map members member_view, low) in
    let at : member_view m ≡ _ = ap member_view c.index-members-at.is ∙ sym (get_or-map member_view members i m (member_view m) low) in
    any_later member_view (is_raised_after c.args.most ms) members i m low c.index-members-at.is
    (ap (λ n. is_raised c.args.most n (member_view m)) (sym (shared_of c.args.most ms c.args.shared.now i (member_view m) c.requires.shared within at)) ∙ sym c.is_raised.ensures ∙ c.if-is_raised.false)
    c.loop-at.invariant
