use Rattle.std.proofs.Common.{◌≡◌, length, replicate, ap, sym, ◌∙◌}
use Rattle.std.proofs.lemmas.List.{length-map}
use Rattle.driver_names.specs.NamesViews.{member_view, members_view}
use Rattle.driver_names.proofs.NamesShared.{shared_by_all}
use Rattle.driver_names.proofs.names_shared.shared_people.Goals as goal

pub returns : goal.returns
returns c =
    let ms = members_view c.args.members.now in
    let many : length c.args.members.now ≡ length ms = sym (length-map c.args.members.now member_view) in
    shared_by_all c.args.most ms c.in_ok-shared.shared.items c.share_where.new.shared.items c.share_where-2.new.shared.items c.share_where-3.new.shared.items c.share_where-4.new.shared.items c.share_where-5.new.shared.items
    c.share_where-6.new.shared.items (c.in_ok-shared.ensures ∙ ap (λ n. replicate n 0) many) c.in_ok-share_where.ensures.shared c.in_ok-share_where-2.ensures.shared c.in_ok-share_where-3.ensures.shared
    c.in_ok-share_where-4.ensures.shared c.in_ok-share_where-5.ensures.shared c.in_ok-share_where-6.ensures.shared
