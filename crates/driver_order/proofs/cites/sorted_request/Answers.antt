use Rattle.std.proofs.Common.{◌<◌, length, arith}
use Rattle.laws.specs.Borrowed.{borrowed}
use Rattle.rendering_style.specs.StyleViews.{style_view}
use Rattle.driver_order.specs.Keyed.{number_by}
use Rattle.driver_order.proofs.RequestsSorted.{few_in_order}
use Rattle.driver_order.proofs.cites.sorted_request.Goals as goal

pub returns-then-len-lt2 : goal.returns-then-len-lt2
returns-then-len-lt2 g c =
    let ns = c.args.numbers.now in
    let number = number_by g.T.PartialEq.eq (borrowed ns.cited.now.entries.items) ns.numbers.now in
    let few : length c.args.request.items.items < 2 =
    omega (arith, c.len.ensures, c.args.request.items.ok.0, c.if-len-lt2.true) in
    few_in_order (style_view c.args.sorting.now) g.T.EntryLike.answers number c.args.request few
