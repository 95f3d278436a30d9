use Rattle.std.proofs.Common.{ap, ◌∙◌}
use Rattle.std.proofs.lemmas.List.{map_push}
use Rattle.biblatex_entries.specs.Entries.{source_view, sources_view}
use Rattle.biblatex.proofs.LoadingApart.{last_whole, last_apart}
use Rattle.biblatex.proofs.apart.push_apart.Goals as goal

pub returns-clause-long : goal.returns-clause-long
returns-clause-long c =
    let es = c.args.entries.now.items in
    let new = c.set_aside.new.entry in
    let one = ap sources_view c.in_ok-push.ensures.items ∙ map_push source_view es new in
    let apart = last_apart (sources_view es) (sources_view c.push.new.self.items) c.args.shared.now.items c.push-2.new.self.items (source_view c.args.entry) (source_view new) c.in_ok-beside.beside one c.in_ok-push-2.ensures.items
    (record { long = c.requires.long; same = c.requires.same }) c.in_ok-beside.ensures in
    apart.long

pub returns-clause-same : goal.returns-clause-same
returns-clause-same c =
    let es = c.args.entries.now.items in
    let new = c.set_aside.new.entry in
    let one = ap sources_view c.in_ok-push.ensures.items ∙ map_push source_view es new in
    let apart = last_apart (sources_view es) (sources_view c.push.new.self.items) c.args.shared.now.items c.push-2.new.self.items (source_view c.args.entry) (source_view new) c.in_ok-beside.beside one c.in_ok-push-2.ensures.items
    (record { long = c.requires.long; same = c.requires.same }) c.in_ok-beside.ensures in
    apart.same

pub returns-clause-last : goal.returns-clause-last
returns-clause-last c =
    let es = c.args.entries.now.items in
    let new = c.set_aside.new.entry in
    let one = ap sources_view c.in_ok-push.ensures.items ∙ map_push source_view es new in
    last_whole (sources_view es) (sources_view c.push.new.self.items) c.args.shared.now.items c.push-2.new.self.items (source_view c.args.entry) (source_view new) c.in_ok-beside.beside one c.in_ok-push-2.ensures.items
    (record { long = c.requires.long; same = c.requires.same }) c.in_ok-beside.ensures
