use Rattle.std.proofs.Common.{◌≤◌, length, sym, ap, subst, ◌∙◌}
use Rattle.std.specs.BTreeMap.{get}
use Rattle.std.specs.List.{position_or_len}
use Rattle.std.specs.Option.{unwrap_or}
use Rattle.laws.specs.Borrowed.{borrowed}
use Rattle.driver_requests.specs.EntryKeys.{order}
use Rattle.driver_requests.proofs.EntriesFound.{first_no_later, lent_or}
use Rattle.driver_requests.proofs.cited.Cited.index.Goals as goal

pub index_from-index-requires : goal.index_from-index-requires
index_from-index-requires g c =
    let table = c.args.self.now.table in
    let items = c.args.self.now.entries.items in
    let key = c.new.result in
    let lent = c.as_slice-entries in
    let is = c.unwrap_or.ensures ∙ ap (λ o. unwrap_or o (length lent.result.now)) (c.copied-first.ensures ∙ c.get.ensures.value) in
    let first = lent_or items (get order table key) c.unwrap_or.result (length lent.result.now) is (ap length lent.ensures.value) in
    subst (λ xs. c.unwrap_or.result ≤ position_or_len (g.T.PartialEq.eq c.args.entry.now) (borrowed xs)) (sym lent.ensures.value)
    (first_no_later g.T.Hash.hash_input g.T.EntryLike.answers c.args.entry.now key c.new.ensures.hash c.new.ensures.key table c.unwrap_or.result (borrowed items) first c.requires
    g.met.T.Hash.respects_eq g.met.T.EntryLike.alike)
