use Rattle.std.proofs.Common.{◌≡◌, ◌≤◌, ◌<◌, length, sym, ap, subst, ◌∙◌, arith, rules}
use Rattle.std.specs.BTreeMap.{get}
use Rattle.std.specs.List.{position_or_len}
use Rattle.laws.specs.Borrowed.{borrowed}
use Rattle.driver_requests.specs.EntryKeys.{IsIndex, has_key, order}
use Rattle.driver_requests.proofs.EntriesFound.{first_no_later, lent_or, nowhere, put_new, put_old, there}
use Rattle.driver_requests.proofs.IndicesFound.{entries_pushed, lent_more, pushed_old}
use Rattle.driver_requests.proofs.cited.index_of.Goals as goal

pub index_from-index-requires : goal.index_from-index-requires
index_from-index-requires g c =
    let items = c.args.entries.now.items in
    let key = c.new.result in
    let len : c.len.result ≡ length items = search rules in
    let first = lent_or items (get order c.args.table.now key) c.in_ok-first.first c.len.result c.in_ok-first.ensures.value len in
    subst (λ xs. c.in_ok-first.first ≤ position_or_len (g.T.PartialEq.eq c.args.entry.now) (borrowed xs)) (sym c.deref.ensures.value)
    (first_no_later g.T.Hash.hash_input g.T.EntryLike.answers c.args.entry.now key c.new.ensures.hash c.new.ensures.key c.args.table.now c.in_ok-first.first (borrowed items) first c.requires
    g.met.T.Hash.respects_eq g.met.T.EntryLike.alike)

pub returns-then-index-len-clause-table : goal.returns-then-index-len-clause-table
returns-then-index-len-clause-table g c =
    let items = c.args.entries.now.items in
    let test = g.T.PartialEq.eq c.args.entry.now in
    let key = c.new.result in
    let len : c.len.result ≡ length items = search rules in
    let first = lent_or items (get order c.args.table.now key) c.in_ok-first.first c.len.result c.in_ok-first.ensures.value len in
    let index = c.index_from-index.ensures ∙ ap (λ xs. position_or_len test (borrowed xs)) c.deref.ensures.value in
    let len-2 : c.len-2.result ≡ length items = search rules in
    let less : c.index_from-index.result < length items = omega (arith, c.if-index-len.true, len-2) in
    put_old g.T.Hash.hash_input g.T.EntryLike.answers c.args.entry.now key c.new.ensures.hash c.new.ensures.key c.args.table.now c.in_ok-first.first (borrowed items) first c.requires c.first_under.new.table
    c.in_ok-first.ensures.table g.met.T.Hash.respects_eq g.met.T.EntryLike.alike (there test items c.index_from-index.result index less)

pub returns-then-index-len-clause-entries : goal.returns-then-index-len-clause-entries
returns-then-index-len-clause-entries g c =
    let items = c.args.entries.now.items in
    let test = g.T.PartialEq.eq c.args.entry.now in
    let index = c.index_from-index.ensures ∙ ap (λ xs. position_or_len test (borrowed xs)) c.deref.ensures.value in
    let len-2 : c.len-2.result ≡ length items = search rules in
    let less : c.index_from-index.result < length items = omega (arith, c.if-index-len.true, len-2) in
    sym (pushed_old g.T.PartialEq.eq (borrowed items) c.args.entry.now (there test items c.index_from-index.result index less))

pub returns-clause-table : goal.returns-clause-table
returns-clause-table g c =
    let items = c.args.entries.now.items in
    let key = c.new.result in
    let len : c.len.result ≡ length items = search rules in
    let first = lent_or items (get order c.args.table.now key) c.in_ok-first.first c.len.result c.in_ok-first.ensures.value len in
    subst (IsIndex (has_key g.T.Hash.hash_input g.T.EntryLike.answers) c.first_under.new.table) (sym (lent_more items c.push.new.self.items c.args.entry c.in_ok-push.ensures.items))
    (put_new g.T.Hash.hash_input g.T.EntryLike.answers c.args.entry.now key c.new.ensures.hash c.new.ensures.key c.args.table.now c.in_ok-first.first (borrowed items) first c.requires c.first_under.new.table
    c.in_ok-first.ensures.table)

pub returns-clause-entries : goal.returns-clause-entries
returns-clause-entries g c =
    let items = c.args.entries.now.items in
    let test = g.T.PartialEq.eq c.args.entry.now in
    let index = c.index_from-index.ensures ∙ ap (λ xs. position_or_len test (borrowed xs)) c.deref.ensures.value in
    let len-2 : c.len-2.result ≡ length items = search rules in
    let over : length items ≤ c.index_from-index.result = omega (arith, c.if-index-len.false, len-2) in
    entries_pushed g.T.PartialEq.eq items c.push.new.self.items c.args.entry (nowhere test items c.index_from-index.result index over) c.in_ok-push.ensures.items
