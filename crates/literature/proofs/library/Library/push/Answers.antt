use Rattle.std.proofs.Common.{◌≡◌, Some, sym, ap, ◌∙◌}
use Rattle.std.specs.Map.{values_of}
use Rattle.hashes.specs.TextIndices.{number_of}
use Rattle.literature.specs.Keys.{put}
use Rattle.literature.specs.Numbered.{AreNumbered}
use Rattle.literature_entries.specs.Views.{key_view}
use Rattle.literature.proofs.EntriesNumbered.{entry_put, keys_distinct, numbered_after, ok_or_err}
use Rattle.literature.proofs.library.Library.push.Goals as goal

pub invariant_of-self : goal.invariant_of-self
invariant_of-self c =
    let l = c.number_for.new.self in
    let numbers = number_of l.numbers in
    let n = c.in_ok-number.number in
    let has : numbers (key_view c.args.entry) ≡ Some n = ap numbers (sym c.key.ensures) ∙ c.in_ok-number.ensures.number in
    let after = ok_or_err c.insert.result c.insert.ensures.entries c.insert.ensures.err in
    let numbered : AreNumbered numbers l.next c.insert.new.self.entries =
    numbered_after numbers l.next n c.args.entry l.entries.entries c.insert.new.self.entries has after l.numbered in
    record { numbered = numbered; distinct = keys_distinct numbers l.next c.insert.new.self.entries numbered c.insert.ensures.unique }

pub returns-clause-ok : goal.returns-clause-ok
returns-clause-ok c =
    let l = c.number_for.new.self in
    let numbers = number_of l.numbers in
    let n = c.in_ok-number.number in
    let has : numbers (key_view c.args.entry) ≡ Some n = ap numbers (sym c.key.ensures) ∙ c.in_ok-number.ensures.number in
    ap values_of c.in_ok-insert.ensures.entries ∙ entry_put numbers l.next l.entries.entries l.numbered c.args.entry n has
    ∙ ap (λ m. put key_view (values_of m.entries) c.args.entry) c.number_for.ensures.entries
