use Rattle.std.proofs.Common.{◌≡◌, get_or, string_bytes, add-one, sym, ap, ◌∙◌}
use Rattle.biblatex_entries.specs.Entries.{sources_view}
use Rattle.biblatex.specs.Indices.{names_in, meaning_in, AreInOrder}
use Rattle.biblatex.specs.Naming.{names_from, is_below}
use Rattle.biblatex.proofs.NamingEqual.{meant_alike}
use Rattle.biblatex.proofs.NamingOnce.{none_in_order, passed, repeated_step, stopped, skipped}
use Rattle.biblatex.proofs.naming.first_repeated.Goals as goal

pub returns-then-is_in_order : goal.returns-then-is_in_order
returns-then-is_in_order c =
    sym (none_in_order c.args.names.now (sources_view c.args.entries.now) c.requires.equal (passed c.is_in_order.result (AreInOrder c.args.names.now) c.if-is_in_order.true c.is_in_order.ensures))

pub loop-number-preserved : goal.loop-number-preserved
loop-number-preserved c =
    let es = c.args.entries.now in
    let n = c.loop-number.number in
    let all = names_from 0 (sources_view es) in
    let key = string_bytes (get_or es n c.index-entries-number.result).key in
    let asked : c.is_named_before.result ≡ is_below n (meaning_in all key) = c.is_named_before.ensures ∙ ap (is_below n) (ap (meaning_in (names_in c.args.names.now)) c.as_str.ensures.value ∙ meant_alike (names_in c.args.names.now) all c.requires.equal key) in
    let step = repeated_step all es n c.index-entries-number.result c.loop-number-test.true in
    rw (add-one n) (skipped (is_below n (meaning_in all key)) n _ _ (sym asked ∙ c.if-is_named_before.false) step ∙ c.loop-number.invariant)

pub returns-then-is_named_before : goal.returns-then-is_named_before
returns-then-is_named_before c =
    let es = c.args.entries.now in
    let n = c.loop-number.number in
    let all = names_from 0 (sources_view es) in
    let key = string_bytes (get_or es n c.index-entries-number.result).key in
    let asked : c.is_named_before.result ≡ is_below n (meaning_in all key) = c.is_named_before.ensures ∙ ap (is_below n) (ap (meaning_in (names_in c.args.names.now)) c.as_str.ensures.value ∙ meant_alike (names_in c.args.names.now) all c.requires.equal key) in
    let step = repeated_step all es n c.index-entries-number.result c.loop-number-test.true in
    stopped (is_below n (meaning_in all key)) n _ _ (sym asked ∙ c.if-is_named_before.true) step ∙ c.loop-number.invariant
