use Rattle.std.proofs.Common.{map, subst, sym, ◌∙◌}
use Rattle.std.proofs.lemmas.List.{map_push}
use Rattle.std.proofs.lemmas.Result.{err_from_is_err_and}
use Rattle.literature.specs.Views.{left, fault}
use Rattle.laws.specs.Results.{EndsWith}
use Rattle.laws.specs.Text.{characters}
use Rattle.literature.proofs.ReadingRepeats.{names_go_on, names_fail_later, names_end, names_stay_open}
use Rattle.literature.proofs.reader.Reader.names.Goals as goal

pub returns-in_err-name-2 : goal.returns-in_err-name-2
returns-in_err-name-2 c =
    let p = err_from_is_err_and c.from_residual-in_err-name-2.result c.from_residual-in_err-name-2.ensures.1 in
    let o = fault c.in_err-name-2.field-0.0 in
    let comma = rw c.loop-alloc-test.true at c.take.ensures in
    rw (p.1, p.2) (subst (λ r. EndsWith o r) c.loop-alloc.invariant (names_fail_later (map characters c.loop-alloc.names.items) (left c.loop-alloc.self) (left c.take.new.self) o comma c.in_err-name-2.ensures))

pub loop-alloc-preserved : goal.loop-alloc-preserved
loop-alloc-preserved c =
    let comma = rw c.loop-alloc-test.true at c.take.ensures in
    let names = c.loop-alloc.names.items in
    let name = c.in_ok-name-2.field-0 in
    rw (c.in_ok-push-2.ensures.items, map_push characters names name)
    (sym (names_go_on (map characters names) (left c.loop-alloc.self) (left c.take.new.self) (left c.name-in-loop-alloc.new.self) (characters name) comma c.in_ok-name-2.ensures) ∙ c.loop-alloc.invariant)

pub returns-then-not-take : goal.returns-then-not-take
returns-then-not-take c =
    let comma = rw c.loop-alloc-test.false at c.take.ensures in
    let bracket = rw c.if-not-take.true at c.take-2.ensures in
    sym c.loop-alloc.invariant ∙ names_stay_open (map characters c.loop-alloc.names.items) (left c.loop-alloc.self) (left c.take.new.self) (left c.take-2.new.self) comma bracket

pub returns : goal.returns
returns c =
    let comma = rw c.loop-alloc-test.false at c.take.ensures in
    let bracket = rw c.if-not-take.false at c.take-2.ensures in
    sym c.loop-alloc.invariant ∙ names_end (map characters c.loop-alloc.names.items) (left c.loop-alloc.self) (left c.take.new.self) (left c.take-2.new.self) comma bracket
