use Rattle.std.proofs.Common.{rules}
use Rattle.std.specs.Str.{chars}
use Rattle.biblatex_writing.proofs.ContentRuns.{barred, special_first, is_shorter, special_written, leaves_more, leaves_nothing}
use Rattle.biblatex_writing.proofs.characters.push_characters.Goals as goal

pub loop-c-init : goal.loop-c-init
loop-c-init g c = (c.push_run-rest.ensures.written, (barred c.args.is_verbatim (chars c.args.text.now) (chars c.push_run-rest.result.now) c.push_run-rest.ensures.rest, search rules))

pub spelling-requires : goal.spelling-requires
spelling-requires g c = special_first c.args.is_verbatim (chars c.loop-c.rest.now) c.in-Some.c (chars c.in-Some.more.now) c.loop-c.invariant.1.0 c.in-Some.ensures.chars

pub loop-c-smaller : goal.loop-c-smaller
loop-c-smaller g c = is_shorter c.args.is_verbatim (chars c.loop-c.rest.now) c.in-Some.c (chars c.in-Some.more.now) (chars c.push_run-rest-in-Some.result.now) c.in-Some.ensures.chars c.push_run-rest-in-Some.ensures.rest

pub loop-c-preserved : goal.loop-c-preserved
loop-c-preserved g c =
    let took = g.T.Target.takes in
    let v = c.args.is_verbatim in
    let rest = chars c.loop-c.rest.now in
    let more = chars c.in-Some.more.now in
    let special = special_written took v c.loop-c.target c.loop-c.rest.now c.in-Some.more.now c.in-Some.c c.spelling.result.now c.push_str.new.self c.loop-c.invariant.1.0 c.in-Some.ensures.chars c.spelling.ensures c.push_str.ensures in
    let so_far = leaves_more took v c.args.target.now (chars c.args.text.now) c.loop-c.target rest c.push_str.new.self more c.loop-c.invariant.0 special in (
      leaves_more took v c.args.target.now (chars c.args.text.now) c.push_str.new.self more c.push_run-rest-in-Some.new.target (chars c.push_run-rest-in-Some.result.now) so_far c.push_run-rest-in-Some.ensures.written,
      (barred v more (chars c.push_run-rest-in-Some.result.now) c.push_run-rest-in-Some.ensures.rest, search rules),
    )

pub returns : goal.returns
returns g c = leaves_nothing g.T.Target.takes c.args.is_verbatim c.args.target.now (chars c.args.text.now) c.loop-c.target (chars c.loop-c.rest.now) c.loop-c.invariant.0 c.in_default.ensures.chars
