use Rattle.std.proofs.Common.{sym, ◌∙◌, rules}
use Rattle.std.specs.Str.{chars}
use Rattle.xml_schema.specs.Placing.{words_line}
use Rattle.xml_schema.proofs.Words.{line_on, line_here, line_end}
use Rattle.xml_schema.proofs.placing.words_line.Goals as goal

pub loop-c-preserved : goal.loop-c-preserved
loop-c-preserved c =
    let all = words_line (chars c.args.text.now) (chars c.args.text.now) in (
      line_on (chars c.loop-c.line.now) (chars c.line_after-line.result.now) (chars c.loop-c.rest.now) (chars c.in-Some.others.now) all c.in-Some.c c.loop-c.invariant.0 c.in-Some.ensures.chars
          (sym c.is_white.ensures ∙ c.if-is_white.true) c.line_after-line.ensures,
      search rules,
    )

pub returns-else-is_white : goal.returns-else-is_white
returns-else-is_white c =
    line_here (chars c.loop-c.line.now) (chars c.loop-c.rest.now) (chars c.in-Some.others.now) (words_line (chars c.args.text.now) (chars c.args.text.now)) c.in-Some.c c.loop-c.invariant.0 c.in-Some.ensures.chars
    (sym c.is_white.ensures ∙ c.if-is_white.false)

pub returns : goal.returns
returns c = line_end (chars c.loop-c.line.now) (chars c.loop-c.rest.now) (words_line (chars c.args.text.now) (chars c.args.text.now)) c.loop-c.invariant.0 c.in_default.ensures.chars
