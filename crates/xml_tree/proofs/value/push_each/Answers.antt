use Rattle.std.proofs.Common.{◌++◌, map, rules}
use Rattle.std.specs.Str.{chars}
use Rattle.laws.specs.Text.{characters}
use Rattle.xml_tree.specs.Values.{lines_of, shown}
use Rattle.xml_tree.proofs.Lines.{appends_more, appends_end}
use Rattle.xml_tree.proofs.value.push_each.Goals as goal

pub loop-c-preserved : goal.loop-c-preserved
loop-c-preserved c =
    let all = characters c.args.text.now ++ map (shown c.args.in_value) (lines_of (chars c.args.more.now)) in (
      appends_more c.args.in_value c.loop-c.returned (characters c.loop-c.text) (characters c.push_line_part.new.text) (chars c.loop-c.rest.now) (chars c.in-Some.others.now) all c.in-Some.c c.loop-c.invariant.0
          c.in-Some.ensures.chars c.in_ok-push_line_part.ensures,
      search rules,
    )

pub returns : goal.returns
returns c = appends_end c.args.in_value c.loop-c.returned (characters c.loop-c.text) (chars c.loop-c.rest.now) _ c.loop-c.invariant.0 c.in_default.ensures.chars
