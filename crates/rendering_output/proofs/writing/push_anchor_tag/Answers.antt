use Rattle.std.proofs.Common.{◌++◌, refl, codes}
use Rattle.std.specs.Str.{chars}
use Rattle.rendering_output.specs.Writing.{escaped}
use Rattle.rendering_output.proofs.WritingCalls.{writes_ascii, writes_more}
use Rattle.rendering_output.proofs.writing.push_anchor_tag.Goals as goal

pub returns : goal.returns
returns g c =
    let took = g.T.TextTarget.takes in
    let prefix = codes "<a href=\"" in
    let url = escaped (chars c.args.url.now) in
    let back = codes "\">" in
    let first = writes_ascii took c.args.target.now prefix c.push_str.new.self refl c.push_str.ensures in
    let last = writes_ascii took c.push_escaped.new.target back c.push_str-2.new.self refl c.push_str-2.ensures in
    writes_more took _ prefix _ (url ++ back) _ first (writes_more took _ url _ back _ c.push_escaped.ensures last)
