use Rattle.std.specs.Prelude.{string_bytes}
use Rattle.std.proofs.lemmas.Result.{on_ok_weaker}
use Rattle.std.proofs.lemmas.Str.{IsUtf8-string_bytes}
use Rattle.literature_numbers.specs.PageViews.{page_part_view}
use Rattle.literature_numbers.specs.Pages.{part_text}
use Rattle.rendering_ranges.proofs.Written.{chars-written}
use Rattle.rendering_ranges.proofs.ranges.push_whole.Goals as goal

pub returns : goal.returns
returns c =
    let old = c.args.out.now in
    let new = c.write.new.self in
    on_ok_weaker c.write.result
    (chars-written (string_bytes old) (string_bytes new) (part_text (page_part_view c.args.part.now)) (IsUtf8-string_bytes old) (IsUtf8-string_bytes new))
    c.write.ensures.bytes
