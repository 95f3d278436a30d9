use Rattle.std.proofs.Common.{◌≡◌, map, rules}
use Rattle.std.specs.Str.{chars}
use Rattle.literature_values.specs.TextViews.{chunk_view}
use Rattle.rendering_cases.specs.Cases.{plain}
use Rattle.rendering_cases.proofs.cased.joined_chunks.Goals as goal

pub returns : goal.returns
returns c =
    let all : chars c.as_str.result.now ≡ plain (map chunk_view c.args.chunks.now) = search rules in
    c.chunks_of.ensures all
