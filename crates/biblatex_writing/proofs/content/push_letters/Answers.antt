use Rattle.std.specs.Str.{chars}
use Rattle.biblatex_writing.proofs.ContentMembers.{no_letters, letters_written}
use Rattle.biblatex_writing.proofs.content.push_letters.Goals as goal

pub returns-in_default : goal.returns-in_default
returns-in_default g c = no_letters g.T.Target.takes c.args.target.now c.args.is_open c.args.kind (chars c.args.text.now) c.in_default.ensures.chars

pub returns : goal.returns
returns g c =
    letters_written g.T.Target.takes c.args.target.now c.args.is_open c.args.kind c.args.text.now c.in-Some.c (chars c.in-Some.field-0-1.now) c.turning.result.now c.push_str.new.self c.push_characters.new.target c.is_grouped.result
    c.in-Some.ensures.chars c.turning.ensures c.push_str.ensures c.push_characters.ensures c.is_grouped.ensures
