use Rattle.std.proofs.Common.{string_bytes, rules}
use Rattle.bib_show.proofs.ShownPlain.{put_plain}
use Rattle.bib_show.proofs.member.push_plain.Goals as goal

pub returns-clause-shown : goal.returns-clause-shown
returns-clause-shown c = put_plain (string_bytes c.args.out.now) (string_bytes c.push_str.new.self) c.args.text.now c.split_plain.result.0.now c.split_plain.result.1.now (search rules) c.split_plain.ensures.prefix c.split_plain.ensures.rest c.in_ok-push_str.ensures.bytes
