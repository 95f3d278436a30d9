use Rattle.std.proofs.Common.{sym, ◌∙◌}
use Rattle.std.specs.Prelude.{string_bytes}
use Rattle.std.specs.Str.{chars}
use Rattle.bib_show.proofs.ShownMembers.{put_text}
use Rattle.bib_show.proofs.member.push_text.Goals as goal

pub returns : goal.returns
returns c more = put_text (string_bytes c.args.out.now) _ _ c.args.is_open c.args.is_verbatim (chars c.args.text.now) more (sym c.has_text.ensures ∙ c.if-not-has_text.false) c.in_ok-turn.ensures c.in_ok-push_characters.ensures
