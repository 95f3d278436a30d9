use Rattle.std.proofs.Common.{◌≡◌, false, ◌∙◌, rules}
use Rattle.std.specs.Str.{chars}
use Rattle.laws.specs.Text.{characters}
use Rattle.csl_words.specs.Printing.{spaced}
use Rattle.csl_words.proofs.Spacing.{appends_more, appends_end, text_stays}
use Rattle.csl_words.proofs.printing.spaced.Goals as goal

pub loop-c-preserved : goal.loop-c-preserved
loop-c-preserved c = (
  appends_more c.loop-c.after_space c.is_space-after_space.result (characters c.loop-c.spaced) (characters c.push_part.new.text) (chars c.loop-c.rest.now) (chars c.in-Some.others.now)
      (spaced (chars c.args.text.now)) c.in-Some.c c.loop-c.invariant.0 c.in-Some.ensures.chars c.in_ok-push_part.ensures c.is_space-after_space.ensures,
  search rules,
)

pub returns : goal.returns
returns c =
    let runs : characters c.loop-c.spaced ≡ spaced (chars c.args.text.now) =
    appends_end c.loop-c.after_space (characters c.loop-c.spaced) (chars c.loop-c.rest.now) (spaced (chars c.args.text.now)) c.loop-c.invariant.0 c.in_default.ensures.chars in
    record { runs = runs; copy = λ stays. runs ∙ text_stays false (chars c.args.text.now) stays }
