use Rattle.std.proofs.Common.{string_bytes, ◌∙◌, rules}
use Rattle.bib_show.proofs.ShownPlain.{put_marked, barred, shorter}
use Rattle.bib_show.proofs.member.push_characters.Goals as goal

pub loop-c-init : goal.loop-c-init
loop-c-init c = (c.in_ok-rest.ensures.shown, (barred c.args.text.now c.in_ok-rest.rest.now c.in_ok-rest.ensures.rest, search rules))

pub loop-c-smaller : goal.loop-c-smaller
loop-c-smaller c = shorter c.loop-c.rest.now c.in-Some.more.now c.in_ok-rest-2.rest.now c.in-Some.c c.in-Some.ensures.chars c.in_ok-rest-2.ensures.rest

pub loop-c-preserved : goal.loop-c-preserved
loop-c-preserved c = (
  c.in_ok-rest-2.ensures.shown
      ∙ (put_marked (string_bytes c.loop-c.out) (string_bytes c.push_escape.new.out) c.loop-c.rest.now c.in-Some.more.now c.in-Some.c c.loop-c.invariant.1.0 c.in-Some.ensures.chars c.in_ok-push_escape.ensures.bytes
      ∙ c.loop-c.invariant.0),
  (barred c.in-Some.more.now c.in_ok-rest-2.rest.now c.in_ok-rest-2.ensures.rest, search rules),
)
