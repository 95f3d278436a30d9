use Rattle.std.proofs.Common.{ℕ, false, List, ◌++◌, rules, sym, ap, ◌∙◌}
use Rattle.std.specs.Str.{chars}
use Rattle.std.proofs.lemmas.List.{append-nil}
use Rattle.laws.specs.Text.{characters}
use Rattle.rendering_ranges.specs.Delimited.{delimited_after}
use Rattle.rendering_ranges.proofs.DelimitedDashes.{put}
use Rattle.rendering_ranges.proofs.delimiters.with_delimiter.Goals as goal

pub loop-c-init : goal.loop-c-init
loop-c-init c = (ap (λ (cs : List ℕ). cs ++ delimited_after (chars c.args.delimiter.now) false (chars c.args.text.now)) c.empty_text-out.ensures.characters, search rules)

pub loop-c-preserved : goal.loop-c-preserved
loop-c-preserved c =
    let d = chars c.args.delimiter.now in
    let old = characters c.loop-c.out in (
      put d c.loop-c.has_come c.has_come_after-has_come.result old (characters c.push_exchanged.new.out) c.in-Some.c (chars c.in-Some.after.now) c.in_ok-push_exchanged.ensures c.has_come_after-has_come.ensures
          ∙ (ap (λ (cs : List ℕ). old ++ delimited_after d c.loop-c.has_come cs) (sym c.in-Some.ensures.chars) ∙ c.loop-c.invariant.0),
      search rules,
    )

pub returns : goal.returns
returns c =
    sym (append-nil (characters c.loop-c.out))
    ∙ (ap (λ (cs : List ℕ). characters c.loop-c.out ++ delimited_after (chars c.args.delimiter.now) c.loop-c.has_come cs) (sym c.in_default.ensures.chars) ∙ c.loop-c.invariant.0)
