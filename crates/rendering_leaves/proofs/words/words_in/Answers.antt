use Rattle.std.proofs.Common.{ℕ, false, List, ◌++◌, rules, sym, ap, ◌∙◌}
use Rattle.std.specs.Str.{chars}
use Rattle.std.proofs.lemmas.List.{append-nil}
use Rattle.laws.specs.Text.{characters}
use Rattle.rendering_leaves.specs.Words as specs
use Rattle.rendering_leaves.proofs.WordsPrinted.{put_printed}
use Rattle.rendering_locale.specs.Views.{ordinals_view}
use Rattle.rendering_leaves.proofs.words.words_in.Goals as goal

pub loop-c-init : goal.loop-c-init
loop-c-init c = (
  ap (λ (cs : List ℕ). cs ++ specs.words_after (ordinals_view c.args.ordinals.now) c.args.form false (chars c.args.text.now)) c.empty_text-out.ensures.characters,
  search rules,
)

pub loop-c-preserved : goal.loop-c-preserved
loop-c-preserved c =
    let o = ordinals_view c.args.ordinals.now in
    let old = characters c.loop-c.out in (
      put_printed o c.args.form c.loop-c.is_inside c.is_of_word-is_inside.result old (characters c.push_printed.new.out) c.in-Some.c (chars c.loop-c.rest.now) (chars c.in-Some.after.now)
          c.in-Some.ensures.chars c.in_ok-push_printed.ensures c.is_of_word-is_inside.ensures
          ∙ c.loop-c.invariant.0,
      search rules,
    )

pub returns : goal.returns
returns c =
    sym (append-nil (characters c.loop-c.out))
    ∙ (ap (λ (cs : List ℕ). characters c.loop-c.out ++ specs.words_after (ordinals_view c.args.ordinals.now) c.args.form c.loop-c.is_inside cs) (sym c.in_default.ensures.chars)
    ∙ c.loop-c.invariant.0)
