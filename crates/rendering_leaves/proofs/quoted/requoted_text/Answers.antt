use Rattle.std.proofs.Common.{ℕ, List, ◌++◌, rules, sym, ap, ◌∙◌}
use Rattle.std.specs.Str.{chars}
use Rattle.std.proofs.lemmas.List.{append-nil}
use Rattle.laws.specs.Text.{characters}
use Rattle.rendering_leaves.specs.Quoted as specs
use Rattle.rendering_leaves.proofs.QuotesInside.{put_requoted}
use Rattle.rendering_leaves.proofs.quoted.requoted_text.Goals as goal

pub loop-c-init : goal.loop-c-init
loop-c-init c = (
  ap (λ (cs : List ℕ). cs ++ specs.requoted_text c.args.locales.now c.args.inner (chars c.args.text.now)) c.empty_text-written.ensures.characters,
  search rules,
)

pub loop-c-preserved : goal.loop-c-preserved
loop-c-preserved c =
    let ls = c.args.locales.now in
    let inner = c.args.inner in
    let old = characters c.loop-c.written in (
      put_requoted ls inner old (characters c.push_requoted.new.text) c.in-Some.c (chars c.in-Some.more.now) c.in_ok-push_requoted.ensures
          ∙ (ap (λ (cs : List ℕ). old ++ specs.requoted_text ls inner cs) (sym c.in-Some.ensures.chars) ∙ c.loop-c.invariant.0),
      search rules,
    )

pub returns : goal.returns
returns c =
    sym (append-nil (characters c.loop-c.written))
    ∙ (ap (λ (cs : List ℕ). characters c.loop-c.written ++ specs.requoted_text c.args.locales.now c.args.inner cs) (sym c.in_default.ensures.chars) ∙ c.loop-c.invariant.0)
