use Rattle.std.proofs.Common.{ℕ, List, ◌++◌, length, rules, sym, ap, ◌∙◌, arith}
use Rattle.std.specs.Str.{chars}
use Rattle.std.proofs.lemmas.List.{append-nil}
use Rattle.laws.specs.Text.{characters}
use Rattle.biblatex_typography.specs.Typography as specs
use Rattle.biblatex_typography.proofs.text.typographic_text.Goals as goal

pub loop-c-init : goal.loop-c-init
loop-c-init c = (ap (λ (cs : List ℕ). cs ++ specs.typographic_text (chars c.args.text.now)) c.empty_text-printed.ensures.characters, search rules)

pub loop-c-smaller : goal.loop-c-smaller
loop-c-smaller c = omega (arith, ap length c.in-Some.ensures.chars, c.in_ok-rest.ensures.shorter)

pub loop-c-preserved : goal.loop-c-preserved
loop-c-preserved c = (
  c.in_ok-rest.ensures.printed
      ∙ (ap (λ (cs : List ℕ). characters c.loop-c.printed ++ specs.typographic_text cs) (sym c.in-Some.ensures.chars) ∙ c.loop-c.invariant.0),
  search rules,
)

pub returns : goal.returns
returns c =
    sym (append-nil (characters c.loop-c.printed))
    ∙ (ap (λ (cs : List ℕ). characters c.loop-c.printed ++ specs.typographic_text cs) (sym c.in_default.ensures.chars) ∙ c.loop-c.invariant.0)
