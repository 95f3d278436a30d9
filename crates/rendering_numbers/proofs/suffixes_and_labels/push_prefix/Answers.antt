use Rattle.std.proofs.Common.{◌++◌, List, ℕ, sym, ap, ◌∙◌, map-id}
use Rattle.std.proofs.lemmas.Iterator.{YieldsList-from_chars, YieldsList-from_take}
use Rattle.std.proofs.lemmas.Iterator.Consumers.{YieldsList-end}
use Rattle.laws.specs.Text.{characters}
use Rattle.rendering_numbers.proofs.suffixes_and_labels.push_prefix.Goals as goal

pub returns : goal.returns
returns c =
    let end = YieldsList-end (YieldsList-from_take c.args.count (YieldsList-from_chars c.args.text.now c.utf8.text cc) cc) c.loop-c.yielded _ c.loop-c.yielded_by _ _ c.in-None.is c.next.ensures.steps in
    c.loop-c.invariant ∙ ap (λ (cs : List ℕ). characters c.args.out.now ++ cs) (sym (map-id c.loop-c.yielded) ∙ end.0)
