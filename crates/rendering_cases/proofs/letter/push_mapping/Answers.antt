use Rattle.std.proofs.Common.{List, ℕ, ◌++◌, option_to_list, sym, ap, ◌∙◌}
use Rattle.std.proofs.lemmas.Result.{on_ok_weaker}
use Rattle.laws.specs.Text.{characters}
use Rattle.rendering_cases.proofs.Mapped.{put}
use Rattle.rendering_cases.proofs.letter.push_mapping.Goals as goal

pub returns : goal.returns
returns c =
    let one = c.next-first.ensures.steps in
    let two = c.next-second.ensures.steps in
    let three = c.next-third.ensures.steps in
    let all = put (characters c.args.output.now) c.args.mapping c.next-first.result c.next-second.result c.next-third.result (sym one.0) (sym (two.0 ∙ one.1)) (sym (three.0 ∙ two.1 ∙ one.2)) in
    on_ok_weaker c.push_some-3.result
    (λ last. last ∙ (ap (λ (t : List ℕ). t ++ option_to_list c.next-third.result) (c.in_ok-push_some-2.ensures ∙ ap (λ (t : List ℕ). t ++ option_to_list c.next-second.result) c.in_ok-push_some.ensures) ∙ all))
    c.push_some-3.ensures
