use Rattle.std.proofs.Common.{sym, ap, ◌∙◌}
use Rattle.std.specs.BTreeMap.{get_by_text}
use Rattle.std.specs.Option.{option_or}
use Rattle.hashes.specs.TextIndices.{number_of}
use Rattle.hashes.proofs.text_index.TextIndex.get.Goals as goal

pub returns-in-Some : goal.returns-in-Some
unfolding number_of
returns-in-Some c = sym (ap (λ o. option_or o (get_by_text c.args.self.now.others c.args.text.now)) (sym c.first.ensures ∙ c.in-Some.is))

pub returns-in-None : goal.returns-in-None
unfolding number_of
returns-in-None c =
    c.copied.ensures ∙ c.get.ensures.value ∙ sym (ap (λ o. option_or o (get_by_text c.args.self.now.others c.args.text.now)) (sym c.first.ensures ∙ c.in-None.is))
