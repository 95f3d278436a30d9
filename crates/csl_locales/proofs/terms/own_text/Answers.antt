use Rattle.laws.specs.Text.{characters}
use Rattle.csl_locales.proofs.Opened.{text_whole}
use Rattle.csl_locales.proofs.terms.own_text.Goals as goal

pub returns : goal.returns
returns c =
    text_whole c.args.element.now c.as_slice.result.now c.as_str.result.now (characters c.empty_text-text.result) (characters c.push_texts.new.text) (characters c.push_text.new.text)
    c.as_slice.ensures.value c.as_str.ensures.value c.empty_text-text.ensures.characters c.in_ok-push_texts.ensures c.in_ok-push_text.ensures
