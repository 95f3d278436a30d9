use Rattle.std.proofs.Common.{◌++◌, sym, ap, ◌∙◌, string_bytes}
use Rattle.std.proofs.lemmas.Str.{IsUtf8-string_bytes}
use Rattle.laws.specs.Text.{text}
use Rattle.laws.proofs.Text.{text_of_chars}
use Rattle.rendering_tree.specs.Views.{element_view}
use Rattle.driver_blocks.specs.Key.{element_key}
use Rattle.driver_blocks.proofs.key.whole_key.Goals as goal

pub returns : goal.returns
returns c =
    let new = c.push_element.new.key in
    sym (text_of_chars (string_bytes new) (IsUtf8-string_bytes new))
    ∙ ap text (c.in_ok-push_element.ensures ∙ ap (λ cs. cs ++ element_key (element_view c.args.names.now)) c.empty_text-key.ensures.characters)
