use Rattle.std.proofs.Common.{[], sym, ap, ◌∙◌}
use Rattle.std.specs.Option.{option_map}
use Rattle.rendering_style.specs.StyleViews.{style_view}
use Rattle.cite_command.proofs.ProgramWords.{no_format}
use Rattle.cite_command.proofs.program.read_words.Goals as goal

pub returns-in_default-format_named : goal.returns-in_default-format_named
returns-in_default-format_named c =
    no_format c.args.words.now (record { ref_ptr = (0, 0); now = [] }) (style_view c.in-Some.known) c.in-len4-up.len_at_least
    (sym c.in_ok-known.ensures ∙ ap (option_map style_view) c.in-Some.is) (sym c.format_named.ensures ∙ c.in_default-format_named.is)
