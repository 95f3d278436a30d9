use Rattle.std.proofs.Common.{sym, ◌∙◌}
use Rattle.rendering_style.specs.Views.{bibliography_layout_view}
use Rattle.driver.proofs.ItemsListed.{fields_long}
use Rattle.driver.proofs.bibliography.bibliography_of.Goals as goal

pub with_keys-requires : goal.with_keys-requires
with_keys-requires g c = c.requires ∙ sym (fields_long (bibliography_layout_view c.args.style.now) c.in_ok-fields.fields.items c.args.printed.items c.in_ok-fields.ensures)
