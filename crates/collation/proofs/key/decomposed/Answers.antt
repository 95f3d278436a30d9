use Rattle.std.proofs.Common.{sym, ap, ◌∙◌}
use Rattle.std.specs.Char.{is_ascii}
use Rattle.std.specs.List.{list_all}
use Rattle.unicode_normalization.specs.Forms.{nfd}
use Rattle.collation.proofs.Ascii.{nfd_ascii}
use Rattle.collation.proofs.key.decomposed.Goals as goal

pub returns-then-are_ascii : goal.returns-then-are_ascii
returns-then-are_ascii c =
    let all = ap (list_all is_ascii) (sym c.deref.ensures.value) ∙ (sym c.are_ascii.ensures ∙ c.if-are_ascii.true) in
    nfd_ascii c.in_ok-characters.characters.items all ∙ ap nfd c.in_ok-characters.ensures
