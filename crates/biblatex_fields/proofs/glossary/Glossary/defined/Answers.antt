use Rattle.std.proofs.Common.{◌≡◌, get_or, false, refl, sym}
use Rattle.biblatex_fields.proofs.glossary.Glossary.defined.Goals as goal

pub returns : goal.returns
returns c =
    let plain : get_or c.self.inside.circular.items c.args.index false ≡ false = sym (rw c.if-index.false at c.index.ensures) in
    rw (← c.self.view_is) (rw plain refl)
