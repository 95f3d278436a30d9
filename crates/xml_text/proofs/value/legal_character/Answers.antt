use Rattle.std.proofs.Common.{refl}
use Rattle.xml_text.proofs.Numbers.{no_scalar}
use Rattle.xml_text.proofs.value.legal_character.Goals as goal

pub returns-in_default-2 : goal.returns-in_default-2
returns-in_default-2 c =
    let out = no_scalar c.args.number c.in_default.ensures.cases in
    rw out refl
