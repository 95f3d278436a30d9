use Rattle.std.proofs.Common.{rules, sym, ◌∙◌, w32, FitsSigned, Ok}
use Rattle.std.proofs.lemmas.Int.{to_z-of_z}
use Rattle.texts.proofs.ReadingDigits.{number_parsed, number_refused}
use Rattle.texts.proofs.reader.Reader.number.Goals as goal

pub returns-in-Ok : goal.returns-in-Ok
returns-in-Ok c =
    let f : FitsSigned w32 c.in-Ok.number = search rules in
    number_parsed c.run.result.now _ c.in-Ok.number c.parse.result c.in-Ok.is c.run.utf8 c.run.ensures.prefix c.parse.ensures.value.0
    ∙ (λ i. Ok (sym (to_z-of_z w32 c.in-Ok.number f) i, sym c.run.ensures.rest i))

pub returns-in-Err : goal.returns-in-Err
returns-in-Err c =
    let p = rw c.in-Err.is at c.parse.ensures.value.0 in
    number_refused c.run.result.now _ c.in-Err.field-0 c.run.utf8 c.run.ensures.prefix p
