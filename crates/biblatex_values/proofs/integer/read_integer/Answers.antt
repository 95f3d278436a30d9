use Rattle.std.proofs.Common.{rules, sym, ◌∙◌, w64, FitsSigned, Ok, arith}
use Rattle.std.proofs.lemmas.Int.{to_z-of_z}
use Rattle.biblatex_values.proofs.IntegerPrinted.{integer_parsed, integer_refused, no_plus}
use Rattle.biblatex_values.proofs.integer.read_integer.Goals as goal

pub returns-in-Ok : goal.returns-in-Ok
returns-in-Ok c =
    let fits : FitsSigned w64 c.in-Ok.number = search rules in
    let test = c.starts_with.ensures.byte (omega arith) (omega arith) (λ w o m. m) in
    (λ i. Ok (to_z-of_z w64 c.in-Ok.number fits i))
    ∙ sym (integer_parsed c.args.text.now c.in-Ok.number c.parse.result c.in-Ok.is (no_plus c.args.text.now c.starts_with.result c.if-starts_with.false test) c.parse.ensures.value.0)

pub returns-in-Err : goal.returns-in-Err
returns-in-Err c =
    let test = c.starts_with.ensures.byte (omega arith) (omega arith) (λ w o m. m) in
    let p = rw c.in-Err.is at c.parse.ensures.value.0 in
    sym (integer_refused c.args.text.now c.in-Err.field-0 (no_plus c.args.text.now c.starts_with.result c.if-starts_with.false test) p)
