use Rattle.std.proofs.Common.{◌≡◌, false, Option, Some, None, refl, sym, ap, ◌∙◌, arith, below_more}
use Rattle.std.specs.Option.{is_some}
use Rattle.std.proofs.lemmas.Option.{slice_get_read}
use Rattle.biblatex_inheritance.specs.declared.error.DateFault.{DateFault}
use Rattle.biblatex_suppliers.specs.Suppliers.{fault_of}
use Rattle.biblatex_suppliers.proofs.AlongOrder.{found_first}
use Rattle.biblatex_suppliers.proofs.along.first_unreadable.Goals as goal

none_is : (o : Option DateFault) → is_some o ≡ false → o ≡ None
none_is None is = refl
none_is (Some f) is = absurd cc

pub returns-then-is_some : goal.returns-then-is_some
returns-then-is_some c =
    let ss = c.args.supplies.now in
    let at = slice_get_read ss _ c.loop-known.known-index c.known-item.result refl c.loop-known-test.true c.known-item.is in
    found_first ss c.loop-known.known-index c.known-item.result c.known-item.result.dated.fault at refl (sym c.is_some.ensures ∙ c.if-is_some.true) c.loop-known.invariant

pub loop-known-preserved : goal.loop-known-preserved
loop-known-preserved c =
    let ss = c.args.supplies.now in
    let at = slice_get_read ss _ c.loop-known.known-index c.known-item.result refl c.loop-known-test.true c.known-item.is in
    below_more _ _ c.loop-known.invariant (ap fault_of at ∙ none_is c.known-item.result.dated.fault (sym c.is_some.ensures ∙ c.if-is_some.false))

pub returns : goal.returns
returns c = λ k low. c.loop-known.invariant k (omega (arith, low, c.loop-known-test.false))
