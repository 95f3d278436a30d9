use Rattle.std.proofs.Common.{Bool, false, Option, refl, sym, ap}
use Rattle.std.specs.Option.{unwrap_or}
use Rattle.std.proofs.lemmas.Option.{slice_get_read, slice_get_past}
use Rattle.cite_requests.proofs.bridging.is_marked.Goals as goal

pub returns-in-Some : goal.returns-in-Some
returns-in-Some c =
    let found = c.in-Some.ensures.lookup in
    sym (ap (λ (o : Option Bool). unwrap_or o false) (slice_get_read c.args.marks.now _ c.args.index c.in-Some.mark.now refl found.3.0 found.1))

pub returns-in-None : goal.returns-in-None
returns-in-None c = sym (ap (λ (o : Option Bool). unwrap_or o false) (slice_get_past c.args.marks.now c.args.index c.in-None.ensures.lookup.3))
