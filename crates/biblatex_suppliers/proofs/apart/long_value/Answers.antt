use Rattle.biblatex_suppliers.proofs.apart.long_value.Goals as goal

pub returns-in-Some : goal.returns-in-Some
returns-in-Some c = rw c.in-Some.is at c.in_ok-same.ensures
