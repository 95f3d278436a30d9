use Rattle.biblatex_suppliers.proofs.along.supplies_for.Goals as goal

pub returns : goal.returns
returns c = record {
  fields = c.in_ok-suppliers.ensures;
  date = c.in_ok-dated.ensures.date;
  fault = c.in_ok-dated.ensures.fault;
}
