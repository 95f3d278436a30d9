use Rattle.cite_csl.proofs.making.sheet_in.Goals as goal

pub sheet_of-requires-clause-meant : goal.sheet_of-requires-clause-meant
sheet_of-requires-clause-meant c = c.requires.meant
