use Rattle.biblatex_text.proofs.cursor.Reader.body.Goals as goal

pub returns-in_ok-entry-clause-slice : goal.returns-in_ok-entry-clause-slice
returns-in_ok-entry-clause-slice c = λ kind. c.in_ok-entry.ensures.slice kind
