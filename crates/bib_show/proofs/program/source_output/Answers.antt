use Rattle.std.proofs.Common.{◌≡◌, ℕ, List, subst, ◌∙◌, ◌⊎◌}
use Rattle.std.specs.Prelude.{IfErr}
use lib.Chars.{codes}
use Rattle.programs.specs.Programs.{no_memory}
use Rattle.bib_show.specs.Program.{IsFaultOf, message_of}
use Rattle.bib_show.proofs.ProgramFaults.{no_text, source_fault}
use Rattle.bib_show.proofs.program.source_output.Goals as goal

pub returns-in-Ok-clause-fault : goal.returns-in-Ok-clause-fault
returns-in-Ok-clause-fault c =
    subst (λ (s : List ℕ). IfErr c.text_output.result (λ f. IsFaultOf c.args.form c.args.path.now s (message_of f) ⊎ (message_of f ≡ no_memory (codes "bib_show")))) c.in-Ok.ensures.cases.0 c.text_output.ensures.fault

pub returns-in-Err-clause-fault : goal.returns-in-Err-clause-fault
returns-in-Err-clause-fault c =
    source_fault c.args.form c.args.path.now c.args.source.now (message_of c.refused.result)
    (no_text c.args.path.now c.args.source.now c.valid_up_to.result (message_of c.refused.result) c.in-Err.ensures.cases.0 (c.valid_up_to.ensures ∙ c.in-Err.ensures.valid_len) c.refused.ensures)
