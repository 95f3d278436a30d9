-- Jobs of the code.
use Rattle.std.specs.Prelude.{◌≡◌, ℕ, List, map, Result, Ok, Err}
use Rattle.laws.specs.Text.{spelled}
use Rattle.rendering_style.specs.StyleViews.{style_view}
use Rattle.cite_command.specs.Program.{Job, fault_text}
use Rattle.cite_command.specs.declared.program.Job.{Job as CodeJob}
use Rattle.cite_command.specs.declared.program.RunFault.{RunFault}
use Rattle.cite_command.specs.declared.program.RunFault.TheVariants as faults

-- what words ask for
abbrev pub job_view : CodeJob → Job
job_view j = record { style = style_view j.style; format = j.format; bib = j.bib.now; document = j.document.now; sections = map spelled j.sections.now }

-- it is what the words ask for, or the fault says why they ask for nothing; or memory ran out
abbrev pub IsJob : Result CodeJob RunFault → Result Job (List ℕ) → Type 0
IsJob (Ok j) job = job ≡ Ok (job_view j)
IsJob (Err faults.Memory) job = Unit {0}
IsJob (Err fault) job = job ≡ Err (fault_text fault)
