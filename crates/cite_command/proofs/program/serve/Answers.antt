use Rattle.std.proofs.Common.{ℕ, List, Result, Ok, sym, subst}
use Rattle.std.specs.Io.KnownBytes.{Appends}
use Rattle.programs.specs.Files.{read_at}
use Rattle.cite_command.specs.Jobs.{job_view}
use Rattle.cite_command.specs.Program.{Job, IsFault, IsJobFault, Serves, ServesJob, error_message, message_of}
use Rattle.cite_command.proofs.ProgramServed.{err_weaker, fault_weaker, if_err_weaker, if_ok_weaker, ok_weaker, reason_weaker, untouched_weaker}
use Rattle.cite_command.proofs.program.serve.Goals as goal

pub returns-clause-served : goal.returns-clause-served
returns-clause-served g c =
    if_ok_weaker c.cite_files.result
    (λ cited. ok_weaker cited
    (subst (λ (j : Result Job (List ℕ)). ServesJob (read_at c.args.files.now) j (λ output. Appends (g.O.Sink.contents c.args.out.now) (g.O.Sink.contents c.cite_files.new.out) output)) (sym c.in_ok-job.ensures))) c.cite_files.ensures.served

pub returns-clause-untouched : goal.returns-clause-untouched
returns-clause-untouched g c =
    let read = read_at c.args.files.now in
    if_ok_weaker c.cite_files.result
    (λ cited. err_weaker cited
    (untouched_weaker (ServesJob read (Ok (job_view c.in_ok-job.job))) (Serves read c.args.words.now) _ _ _ _ _ _
    (λ P h. subst (λ (j : Result Job (List ℕ)). ServesJob read j P) (sym c.in_ok-job.ensures) h))) c.cite_files.ensures.untouched

pub returns-clause-refused : goal.returns-clause-refused
returns-clause-refused g c =
    let read = read_at c.args.files.now in
    if_ok_weaker c.cite_files.result
    (λ cited. if_err_weaker cited
    (λ e h. reason_weaker (IsJobFault read (Ok (job_view c.in_ok-job.job))) (IsFault read c.args.words.now) (ServesJob read (Ok (job_view c.in_ok-job.job))) (Serves read c.args.words.now) _ _ (error_message e)
    (λ k. subst (λ (j : Result Job (List ℕ)). IsJobFault read j (error_message e)) (sym c.in_ok-job.ensures) k)
    (λ P k. subst (λ (j : Result Job (List ℕ)). ServesJob read j P) (sym c.in_ok-job.ensures) k) h)) c.cite_files.ensures.refused

pub returns-clause-fault : goal.returns-clause-fault
returns-clause-fault g c =
    let read = read_at c.args.files.now in
    if_err_weaker c.cite_files.result
    (λ f h. fault_weaker (IsJobFault read (Ok (job_view c.in_ok-job.job))) (IsFault read c.args.words.now) (message_of f)
    (λ k. subst (λ (j : Result Job (List ℕ)). IsJobFault read j (message_of f)) (sym c.in_ok-job.ensures) k) h) c.cite_files.ensures.fault
