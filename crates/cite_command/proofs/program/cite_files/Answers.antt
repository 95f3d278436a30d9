use Rattle.std.proofs.Common.{◌≡◌, ℕ, List, Ok, subst}
use Rattle.std.specs.Io.KnownBytes.{Appends}
use Rattle.std.proofs.lemmas.Result.{on_ok_weaker}
use Rattle.programs.specs.Files.{read_at}
use Rattle.sinks.specs.Sinks.{AppendsPrefix}
use Rattle.cite_requests.specs.Answers.{Writes}
use Rattle.cite_command.specs.Jobs.{job_view}
use Rattle.cite_command.specs.Program.{IsJobFault, ServesJob, IsRefused, error_message, task_in}
use Rattle.cite_requests.specs.Requests.{context_of}
use Rattle.cite.specs.Verdict.{Task, IsVerdict}
use Rattle.cite.specs.Views.{task_of}
use Rattle.cite_command.proofs.ProgramServed.{fault_of_job, if_err_all, left_untouched, of_job, on_err_all, on_write_weaker, reason_weaker, says_why}
use Rattle.cite_command.proofs.program.cite_files.Goals as goal

pub returns-clause-served : goal.returns-clause-served
returns-clause-served g c =
    let job = job_view c.args.job.now in
    let read = read_at c.args.files.now in
    let b = c.in_ok-bib.bib.now in
    let d = c.in_ok-document.document.now in
    let task : task_of d c.args.job.now.style c.in_ok-locale.locale c.args.job.now.sections.now c.args.job.now.format ≡ task_in job d =
    λ i. record { document = d; context = context_of job.style (c.in_ok-locale.ensures i); sections = job.sections; format = job.format } in
    let taken : List ℕ → Type 0 = λ output. Appends (g.O.Sink.contents c.args.out.now) (g.O.Sink.contents c.cite_at_exit.new.sink) output in
    on_ok_weaker c.cite_at_exit.result
    (λ h. of_job read job b d taken c.in_ok-bib.ensures.bytes c.in_ok-document.ensures.bytes (subst (λ (t : Task). Writes (IsVerdict b t) taken) task h.output)) c.cite_at_exit.ensures.written

pub returns-clause-untouched : goal.returns-clause-untouched
returns-clause-untouched g c =
    let job = job_view c.args.job.now in
    let read = read_at c.args.files.now in
    let b = c.in_ok-bib.bib.now in
    let d = c.in_ok-document.document.now in
    let task : task_of d c.args.job.now.style c.in_ok-locale.locale c.args.job.now.sections.now c.args.job.now.format ≡ task_in job d =
    λ i. record { document = d; context = context_of job.style (c.in_ok-locale.ensures i); sections = job.sections; format = job.format } in
    on_err_all c.cite_at_exit.result
    (λ e untouched cut_short cause. left_untouched e (ServesJob read (Ok job)) c.args.out.now c.cite_at_exit.new.sink (g.O.Sink.contents c.args.out.now) (g.O.Sink.contents c.cite_at_exit.new.sink) (g.O.Sink.failures c.args.out.now) (g.O.Sink.failures c.cite_at_exit.new.sink)
    untouched
    (on_write_weaker e
    (λ h. of_job read job b d (λ output. AppendsPrefix (g.O.Sink.contents c.args.out.now) (g.O.Sink.contents c.cite_at_exit.new.sink) output) c.in_ok-bib.ensures.bytes c.in_ok-document.ensures.bytes
    (subst (λ (t : Task). Writes (IsVerdict b t) (λ output. AppendsPrefix (g.O.Sink.contents c.args.out.now) (g.O.Sink.contents c.cite_at_exit.new.sink) output)) task h)) cut_short)
    cause)
    c.cite_at_exit.ensures.untouched c.cite_at_exit.ensures.cut_short c.cite_at_exit.ensures.cause

pub returns-clause-refused : goal.returns-clause-refused
returns-clause-refused g c =
    let job = job_view c.args.job.now in
    let read = read_at c.args.files.now in
    let b = c.in_ok-bib.bib.now in
    let d = c.in_ok-document.document.now in
    let task : task_of d c.args.job.now.style c.in_ok-locale.locale c.args.job.now.sections.now c.args.job.now.format ≡ task_in job d =
    λ i. record { document = d; context = context_of job.style (c.in_ok-locale.ensures i); sections = job.sections; format = job.format } in
    let own = task_of d c.args.job.now.style c.in_ok-locale.locale c.args.job.now.sections.now c.args.job.now.format in
    if_err_all c.cite_at_exit.result
    (λ e refused cut_short cause. reason_weaker (λ message. IsRefused b own message) (IsJobFault read (Ok job)) (Writes (IsVerdict b own)) (ServesJob read (Ok job)) (g.O.Sink.failures c.args.out.now) (g.O.Sink.failures c.cite_at_exit.new.sink) (error_message e)
    (λ k. fault_of_job read job b d (error_message e) c.in_ok-bib.ensures.bytes c.in_ok-document.ensures.bytes (subst (λ (t : Task). IsRefused b t (error_message e)) task k))
    (λ P k. of_job read job b d P c.in_ok-bib.ensures.bytes c.in_ok-document.ensures.bytes (subst (λ (t : Task). Writes (IsVerdict b t) P) task k))
    (says_why e (IsVerdict b own) (g.O.Sink.contents c.args.out.now) (g.O.Sink.contents c.cite_at_exit.new.sink) (g.O.Sink.failures c.args.out.now) (g.O.Sink.failures c.cite_at_exit.new.sink) refused.first cut_short cause))
    c.cite_at_exit.ensures.refused c.cite_at_exit.ensures.cut_short c.cite_at_exit.ensures.cause
