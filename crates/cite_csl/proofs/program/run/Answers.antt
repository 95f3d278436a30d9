use Rattle.std.proofs.Common.{◌≡◌, ℕ, List, ap, ◌∙◌, sym, subst, map, inr}
use Rattle.std.specs.Borrow.{Bor}
use Rattle.laws.specs.Text.{spelled}
use Rattle.programs.specs.Files.{read_at}
use Rattle.cite_csl_command.specs.Views.{asked_view}
use Rattle.cite_csl_styles.specs.Answers.{IsStop}
use Rattle.cite_csl.specs.Run.{IsFault, IsMade, ServesOutput, sections_in, sections_of}
use Rattle.cite_csl.specs.Views.{made_view}
use Rattle.cite_csl.proofs.AsCite.{as_cite}
use Rattle.cite_csl.proofs.RunSaid.{section_said, sections_ok, spelled_are, stop_said, write_said}
use Rattle.cite_csl.proofs.program.run.Goals as goal

pub returns-in-Err-clause-command : goal.returns-in-Err-clause-command
returns-in-Err-clause-command g c two =
    let same = ap (λ (s : List (Bor (List ℕ))). map spelled s) c.as_slice.ensures.value ∙ spelled_are c.args.asked.now.sections.items in
    section_said c.in-Err.stop (sections_of (asked_view c.args.asked.now)) _ _ _ _ (sym c.say_stop.ensures.status ∙ two)
    (subst (λ (sections : List (List ℕ)). IsStop c.in-Err.stop (λ answer. sections_in sections ≡ answer)) same c.in-Err.ensures.stop) c.say_stop.ensures.said

pub returns-in-Ok-clause-served : goal.returns-in-Ok-clause-served
returns-in-Ok-clause-served g c zero =
    let ok = sections_ok c.as_slice.result.now c.args.asked.now.sections.items c.as_slice.ensures.value c.in_default.ensures.ok in
    (made_view c.in-Ok.made, ok, c.in-Ok.ensures, c.write_last.ensures.served zero)

pub returns-in-Ok-clause-as_cite : goal.returns-in-Ok-clause-as_cite
returns-in-Ok-clause-as_cite g c zero =
    let m = made_view c.in-Ok.made in
    let ok = sections_ok c.as_slice.result.now c.args.asked.now.sections.items c.as_slice.ensures.value c.in_default.ensures.ok in
    let served = c.write_last.ensures.served zero in
    (m, ok, c.in-Ok.ensures, (served.0, as_cite (read_at c.args.files.now) (asked_view c.args.asked.now) m c.in-Ok.ensures))

pub returns-in-Ok-clause-message : goal.returns-in-Ok-clause-message
returns-in-Ok-clause-message g c one =
    let read = read_at c.args.files.now in
    let a = asked_view c.args.asked.now in
    let ok = sections_ok c.as_slice.result.now c.args.asked.now.sections.items c.as_slice.ensures.value c.in_default.ensures.ok in
    let cut = c.write_last.ensures.cut_short one in
    write_said (IsFault read a) (ServesOutput read a) _ _ _ _ _ _ cut.0 (made_view c.in-Ok.made, ok, c.in-Ok.ensures, tt) (c.write_last.ensures.message one)

pub returns-in-Ok-clause-untouched : goal.returns-in-Ok-clause-untouched
returns-in-Ok-clause-untouched g c one =
    let ok = sections_ok c.as_slice.result.now c.args.asked.now.sections.items c.as_slice.ensures.value c.in_default.ensures.ok in
    let cut = c.write_last.ensures.cut_short one in
    inr (cut.0, (made_view c.in-Ok.made, ok, c.in-Ok.ensures, cut.1))

pub returns-in-Err-make-clause-message : goal.returns-in-Err-make-clause-message
returns-in-Err-make-clause-message g c one =
    let read = read_at c.args.files.now in
    let a = asked_view c.args.asked.now in
    let ok = sections_ok c.as_slice.result.now c.args.asked.now.sections.items c.as_slice.ensures.value c.in_default.ensures.ok in
    stop_said c.in-Err-make.stop (IsMade read a) (IsFault read a) (ServesOutput read a) _ _ _ _ _ _ c.in-Err-make.ensures (λ lines is. (ok, is)) c.say_stop-in-Err-make.ensures.said
