use Rattle.std.proofs.Common.{refl, true, sym, ap, ◌∙◌, ◌++◌, List, ℕ}
use Rattle.std.proofs.Output.{has_written_of_eq, has_written_append}
use Rattle.laws.specs.Characters.{colon, upper_t}
use Rattle.laws.specs.Text.{text}
use Rattle.laws.proofs.Text.{text-append}
use Rattle.biblatex_dates.specs.Written.{following, offset_text}
use Rattle.biblatex_dates.proofs.written.write_clock.Goals as goal

pub returns : goal.returns
returns g c = λ plain ok.
    let t = c.args.time in
    let hour : List ℕ = following upper_t t.hour in
    let minute : List ℕ = following colon t.minute in
    let second : List ℕ = following colon t.second in
    let offset : List ℕ = offset_text t.offset in
    let a = c.in_ok-write_after.ensures plain (refl {a = true}) in
    let b = c.in_ok-write_after-2.ensures a.plain (refl {a = true}) in
    let d = c.in_ok-write_after-3.ensures b.plain (refl {a = true}) in
    has_written_of_eq _ _ _ _ _
    (sym (text-append hour (minute ++ (second ++ offset))
    ∙ ap (λ (x : List ℕ). text hour ++ x) (text-append minute (second ++ offset))
    ∙ ap (λ (x : List ℕ). text hour ++ (text minute ++ x)) (text-append second offset)))
    (has_written_append _ _ _ _ _ _ a (has_written_append _ _ _ _ _ _ b (has_written_append _ _ _ _ _ _ d (c.write_offset.ensures d.plain ok))))
