-- Entries that are put between two parts of a bib text, and that the document does not reach, change nothing.
use Rattle.std.proofs.Common.{◌≡◌, ◌↔◌, ℕ, List, ◌++◌, map, Result, Ok, refl, ap, subst, ◌∙◌}
use Rattle.std.specs.Str.{chars}
use Rattle.std.proofs.lemmas.Str.{IsUtf8-from_is_utf8, chars-append}
use Rattle.biblatex_laws.specs.Differing.{bare_entry}
use Rattle.biblatex_laws.specs.Reached.{SayTheSameOf}
use Rattle.biblatex_laws.proofs.Between.{ahead, behind, longer_is, put_says, shorter_is}
use Rattle.cite_requests.specs.Stages.{Refusal}
use Rattle.cite.specs.Verdict.{Task, IsVerdict, verdict}
use Rattle.cite.proofs.VerdictsUnique.{one_verdict}
use Rattle.cite.specs.Alike.{AreAlikeFor, keys_in_order}
use Rattle.cite.proofs.VerdictsAlike.{alike_verdicts}
use Rattle.cite_requests.specs.Markers.{names_cited}
use Rattle.cite_laws.specs.Local.{AreRead}
use Rattle.cite_laws.specs.Uncited.{UncitedEntriesChangeNothing}
use Rattle.cite_laws.proofs.FilesRead.{works_file}
use Rattle.cite_laws.proofs.OrderKept.{order_kept}
use Rattle.cite_laws.proofs.ReachedDecide.{reached_decide}

-- texts that are alike have the same verdicts
pub same_verdicts : (bib other : List ℕ) (task : Task) → AreAlikeFor bib other task → (answer : Result (List ℕ) Refusal) → IsVerdict bib task answer ↔ IsVerdict other task answer
same_verdicts bib other task alike answer = (alike_verdicts bib other task alike answer, back)
  where
    own : IsVerdict bib task (verdict (Ok alike.first.works) task)
    own = (Ok alike.first.works, alike.first.read, refl)

    back : IsVerdict other task answer → IsVerdict bib task answer
    back is =
        subst (IsVerdict bib task)
        (one_verdict other task (verdict (Ok alike.first.works) task) answer (alike_verdicts bib other task alike (verdict (Ok alike.first.works) task) own) is) own

pub uncited : UncitedEntriesChangeNothing
uncited front more back task asked put without with_them none =
    let cs : List ℕ = front ++ back in
    let ds : List ℕ = front ++ (more ++ back) in
    let one = works_file cs without.works without.read in
    let two = works_file ds with_them.works with_them.read in
    let utf8 = IsUtf8-from_is_utf8 front put.front_utf8 in
    let cs_is : chars cs ≡ chars front ++ chars back = chars-append front back utf8 in
    let ds_is : chars ds ≡ chars front ++ (chars more ++ chars back) =
    chars-append front (more ++ back) utf8 ∙ ap (λ (xs : List ℕ). chars front ++ xs) (chars-append more back (IsUtf8-from_is_utf8 more put.more_utf8)) in
    let r : AreRead cs ds task = record { asked = asked; first = without; second = with_them; file = one.0; other_file = two.0; loaded = one.1; other_loaded = two.1 } in
    let says : SayTheSameOf (names_cited asked.pieces) one.0 two.0 =
    put_says (chars front) (chars more) (chars back) (chars cs) (chars ds) one.0 two.0 without.works.file with_them.works.file put.between cs_is ds_is one.1 two.1 (names_cited asked.pieces)
    (none two.0 with_them.works.file two.1) in
    let order : keys_in_order without ≡ keys_in_order with_them =
    order_kept cs ds task r says
    (ahead (chars front) (chars more) (chars back) (chars cs) (chars ds) one.0 two.0 without.works.file with_them.works.file put.between cs_is ds_is one.1 two.1)
    (map bare_entry put.between.more_raw.entries)
    (behind (chars front) (chars more) (chars back) (chars cs) (chars ds) one.0 two.0 without.works.file with_them.works.file put.between cs_is ds_is one.1 two.1)
    (shorter_is (chars front) (chars more) (chars back) (chars cs) (chars ds) one.0 two.0 without.works.file with_them.works.file put.between cs_is ds_is one.1 two.1)
    (longer_is (chars front) (chars more) (chars back) (chars cs) (chars ds) one.0 two.0 without.works.file with_them.works.file put.between cs_is ds_is one.1 two.1) in
    same_verdicts cs ds task (reached_decide cs ds task r says order)
