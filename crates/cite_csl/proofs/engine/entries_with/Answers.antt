use Rattle.std.proofs.Common.{◌≡◌, ◌++◌, ◌+◌, ◌∷◌, [], Bool, true, false, List, cond, drop, filter, sym, ap, ◌∙◌, append_assoc, append-nil}
use Rattle.biblatex.specs.Entries.{Source, source_view, sources_view}
use Rattle.interop.specs.Views.{lent_sources_view}
use Rattle.cite_requests.proofs.StepsAfter.{at_item}
use Rattle.cite_csl.specs.Views.{has_key}
use Rattle.cite_csl.proofs.engine.entries_with.Goals as goal

-- one entry, and then the others
one_then : (b : Bool) (before rest : List Source) (e : Source) → (before ++ cond b (e ∷ []) []) ++ rest ≡ before ++ cond b (e ∷ rest) rest
one_then true before rest e = append_assoc before (e ∷ []) rest
one_then false before rest e = ap (λ (es : List Source). es ++ rest) (append-nil before)

pub loop-entry-preserved : goal.loop-entry-preserved
loop-entry-preserved c =
    let test = λ (e : Source). has_key c.args.keys.now e.key in
    let i = c.loop-entry.entry-index in
    let xs = c.args.entries.now in
    let before = lent_sources_view c.loop-entry.found.items in
    let e = source_view c.entry-item.result in
    let rest = filter test (sources_view (drop (i + 1) xs)) in
    let cut = at_item (λ ys. before ++ filter test (sources_view ys)) xs i c.entry-item.result c.loop-entry-test.true c.entry-item.is in
    ap (λ (fs : List Source). fs ++ rest) c.in_ok-push_known.ensures ∙ one_then (test e) before rest e ∙ sym cut ∙ c.loop-entry.invariant
