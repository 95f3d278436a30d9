use Rattle.std.proofs.Common.{◌≡◌, ℕ, List, [], ◌∷◌, ◌++◌, map, Ok, refl, ap, ◌∙◌, rules}
use Rattle.std.proofs.lemmas.List.{map_push}
use Rattle.texts.specs.Views.{left}
use Rattle.cite_markers.specs.Marker.{Cite, cite_at, next_cite_at, cites_at}
use Rattle.cite_markers.specs.Views.{cite_view, cites_view}
use Rattle.laws.proofs.Gathering.{Gathers, goes_on, ends, fails}
use Rattle.cite_markers.proofs.MarkerLeaving.{cites_shorten}
use Rattle.cite_markers.proofs.marker.read_cites.Goals as goal

-- the first cite, and those that follow it
first_cite : (cs rest : List ℕ) (c : Cite) → cite_at cs ≡ Ok (c, rest) → Gathers next_cite_at (c ∷ []) rest (cites_at cs)
unfolding cites_at
first_cite cs rest c is = record { reads = rw is refl }

pub loop-cites-init : goal.loop-cites-init
loop-cites-init c =
    let one : cites_view c.push.new.self ≡ cite_view c.in_ok-read_cite.field-0 ∷ [] = ap (map cite_view) (rw c.new-cites.ensures.items at c.in_ok-push.ensures.items) in
    rw one (first_cite (left c.args.reader.now) (left c.read_cite.new.reader) (cite_view c.in_ok-read_cite.field-0) c.in_ok-read_cite.ensures)

pub loop-cites-preserved : goal.loop-cites-preserved
loop-cites-preserved c =
    let e = rw c.in-Some.is at c.in_ok-cite.ensures in
    let pushed : cites_view c.push-in-Some.new.self ≡ cites_view c.loop-cites.cites ++ cite_view c.in-Some.cite ∷ [] = ap (map cite_view) c.in_ok-push-2.ensures.items ∙ map_push cite_view c.loop-cites.cites.items c.in-Some.cite in
    rw pushed (goes_on next_cite_at cites_shorten (cites_view c.loop-cites.cites) (left c.loop-cites.reader) (left c.read_next_cite.new.reader) (cites_at (left c.args.reader.now)) (cite_view c.in-Some.cite) c.loop-cites.invariant e)

pub loop-cites-smaller : goal.loop-cites-smaller
loop-cites-smaller c =
    let e = rw c.in-Some.is at c.in_ok-cite.ensures in
    cites_shorten (left c.loop-cites.reader) (left c.read_next_cite.new.reader) (cite_view c.in-Some.cite) e

pub returns : goal.returns
returns c =
    let e = rw c.in_default.is at c.in_ok-cite.ensures in
    ends next_cite_at (cites_view c.loop-cites.cites) (left c.loop-cites.reader) (left c.read_next_cite.new.reader) (cites_at (left c.args.reader.now)) c.loop-cites.invariant e

pub returns-in_err-cite : goal.returns-in_err-cite
returns-in_err-cite c =
    let f = fails next_cite_at (cites_view c.loop-cites.cites) (left c.loop-cites.reader) (cites_at (left c.args.reader.now)) _ c.loop-cites.invariant c.in_err-cite.ensures in
    search rules
