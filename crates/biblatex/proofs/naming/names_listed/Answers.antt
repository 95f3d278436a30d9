use Rattle.std.proofs.Common.{◌≡◌, ◌+◌, ◌++◌, ◌∷◌, [], List, ℕ, length, take, get_or, sym, ap, ◌∙◌, arith, add-one, length-take-le, take-suc}
use Rattle.std.proofs.lemmas.List.{map_push, length-map}
use Rattle.biblatex_entries.specs.Entries.{source_view, sources_view, names_of}
use Rattle.biblatex_entries.specs.declared.entry.Entry.{Entry}
use Rattle.biblatex.specs.Indices.{Names}
use Rattle.biblatex.specs.Naming.{numbered, names_from}
use Rattle.biblatex.proofs.NamingSources.{names_last}
use Rattle.biblatex.proofs.naming.names_listed.Goals as goal

pub loop-index-preserved : goal.loop-index-preserved
loop-index-preserved c =
    let es = c.args.entries.now in
    let n = c.loop-index.index in
    let e = get_or es n c.index-entries-index.result in
    let before = names_from 0 (sources_view (take n es)) in
    let count : n ≡ 0 + length (sources_view (take n es)) = omega (arith, length-map (take n es) source_view, length-take-le n es (omega (arith, c.loop-index-test.true))) in
    let longer : take (n + 1) es ≡ take n es ++ e ∷ [] = rw (add-one n) (take-suc es n c.index-entries-index.result c.loop-index-test.true) in
    let named : names_of (source_view c.index-entries-index.result) ≡ names_of (source_view e) = ap (λ (x : Entry). names_of (source_view x)) c.index-entries-index.is in
    c.in_ok-append_names_of.ensures
    ∙ (ap (λ (ns : Names). ns ++ numbered (names_of (source_view c.index-entries-index.result)) n) c.loop-index.invariant
    ∙ (ap (λ (names : List (List ℕ)). before ++ numbered names n) named
    ∙ (ap (λ (k : ℕ). before ++ numbered (names_of (source_view e)) k) count
    ∙ (sym (names_last 0 (sources_view (take n es)) (source_view e))
    ∙ ap (names_from 0) (sym (ap sources_view longer ∙ map_push source_view (take n es) e))))))
