use Rattle.std.proofs.Common.{◌≡◌, ◌++◌, ◌∷◌, [], ℕ, suc, length, map, string_bytes, sym, ap, subst, ◌∙◌, arith, rules}
use Rattle.std.proofs.lemmas.List.{map_push, length-map}
use Rattle.biblatex_entries.specs.Entries.{source_view, sources_view}
use Rattle.biblatex.specs.Bibliographies.{IsWithin}
use Rattle.biblatex_meaning.specs.Listed.{bound}
use Rattle.biblatex.specs.Indices.{meaning_in, names_in}
use Rattle.biblatex_meaning.proofs.ListedNames.{length_last}
use Rattle.biblatex.proofs.IndicesWithin.{bound_within}
use Rattle.biblatex.proofs.indexed.put_last.Goals as goal

pub returns-clause-ok : goal.returns-clause-ok
returns-clause-ok c =
    let pushed : c.push.new.self.items ≡ c.args.entries.now.items ++ c.args.entry ∷ [] = search rules in
    let items : sources_view c.push.new.self.items ≡ sources_view c.args.entries.now.items ++ source_view c.args.entry ∷ [] = ap sources_view pushed ∙ map_push source_view c.args.entries.now.items c.args.entry in
    let index : c.len-index.result ≡ length (sources_view c.args.entries.now.items) = omega (arith, c.len-index.ensures, c.args.entries.now.ok.0, length-map c.args.entries.now.items source_view) in
    let names = c.in_ok-bind_all.ensures.ok ∙ ap (λ (n : ℕ). bound (map string_bytes c.args.more.items) n (meaning_in (names_in c.args.names.now.items))) index in
    λ i. record { entries = items i; index = names i }

pub returns-clause-within : goal.returns-clause-within
returns-clause-within c = λ within.
    let pushed : c.push.new.self.items ≡ c.args.entries.now.items ++ c.args.entry ∷ [] = search rules in
    let items : sources_view c.push.new.self.items ≡ sources_view c.args.entries.now.items ++ source_view c.args.entry ∷ [] = ap sources_view pushed ∙ map_push source_view c.args.entries.now.items c.args.entry in
    let count : length (sources_view c.push.new.self.items) ≡ suc (length (sources_view c.args.entries.now.items)) = ap length items ∙ length_last (sources_view c.args.entries.now.items) (source_view c.args.entry) in
    bound_within (map string_bytes c.args.more.items) c.len-index.result (length (sources_view c.args.entries.now.items)) (length (sources_view c.push.new.self.items)) _ _ c.in_ok-bind_all.ensures.ok
    (omega (arith, c.len-index.ensures, c.args.entries.now.ok.0, length-map c.args.entries.now.items source_view, count)) (omega (arith, count)) within

pub returns-in_err-reserve-clause-within : goal.returns-in_err-reserve-clause-within
returns-in_err-reserve-clause-within c = λ within.
    subst IsWithin (λ i. record { entries = sources_view (sym c.reserve.ensures.items i); names = names_in c.args.names.now.items }) within

pub returns-in_err-bind_all-clause-within : goal.returns-in_err-bind_all-clause-within
returns-in_err-bind_all-clause-within c = λ within.
    subst IsWithin (λ i. record { entries = sources_view (sym c.reserve.ensures.items i); names = names_in (sym c.in_err-bind_all.ensures.err i) }) within
