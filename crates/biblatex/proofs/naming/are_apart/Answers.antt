use Rattle.std.proofs.Common.{◌≡◌, ℕ, suc, ◌+◌, ◌-◌, List, drop, take, get_or, length, string_bytes, add-one, sym, ap, ◌∙◌, arith}
use Rattle.std.proofs.lemmas.Slice.{between_to_end}
use Rattle.biblatex_entries.specs.declared.entry.Entry.{Entry}
use Rattle.biblatex_entries.specs.Entries.{sources_view}
use Rattle.biblatex.specs.Indices.{names_in, meaning_in}
use Rattle.biblatex.specs.Naming.{is_apart}
use Rattle.biblatex.proofs.NamingApart.{apart_step, goes_on, stops}
use Rattle.biblatex.proofs.naming.are_apart.Goals as goal

-- the entries after one
later : (es : List Entry) (n : ℕ) → sources_view (take (length es - (n + 1)) (drop (n + 1) es)) ≡ sources_view (drop (suc n) es)
later es n = ap sources_view (between_to_end es (n + 1) (length es) (omega arith) ∙ ap (λ (m : ℕ). drop m es) (add-one n))

pub loop-number-preserved : goal.loop-number-preserved
loop-number-preserved c =
    let es = c.args.entries.now in
    let n = c.loop-number.number in
    let meaning = meaning_in (names_in c.args.names.now) in
    let key = string_bytes (get_or es n c.index-entries-number.result).key in
    let meant = c.index_in-meant.ensures ∙ ap meaning c.as_str-key.ensures.value in
    let asked : c.is_apart.result ≡ is_apart (sources_view es) n key (sources_view (drop (suc n) es)) (meaning key) = c.is_apart.ensures ∙ (λ i. is_apart (sources_view es) n (c.as_str-key.ensures.value i) (later es n i) (meant i)) in
    rw (add-one n) (goes_on _ _ _ (sym asked ∙ c.if-not-is_apart.false) (apart_step meaning (sources_view es) es n c.index-entries-number.result c.loop-number-test.true) ∙ c.loop-number.invariant)

pub returns-then-not-is_apart : goal.returns-then-not-is_apart
returns-then-not-is_apart c =
    let es = c.args.entries.now in
    let n = c.loop-number.number in
    let meaning = meaning_in (names_in c.args.names.now) in
    let key = string_bytes (get_or es n c.index-entries-number.result).key in
    let meant = c.index_in-meant.ensures ∙ ap meaning c.as_str-key.ensures.value in
    let asked : c.is_apart.result ≡ is_apart (sources_view es) n key (sources_view (drop (suc n) es)) (meaning key) = c.is_apart.ensures ∙ (λ i. is_apart (sources_view es) n (c.as_str-key.ensures.value i) (later es n i) (meant i)) in
    stops _ _ _ (sym asked ∙ c.if-not-is_apart.true) (apart_step meaning (sources_view es) es n c.index-entries-number.result c.loop-number-test.true) ∙ c.loop-number.invariant
