use Rattle.std.proofs.Common.{◌≡◌, ◌∷◌, List, ℕ, [], map, string_bytes, refl, ap}
use Rattle.biblatex_entries.specs.declared.entry.Entry.{Entry}
use Rattle.biblatex_entries.specs.Entries.{sources_view}
use Rattle.biblatex.proofs.keys.Keys.new.Goals as goal

keys_of_sources : (es : List Entry) → map (λ e. string_bytes e.key) es ≡ map (λ e. e.key) (sources_view es)
keys_of_sources [] = refl
keys_of_sources (e ∷ es) = ap (λ (ks : List (List ℕ)). string_bytes e.key ∷ ks) (keys_of_sources es)

pub returns : goal.returns
returns c = keys_of_sources c.args.entries.now
