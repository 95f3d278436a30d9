-- The keys of the entries that a text means are distinct, and so are those of entries without references.
use Rattle.std.proofs.Common.{◌≡◌, ◌&&◌, ◌||◌, not, ℕ, Bool, false, true, List, [], ◌∷◌, map, Result, Ok, Err, refl, sym, ap, ◌∙◌}
use Rattle.std.specs.List.{AllByRecursion, list_any}
use Rattle.std.specs.Str.{bytes_eq}
use Rattle.biblatex.specs.Raw.{At, Entry, Raw}
use Rattle.biblatex.specs.Items.{raw_of}
use Rattle.biblatex.specs.Fault.{Fault}
use Rattle.biblatex.specs.Abbreviations.{Glossary}
use Rattle.biblatex.specs.Entries.{Source}
use Rattle.biblatex.specs.Listed.{Listed}
use Rattle.biblatex.specs.Reading.{Loaded, Refusal, loaded}
use Rattle.biblatex.specs.Resolved.{IsTextMeaningOf, Means, TextMeans}
use Rattle.biblatex_writing.specs.Flat.{flat}
use Rattle.biblatex_writing.specs.Settled.{have_distinct_keys}
use Rattle.biblatex_laws.proofs.LoadedKeys.{AreApart, heads_apart, loaded_apart}

none_named : (key : List ℕ) (es : List Source) → AllByRecursion (λ e. bytes_eq key e.key ≡ false) es → list_any (bytes_eq key) (map (λ (e : Source). e.key) (flat es)) ≡ false
none_named key [] h = refl
none_named key (e ∷ es) h = ap (λ (b : Bool). b || list_any (bytes_eq key) (map (λ (d : Source). d.key) (flat es))) h.0 ∙ none_named key es h.1

apart_distinct : (es : List Source) → AreApart es → have_distinct_keys (flat es) ≡ true
apart_distinct [] h = refl
apart_distinct (e ∷ es) h = ap (λ (b : Bool). not b && have_distinct_keys (flat es)) (none_named e.key es h.0) ∙ apart_distinct es h.1

loaded_distinct : (g : Glossary) (es : List (At Entry)) (resolved : Listed) (l : Result Loaded Refusal) → loaded g es ≡ l → Means l (Ok resolved) → AreApart resolved.entries
loaded_distinct g es resolved (Ok read) is h = heads_apart read.listed.entries resolved.entries (sym h.1.heads) (loaded_apart g es read is)
loaded_distinct g es resolved (Err r) is h = absurd cc

raw_distinct : (r : Result Raw (Fault × ℕ)) (resolved : Listed) → IsTextMeaningOf r (Ok resolved) → AreApart resolved.entries
raw_distinct (Ok raw) resolved h = loaded_distinct h.glossary raw.entries resolved (loaded h.glossary raw.entries) refl h.means
raw_distinct (Err f) resolved h = absurd cc

-- the entries that characters mean, without references
pub flat_distinct : (cs : List ℕ) (resolved : Listed) → TextMeans cs (Ok resolved) → have_distinct_keys (flat resolved.entries) ≡ true
flat_distinct cs resolved means = apart_distinct resolved.entries (raw_distinct (raw_of cs) resolved means)
