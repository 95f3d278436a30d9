-- The keys of the entries that a bib text means are distinct.
use Rattle.std.proofs.Common.{◌≡◌, ◌&&◌, ◌||◌, not, ℕ, Bool, true, false, List, [], ◌∷◌, map, Result, Ok, Err, true≢false, refl, sym, subst}
use Rattle.std.specs.List.{AllByRecursion, list_any}
use Rattle.std.specs.Str.{bytes_eq, chars, is_utf8}
use Rattle.std.proofs.lemmas.Bool.{and_parts}
use Rattle.laws.proofs.Results.{ok_is}
use Rattle.biblatex.specs.Raw.{Raw}
use Rattle.biblatex.specs.Items.{raw_of}
use Rattle.biblatex.specs.Fault.{Fault}
use Rattle.biblatex.specs.Entries.{Source}
use Rattle.biblatex.specs.Listed.{Listed}
use Rattle.biblatex.specs.Reading as reading
use Rattle.biblatex.specs.Reading.{Loaded, loaded}
use Rattle.biblatex.specs.Resolved.{IsMeaningOf, IsTextMeaningOf, Means, TextMeans}
use Rattle.biblatex_laws.proofs.LoadedKeys.{AreApart, heads_apart, loaded_apart}
use Rattle.biblatex_writing.specs.Settled.{have_distinct_keys}
use Rattle.cite_requests.specs.Stages.{Refusal, IsRead, IsReadIf, bib_refused, refused_as}

other : (b c : Bool) → (b || c) ≡ false → (b ≡ false) × (c ≡ false)
other false c none = (refl, none)
other true c none = absurd (true≢false none)

none_equal : (key : List ℕ) (es : List Source) → list_any (bytes_eq key) (map (λ (e : Source). e.key) es) ≡ false → AllByRecursion (λ d. bytes_eq key d.key ≡ false) es
none_equal key [] none = tt
none_equal key (e ∷ es) none =
    let parts = other (bytes_eq key e.key) (list_any (bytes_eq key) (map (λ (d : Source). d.key) es)) none in
    (parts.0, none_equal key es parts.1)

equal_to_none : (key : List ℕ) (es : List Source) → AllByRecursion (λ d. bytes_eq key d.key ≡ false) es → list_any (bytes_eq key) (map (λ (e : Source). e.key) es) ≡ false
equal_to_none key [] all = refl
equal_to_none key (e ∷ es) all = λ i. all.0 i || equal_to_none key es all.1 i

negated : (b : Bool) → not b ≡ true → b ≡ false
negated true is = absurd (true≢false (sym is))
negated false is = refl

-- distinct keys, entry by entry
pub distinct_apart : (es : List Source) → have_distinct_keys es ≡ true → AreApart es
distinct_apart [] distinct = tt
distinct_apart (e ∷ es) distinct =
    let parts = and_parts (not (list_any (bytes_eq e.key) (map (λ (d : Source). d.key) es))) (have_distinct_keys es) distinct in
    (none_equal e.key es (negated (list_any (bytes_eq e.key) (map (λ (d : Source). d.key) es)) parts.0), distinct_apart es parts.1)

apart_distinct : (es : List Source) → AreApart es → have_distinct_keys es ≡ true
apart_distinct [] apart = refl
apart_distinct (e ∷ es) apart = λ i. not (equal_to_none e.key es apart.0 i) && apart_distinct es apart.1 i

-- entries that are loaded have distinct keys, and they keep them when their references are resolved
means_distinct : (raw : Raw) (file : Listed) (m : IsMeaningOf raw (Ok file)) (l : Result Loaded reading.Refusal) → loaded m.glossary raw.entries ≡ l → Means l (Ok file) → have_distinct_keys file.entries ≡ true
means_distinct raw file m (Ok read) is means = apart_distinct file.entries (heads_apart read.listed.entries file.entries (sym means.1.heads) (loaded_apart m.glossary raw.entries read is))
means_distinct raw file m (Err r) is means = absurd cc

text_distinct : (r : Result Raw (Fault × ℕ)) (file : Listed) → IsTextMeaningOf r (Ok file) → have_distinct_keys file.entries ≡ true
text_distinct (Ok raw) file m = means_distinct raw file m (loaded m.glossary raw.entries) refl m.means
text_distinct (Err f) file m = absurd cc

read_by : (bib : List ℕ) (file : Listed) (meaning : Result Listed reading.Refusal) → TextMeans (chars bib) meaning → Ok file ≡ refused_as bib_refused meaning → have_distinct_keys file.entries ≡ true
read_by bib file (Ok f) means is = subst (λ (g : Listed). have_distinct_keys g.entries ≡ true) (sym (ok_is {F = Refusal} file f is)) (text_distinct (raw_of (chars bib)) f means)
read_by bib file (Err r) means is = absurd cc

read_if : (b : Bool) (bib : List ℕ) (file : Listed) → IsReadIf b bib (Ok file) → have_distinct_keys file.entries ≡ true
read_if true bib file (meaning, means, is) = read_by bib file meaning means is
read_if false bib file is = absurd cc

-- the keys of a file that was read
pub read_distinct : (bib : List ℕ) (file : Listed) → IsRead bib (Ok file) → have_distinct_keys file.entries ≡ true
read_distinct bib file is = read_if (is_utf8 bib) bib file is
