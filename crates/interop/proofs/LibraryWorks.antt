-- Works in a library.
use Rattle.std.proofs.Common.{◌≡◌, Bool, true, false, not, List, [], ◌∷◌, ◌++◌, map, refl, sym, ap, ◌∙◌, append_assoc, if◌then◌else◌}
use Rattle.std.specs.List.{flat_map}
use Rattle.std.specs.Str.{bytes_eq}
use Rattle.biblatex_entries.specs.Entries.{Source}
use Rattle.biblatex_entries.specs.TypeNames.{written_type}
use Rattle.literature.specs.Keys.{put}
use Rattle.literature_entries.specs.Views.{key_view}
use Rattle.literature_entries.specs.EntriesData.{EntryData, entry_view}
use Rattle.literature_entries.specs.declared.entry.Entry.{Entry}
use Rattle.interop_values.specs.Values.{values}
use Rattle.interop.specs.Bridge.{Fault, faults_of, work_of, unless_faulty}
use Rattle.interop.specs.Library.{key_of, is_xdata, works_in, all_faults, all_works, put_after, library_of, PutsBy, IsPut, AreAlike}
use Rattle.interop.proofs.ViewsEntries.{whole_is}

-- the key of an entry is that of its work
whole_key : (e : Entry) → key_view e ≡ key_of (entry_view e)
whole_key e = sym (ap key_of (whole_is e))

put_by : (b : Bool) (x e : Entry) (es rest : List Entry) → map entry_view (if b then e ∷ es else x ∷ rest) ≡ if b then entry_view e ∷ map entry_view es else entry_view x ∷ map entry_view rest
put_by true x e es rest = refl
put_by false x e es rest = refl

-- putting an entry among others puts its work among theirs
pub put_whole : (es : List Entry) (e : Entry) → map entry_view (put key_view es e) ≡ put key_of (map entry_view es) (entry_view e)
put_whole [] e = refl
put_whole (x ∷ es) e =
    put_by (bytes_eq (key_view e) (key_view x)) x e es (put key_view es e)
    ∙ (λ i. if bytes_eq (whole_key e i) (whole_key x i) then entry_view e ∷ map entry_view es else entry_view x ∷ put_whole es e i)

-- faults are refused whatever the works are
refused_alike : {W : Type 0} (fs gs : List Fault) (f : Fault) (v w : W) → unless_faulty (fs ++ f ∷ gs) v ≡ unless_faulty (fs ++ f ∷ gs) w
refused_alike [] gs f v w = refl
refused_alike (g ∷ fs) gs f v w = refl

step_by : (found : List Fault) (w : EntryData) (ws ws' : List EntryData) (fs fs' : List Fault) (faults : List Fault) (works : List EntryData) → PutsBy (unless_faulty found w) ws fs ws' fs' → unless_faulty (fs' ++ faults) (put_after ws' works) ≡ unless_faulty (fs ++ (found ++ faults)) (put_after ws (w ∷ works))
step_by [] w ws ws' fs fs' faults works h = λ i. unless_faulty (h.1 i ++ faults) (put_after (h.0 i) works)
step_by (f ∷ found) w ws ws' fs fs' faults works h =
    (λ i. unless_faulty (h.1 i ++ faults) (put_after (h.0 i) works))
    ∙ (ap (λ (gs : List Fault). unless_faulty gs (put_after ws works)) (append_assoc fs (f ∷ found) faults)
    ∙ refused_alike fs (found ++ faults) f (put_after ws works) (put_after ws (w ∷ works)))

among : (e : Source) (es : List Source) → is_xdata (written_type e.entry_type) ≡ false → works_in (e ∷ es) ≡ e ∷ works_in es
among e es is = ap (λ (b : Bool). if not b then e ∷ works_in es else works_in es) is

abbrev faults_in : List Source → List Fault
faults_in es = flat_map (λ (e : Source). faults_of e.key (values e.fields)) es

abbrev works_of : List Source → List EntryData
works_of es = map (λ (e : Source). work_of e.key (written_type e.entry_type) (values e.fields)) es

-- a work with others after it
pub work_step : (e : Source) (es : List Source) (ws ws' : List EntryData) (fs fs' : List Fault) → is_xdata (written_type e.entry_type) ≡ false → IsPut ws fs e ws' fs' → unless_faulty (fs' ++ all_faults es) (put_after ws' (all_works es)) ≡ unless_faulty (fs ++ all_faults (e ∷ es)) (put_after ws (all_works (e ∷ es)))
work_step e es ws ws' fs fs' is h =
    step_by (faults_of e.key (values e.fields)) (work_of e.key (written_type e.entry_type) (values e.fields)) ws ws' fs fs' (all_faults es) (all_works es) h
    ∙ ap (λ (xs : List Source). unless_faulty (fs ++ faults_in xs) (put_after ws (works_of xs))) (sym (among e es is))

-- the faults of a work with those of others after it
pub faults_step : (e : Source) (es : List Source) (fs fs' : List Fault) → is_xdata (written_type e.entry_type) ≡ false → fs' ≡ fs ++ faults_of e.key (values e.fields) → fs' ++ all_faults es ≡ fs ++ all_faults (e ∷ es)
faults_step e es fs fs' is h =
    ap (λ (gs : List Fault). gs ++ all_faults es) h
    ∙ (append_assoc fs (faults_of e.key (values e.fields)) (all_faults es) ∙ ap (λ (xs : List Source). fs ++ faults_in xs) (sym (among e es is)))

faults_by : (b : Bool) (e : Source) (es : List Source) → faults_in (if b then e ∷ es else es) ≡ if b then faults_of e.key (values e.fields) ++ faults_in es else faults_in es
faults_by true e es = refl
faults_by false e es = refl

works_by : (b : Bool) (e : Source) (es : List Source) → works_of (if b then e ∷ es else es) ≡ if b then work_of e.key (written_type e.entry_type) (values e.fields) ∷ works_of es else works_of es
works_by true e es = refl
works_by false e es = refl

alike_faults : (es fs : List Source) → AreAlike es fs → all_faults es ≡ all_faults fs
alike_faults [] [] h = refl
alike_faults [] (f ∷ fs) h = absurd h
alike_faults (e ∷ es) [] h = absurd h
alike_faults (e ∷ es) (f ∷ fs) h =
    faults_by (not (is_xdata (written_type e.entry_type))) e (works_in es)
    ∙ ((λ i. if not (is_xdata (h.0.entry_type i)) then faults_of (h.0.key i) (λ name. h.0.values name i) ++ alike_faults es fs h.1 i else alike_faults es fs h.1 i)
    ∙ sym (faults_by (not (is_xdata (written_type f.entry_type))) f (works_in fs)))

alike_works : (es fs : List Source) → AreAlike es fs → all_works es ≡ all_works fs
alike_works [] [] h = refl
alike_works [] (f ∷ fs) h = absurd h
alike_works (e ∷ es) [] h = absurd h
alike_works (e ∷ es) (f ∷ fs) h =
    works_by (not (is_xdata (written_type e.entry_type))) e (works_in es)
    ∙ ((λ i. if not (is_xdata (h.0.entry_type i)) then work_of (h.0.key i) (h.0.entry_type i) (λ name. h.0.values name i) ∷ alike_works es fs h.1 i else alike_works es fs h.1 i)
    ∙ sym (works_by (not (is_xdata (written_type f.entry_type))) f (works_in fs)))

-- alike entries give one library
pub alike_library : (es fs : List Source) → AreAlike es fs → library_of es ≡ library_of fs
alike_library es fs h = λ i. unless_faulty (alike_faults es fs h i) (put_after [] (alike_works es fs h i))
