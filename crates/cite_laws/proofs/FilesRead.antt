-- A bib text that is read has a file before its references are resolved.
use Rattle.std.proofs.Common.{◌≡◌, ℕ, Bool, true, false, List, Result, Ok, Err, refl, sym, subst}
use Rattle.std.specs.Str.{chars, is_utf8}
use Rattle.laws.specs.Results.{◌>>=◌}
use Rattle.laws.proofs.Results.{ok_is}
use Rattle.biblatex.specs.Raw.{Raw}
use Rattle.biblatex.specs.Items.{raw_of}
use Rattle.biblatex.specs.Fault as raw_faults
use Rattle.biblatex.specs.Listed.{Listed}
use Rattle.biblatex.specs.Reading as reading
use Rattle.biblatex.specs.Reading.{Loaded, loaded}
use Rattle.biblatex.specs.Resolved.{IsMeaningOf, IsTextMeaningOf, Means, TextMeans}
use Rattle.biblatex_laws.specs.Files.{IsFileOf}
use Rattle.literature_entries.specs.EntriesData.{EntryData}
use Rattle.interop.specs.Bridge.{Fault}
use Rattle.interop.specs.Library.{library_of}
use Rattle.cite_requests.specs.Stages.{Refusal, AreWorksOf, IsRead, IsReadIf, bib_refused, library_stage, refused_as, works_from}
use Rattle.cite_requests.specs.Works.{Works}

-- a file before its references are resolved
abbrev pub HasFile : List ℕ → Listed → Type 0
HasFile cs resolved = (file : Listed) × IsFileOf cs file resolved

loaded_file : (cs : List ℕ) (raw : Raw) (resolved : Listed) → raw_of cs ≡ Ok raw → IsMeaningOf raw (Ok resolved) → HasFile cs resolved
loaded_file cs raw resolved read m = by (loaded m.glossary raw.entries) refl m.means
  where
    by : (x : Result Loaded reading.Refusal) → loaded m.glossary raw.entries ≡ x → Means x (Ok resolved) → HasFile cs resolved
    by (Ok l) is (names, resolves) = (
      l.listed,
      record { raw = raw; glossary = m.glossary; keys = l.keys; read = read; definitions = m.definitions; flags = m.flags; entries = is; resolves = resolves },
    )
    by (Err r) is e = absurd cc

text_file : (cs : List ℕ) (resolved : Listed) → TextMeans cs (Ok resolved) → HasFile cs resolved
text_file cs resolved means = by (raw_of cs) refl means
  where
    by : (x : Result Raw (raw_faults.Fault × ℕ)) → raw_of cs ≡ x → IsTextMeaningOf x (Ok resolved) → HasFile cs resolved
    by (Ok raw) read m = loaded_file cs raw resolved read m
    by (Err f) read e = absurd cc

meaning_file : (cs : List ℕ) (resolved : Listed) (m : Result Listed reading.Refusal) → TextMeans cs m → Ok resolved ≡ refused_as bib_refused m → HasFile cs resolved
meaning_file cs resolved (Ok r) means e = text_file cs resolved (subst (λ (x : Listed). TextMeans cs (Ok x)) (sym (ok_is {F = Refusal} resolved r e)) means)
meaning_file cs resolved (Err f) means e = absurd cc

pub read_file : (bib : List ℕ) (resolved : Listed) → IsRead bib (Ok resolved) → HasFile (chars bib) resolved
read_file bib resolved is = by (is_utf8 bib) is
  where
    by : (b : Bool) → IsReadIf b bib (Ok resolved) → HasFile (chars bib) resolved
    by false e = absurd cc
    by true (meaning, means, e) = meaning_file (chars bib) resolved meaning means e

library_file : (bib : List ℕ) (works : Works) (resolved : Listed) (found : Result (List EntryData) (List Fault)) → Ok works ≡ works_from resolved found → HasFile (chars bib) resolved → HasFile (chars bib) works.file
library_file bib works resolved (Ok ws) e has =
    subst (λ (v : Works). HasFile (chars bib) v.file) (sym (ok_is {F = Refusal} works (record { file = resolved; library = ws }) e)) has
library_file bib works resolved (Err fs) e has = absurd cc

stage_file : (bib : List ℕ) (works : Works) (read : Result Listed Refusal) → IsRead bib read → Ok works ≡ (read >>= library_stage) → HasFile (chars bib) works.file
stage_file bib works (Ok resolved) is comes = library_file bib works resolved (library_of resolved.entries) comes (read_file bib resolved is)
stage_file bib works (Err r) is comes = absurd cc

pub works_file : (bib : List ℕ) (works : Works) → AreWorksOf bib (Ok works) → HasFile (chars bib) works.file
works_file bib works (read, is, comes) = stage_file bib works read is comes
