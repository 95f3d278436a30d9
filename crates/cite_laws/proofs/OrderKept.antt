-- Where a bib text has more entries than another that says the same of all that a document reaches, the keys of the cited works stand in one
-- order in both.
use Rattle.std.proofs.Common.{◌≡◌, ℕ, suc, arith, Bool, true, false, not, cond, List, [], ◌∷◌, ◌++◌, drop, filter, get_or, length, map, None, Ok, Some, refl, sym, ap, ◌∙◌, append_assoc, append-nil}
use Rattle.std.specs.List.{AllByRecursion, AllZip}
use Rattle.std.specs.Str.{bytes_eq, chars}
use Rattle.std.proofs.lemmas.List.{map-append}
use Rattle.laws.specs.Text.{lowered, text}
use Rattle.biblatex.specs.Listed.{Listed}
use Rattle.biblatex.specs.Entries.{Source}
use Rattle.biblatex.specs.Raw.{At, Entry}
use Rattle.biblatex.specs.Abbreviations.{Glossary}
use Rattle.biblatex.specs.Resolved.{head}
use Rattle.biblatex.specs.TypeNames.{type_of, written_type}
use Rattle.biblatex_laws.specs.Differing.{BareEntry, bare_entry}
use Rattle.biblatex_laws.specs.Files.{IsFileOf}
use Rattle.biblatex_laws.specs.Reached.{SayTheSameOf}
use Rattle.biblatex_laws.proofs.FieldsAlike.{IsReadOf, read_each}
use Rattle.biblatex_laws.proofs.LoadedKeys.{AreApart, heads_apart, heads_other}
use Rattle.literature_entries.specs.EntriesData.{EntryData}
use Rattle.literature.specs.Keys.{put, with_key}
use Rattle.driver.proofs.Members.{both_all, every_all, weaker_all}
use Rattle.interop.specs.Library.{all_works, is_xdata, key_of, put_after}
use Rattle.cite_requests.specs.Cited.{is_among}
use Rattle.cite_requests.specs.Markers.{CitedWork, names_cited}
use Rattle.cite_requests.specs.Requests.{works_in}
use Rattle.cite_requests.specs.Stages.{AreWorksOf}
use Rattle.cite.specs.Verdict.{Task}
use Rattle.cite_requests.specs.Works.{Works}
use Rattle.cite.specs.Alike.{keys_in_order}
use Rattle.cite_requests.proofs.KeyLists.{turned}
use Rattle.cite.proofs.VerdictsAlike.{cited_listed}
use Rattle.cite_requests.proofs.WorksListed.{found_cited}
use Rattle.cite_laws.specs.Local.{AreRead}
use Rattle.cite_laws.proofs.ReachedDecide.{file_apart, same_markers}
use Rattle.cite_laws.proofs.WorksMeant.{is_work, others_keep, work, work_key, works_are}

-- the key of an entry goes before those of others, if it is a work
abbrev with_key_first : Source → List (List ℕ) → List (List ℕ)
with_key_first e ks = cond (is_xdata (written_type e.entry_type)) ks (e.key ∷ ks)

first_key : (e : Source) (es : List Source) → map key_of (all_works (e ∷ es)) ≡ with_key_first e (map key_of (all_works es))
first_key e es = by (is_xdata (written_type e.entry_type))
  where
    by : (b : Bool) → map key_of (map work (cond (not b) (e ∷ filter is_work es) (filter is_work es))) ≡ cond b (map key_of (all_works es)) (e.key ∷ map key_of (all_works es))
    by true = refl
    by false = ap (λ (k : List ℕ). k ∷ map key_of (all_works es)) (work_key e)

-- entries of one key and one type each have works of the same keys
heads_keys : (es ds : List Source) → map head es ≡ map head ds → map key_of (all_works es) ≡ map key_of (all_works ds)
heads_keys [] [] heads = refl
heads_keys [] (d ∷ ds) heads = absurd (let e : 0 ≡ suc (length (map head ds)) = ap length heads in omega (arith, e))
heads_keys (e ∷ es) [] heads = absurd (let f : suc (length (map head es)) ≡ 0 = ap length heads in omega (arith, f))
heads_keys (e ∷ es) (d ∷ ds) heads =
    let one : head e ≡ head d = λ i. get_or (heads i) 0 (head e) in
    first_key e es ∙ (λ i. cond (is_xdata (written_type (one i).1)) (heads_keys es ds (ap (drop 1) heads) i) ((one i).0 ∷ heads_keys es ds (ap (drop 1) heads) i)) ∙ sym (first_key d ds)

-- the works of a key that none has are put last
put_new : (k : List ℕ) (w : EntryData) → key_of w ≡ k → (ws : List EntryData) → AllByRecursion (λ v. bytes_eq k (key_of v) ≡ false) ws → put key_of ws w ≡ ws ++ w ∷ []
put_new k w is [] h = refl
put_new k w is (v ∷ ws) h =
    ap (λ (b : Bool). cond b (w ∷ ws) (v ∷ put key_of ws w)) (ap (λ (l : List ℕ). bytes_eq l (key_of v)) is ∙ h.0)
    ∙ ap (λ (vs : List EntryData). v ∷ vs) (put_new k w is ws h.1)

-- each entry has another key than each of these works
abbrev AreNew : List EntryData → List Source → Type 0
AreNew ws es = AllByRecursion (λ e. AllByRecursion (λ v. bytes_eq e.key (key_of v) ≡ false) ws) es

new_last : (k : List ℕ) (w : EntryData) → bytes_eq k (key_of w) ≡ false → (ws : List EntryData) → AllByRecursion (λ v. bytes_eq k (key_of v) ≡ false) ws → AllByRecursion (λ v. bytes_eq k (key_of v) ≡ false) (ws ++ w ∷ [])
new_last k w differ [] h = (differ, tt)
new_last k w differ (v ∷ ws) h = (h.0, new_last k w differ ws h.1)

still_new : (e : Source) (ws : List EntryData) (es : List Source) → AllByRecursion (λ d. bytes_eq e.key d.key ≡ false) es → AreNew ws es → AreNew (ws ++ work e ∷ []) es
still_new e ws [] apart h = tt
still_new e ws (d ∷ es) apart h =
    (new_last d.key (work e) (ap (bytes_eq d.key) (work_key e) ∙ turned e.key d.key apart.0) ws h.0, still_new e ws es apart.1 h.1)

-- works of entries whose keys are apart stand one after the other
put_apart : (es : List Source) (ws : List EntryData) → AreApart es → AreNew ws es → put_after ws (all_works es) ≡ ws ++ all_works es
put_apart [] ws apart h = sym (append-nil ws)
put_apart (e ∷ es) ws apart h = by (λ vs new. put_apart es vs apart.1 new) (is_work e)
  where
    by : ((vs : List EntryData) → AreNew vs es → put_after vs (all_works es) ≡ vs ++ all_works es) → (b : Bool)
        → put_after ws (map work (cond b (e ∷ filter is_work es) (filter is_work es))) ≡ ws ++ map work (cond b (e ∷ filter is_work es) (filter is_work es))
    by more true =
        ap (λ (vs : List EntryData). put_after vs (all_works es)) (put_new e.key (work e) (work_key e) ws h.0)
        ∙ more (ws ++ work e ∷ []) (still_new e ws es apart.0 h.1)
        ∙ append_assoc ws (work e ∷ []) (all_works es)
    by more false = more ws h.1

library_keys : (bib : List ℕ) (works : Works) → AreWorksOf bib (Ok works) → AreApart works.file.entries → map key_of works.library ≡ map key_of (all_works works.file.entries)
library_keys bib works are apart = ap (map key_of) (works_are bib works are apart ∙ put_apart works.file.entries [] apart (every_all (λ e. AllByRecursion (λ v. bytes_eq e.key (key_of v) ≡ false) []) (λ e. tt) works.file.entries))

-- entries whose keys do not pass a test have no part in what passes
left_first : (p : List ℕ → Bool) (xs after : List Source) → AllByRecursion (λ x. p x.key ≡ false) xs → filter p (map key_of (all_works (xs ++ after))) ≡ filter p (map key_of (all_works after))
left_first p [] after none = refl
left_first p (x ∷ xs) after none = ap (filter p) (first_key x (xs ++ after)) ∙ by (map key_of (all_works (xs ++ after))) (is_xdata (written_type x.entry_type)) ∙ left_first p xs after none.1
  where
    by : (ks : List (List ℕ)) (b : Bool) → filter p (cond b ks (x.key ∷ ks)) ≡ filter p ks
    by ks true = refl
    by ks false = ap (λ (c : Bool). cond c (x.key ∷ filter p ks) (filter p ks)) none.0

left_out : (p : List ℕ → Bool) (xs : List Source) → AllByRecursion (λ x. p x.key ≡ false) xs → (before after : List Source)
    → filter p (map key_of (all_works (before ++ (xs ++ after)))) ≡ filter p (map key_of (all_works (before ++ after)))
left_out p xs none [] after = left_first p xs after none
left_out p xs none (e ∷ before) after =
    ap (filter p) (first_key e (before ++ (xs ++ after)))
    ∙ by (map key_of (all_works (before ++ (xs ++ after)))) (map key_of (all_works (before ++ after))) (left_out p xs none before after) (is_xdata (written_type e.entry_type))
    ∙ sym (ap (filter p) (first_key e (before ++ after)))
  where
    by : (ks ls : List (List ℕ)) → filter p ks ≡ filter p ls → (b : Bool) → filter p (cond b ks (e.key ∷ ks)) ≡ filter p (cond b ls (e.key ∷ ls))
    by ks ls same true = same
    by ks ls same false = ap (λ (zs : List (List ℕ)). cond (p e.key) (e.key ∷ zs) zs) same

-- an entry has another key than each of these
abbrev Differs : List Source → Source → Type 0
Differs ds x = AllByRecursion (λ d. bytes_eq x.key d.key ≡ false) ds

-- among entries whose keys are apart, those in the middle have other keys than the rest
first_apart : (xs after : List Source) → AreApart (xs ++ after) → AllByRecursion (Differs after) xs
first_apart [] after h = tt
first_apart (x ∷ xs) after h = ((both_all (λ d. bytes_eq x.key d.key ≡ false) xs after h.0).1, first_apart xs after h.1)

with_one : (e : Source) (ds xs : List Source) → Differs xs e → AllByRecursion (Differs ds) xs → AllByRecursion (Differs (e ∷ ds)) xs
with_one e ds [] h g = tt
with_one e ds (x ∷ xs) h g = ((turned e.key x.key h.0, g.0), with_one e ds xs h.1 g.1)

each_apart : (before xs after : List Source) → AreApart (before ++ (xs ++ after)) → AllByRecursion (Differs (before ++ after)) xs
each_apart [] xs after h = first_apart xs after h
each_apart (e ∷ before) xs after h =
    let others = both_all (λ d. bytes_eq e.key d.key ≡ false) before (xs ++ after) h.0 in
    with_one e (before ++ after) xs (both_all (λ d. bytes_eq e.key d.key ≡ false) xs after others.1).0 (each_apart before xs after h.1)

-- a raw entry as an entry without fields
abbrev bare_source : BareEntry → Source
bare_source b = record { key = text b.key; entry_type = type_of (lowered b.kind); fields = [] }

heads_read : (g : Glossary) (es : List (At Entry)) (ss : List Source) → AllZip (IsReadOf g) es ss → map head ss ≡ map head (map bare_source (map bare_entry es))
heads_read g [] [] h = refl
heads_read g [] (s ∷ ss) h = absurd h
heads_read g (e ∷ es) [] h = absurd h
heads_read g (e ∷ es) (s ∷ ss) h = λ i. head (h.0.source i) ∷ heads_read g es ss h.1 i

file_heads : (cs : List ℕ) (file resolved : Listed) (h : IsFileOf cs file resolved) → map head resolved.entries ≡ map head (map bare_source (map bare_entry h.raw.entries))
file_heads cs file resolved h =
    h.resolves.heads ∙ heads_read h.glossary h.raw.entries file.entries (read_each h.glossary (record { listed = file; keys = h.keys }) h.raw.entries h.entries)

none_some : {X : Type 0} (x : X) → None ≡ Some x → ⊥
none_some x e = absurd cc

module _ (bib other : List ℕ) (task : Task) (r : AreRead bib other task) (says : SayTheSameOf (names_cited r.asked.pieces) r.file r.other_file)
    (first extras last : List BareEntry) (shorter : map bare_entry r.loaded.raw.entries ≡ first ++ last) (longer : map bare_entry r.other_loaded.raw.entries ≡ first ++ (extras ++ last)) where
  abbrev one : Works
  one = r.first.works

  abbrev two : Works
  two = r.second.works

  abbrev before : List Source
  before = map bare_source first

  abbrev more : List Source
  more = map bare_source extras

  abbrev after : List Source
  after = map bare_source last

  abbrev keys : List (List ℕ)
  keys = map key_of (works_in r.first.markers)

  apart_one : AreApart one.file.entries
  apart_one = file_apart (chars bib) r.file one.file r.loaded

  apart_two : AreApart two.file.entries
  apart_two = file_apart (chars other) r.other_file two.file r.other_loaded

  heads_one : map head one.file.entries ≡ map head (before ++ after)
  heads_one =
      file_heads (chars bib) r.file one.file r.loaded
      ∙ ap (λ (bs : List BareEntry). map head (map bare_source bs)) shorter
      ∙ ap (map head) (map-append bare_source first last)

  heads_two : map head two.file.entries ≡ map head (before ++ (more ++ after))
  heads_two =
      file_heads (chars other) r.other_file two.file r.other_loaded
      ∙ ap (λ (bs : List BareEntry). map head (map bare_source bs)) longer
      ∙ ap (map head) (map-append bare_source first (extras ++ last) ∙ ap (λ (es : List Source). before ++ es) (map-append bare_source extras last))

  -- a key that no entry of the first file has is that of no cited work
  uncited : (x : Source) → Differs (before ++ after) x → is_among keys x.key ≡ false
  uncited x differs = by (is_among keys x.key) refl
    where
      not_there : Differs one.file.entries x
      not_there = heads_other x.key x.key (before ++ after) one.file.entries (sym heads_one) refl differs

      by : (b : Bool) → is_among keys x.key ≡ b → b ≡ false
      by true is =
          let found = found_cited one.library (works_in r.first.markers) x.key (cited_listed bib r.asked.pieces r.first) is in
          let nothing : with_key key_of x.key one.library ≡ None =
          ap (with_key key_of x.key) (works_are bib one r.first.read apart_one) ∙ others_keep x.key one.file.entries [] not_there in
          absurd (none_some found.0 (sym nothing ∙ found.2))
      by false is = refl

  all_uncited : AllByRecursion (λ x. is_among keys x.key ≡ false) more
  all_uncited =
      weaker_all (Differs (before ++ after)) (λ x. is_among keys x.key ≡ false) uncited more
      (each_apart before more after (heads_apart two.file.entries (before ++ (more ++ after)) heads_two apart_two))

  pub order_kept : keys_in_order r.first ≡ keys_in_order r.second
  order_kept =
      ap (filter (is_among keys)) (library_keys bib one r.first.read apart_one ∙ heads_keys one.file.entries (before ++ after) heads_one)
      ∙ sym (left_out (is_among keys) more all_uncited before after)
      ∙ sym (ap (filter (is_among keys)) (library_keys other two r.second.read apart_two ∙ heads_keys two.file.entries (before ++ (more ++ after)) heads_two))
      ∙ ap (λ (ms : List (List CitedWork)). filter (is_among (map key_of (works_in ms))) (map key_of two.library)) (same_markers bib other task r says)
