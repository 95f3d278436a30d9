-- Each work of the library that a bib text comes to is listed under its key, and so are the works that are cited.
use Rattle.std.proofs.Common.{◌≡◌, ℕ, Bool, true, false, not, cond, ◌||◌, List, [], ◌∷◌, map, Some, Result, Ok, Err, refl, sym, ap, subst, ◌∙◌, arith, true≢false}
use Rattle.std.specs.Prelude.{Contains, ◌&&◌}
use Rattle.std.specs.List.{list_any}
use Rattle.std.specs.Str.{bytes_eq}
use Rattle.std.proofs.lemmas.List.Elements.{Contains-append_right}
use Rattle.laws.specs.Results.{◌>>=◌}
use Rattle.laws.proofs.Results.{ok_is}
use Rattle.biblatex.specs.Listed.{Listed}
use Rattle.literature_entries.specs.EntriesData.{EntryData}
use Rattle.literature.specs.Keys.{are_distinct, put, with_key}
use Rattle.interop.specs.Bridge.{Fault, unless_faulty}
use Rattle.interop.specs.Library.{all_faults, all_works, key_of, library_of, put_after}
use Rattle.cite_requests.specs.Cited.{is_among}
use Rattle.cite_requests.specs.Stages.{Refusal, AreWorksOf, library_stage, works_from}
use Rattle.cite_requests.specs.Works.{Works}
use Rattle.cite_requests.proofs.EntriesIndices.{AreListedWorks, all_listed}
use Rattle.cite_requests.proofs.KeyLists.{key_is, turned}

-- a test that a work does not pass, nor any of a list, is passed by none after the work is put there
none_put : (p : EntryData → Bool) (w : EntryData) → p w ≡ false → (ws : List EntryData) → list_any p ws ≡ false → list_any p (put key_of ws w) ≡ false
none_put p w not_it [] none = ap (λ (b : Bool). b || false) not_it
none_put p w not_it (v ∷ ws) none = by (none_put p w not_it ws) (p v) refl none (bytes_eq (key_of w) (key_of v))
  where
    by : (list_any p ws ≡ false → list_any p (put key_of ws w) ≡ false) → (b : Bool) → p v ≡ b → (b || list_any p ws) ≡ false
        → (c : Bool) → list_any p (cond c (w ∷ ws) (v ∷ put key_of ws w)) ≡ false
    by more true is h c = absurd (true≢false h)
    by more false is h true = (λ i. not_it i || list_any p ws) ∙ h
    by more false is h false = (λ i. is i || list_any p (put key_of ws w)) ∙ more h

both_true : (b c : Bool) → (not b && c) ≡ true → (b ≡ false) × (c ≡ true)
both_true true c is = absurd (true≢false (sym is))
both_true false c is = (refl, is)

both_hold : (b c : Bool) → b ≡ false → c ≡ true → (not b && c) ≡ true
both_hold true c none d = absurd (true≢false none)
both_hold false c none d = d

-- keys stay distinct
put_distinct : (w : EntryData) (ws : List EntryData) → are_distinct key_of ws ≡ true → are_distinct key_of (put key_of ws w) ≡ true
put_distinct w [] d = refl
put_distinct w (v ∷ ws) d = by (put_distinct w ws) (both_true (list_any (λ y. bytes_eq (key_of v) (key_of y)) ws) (are_distinct key_of ws) d) (bytes_eq (key_of w) (key_of v)) refl
  where
    by : (are_distinct key_of ws ≡ true → are_distinct key_of (put key_of ws w) ≡ true)
        → (list_any (λ y. bytes_eq (key_of v) (key_of y)) ws ≡ false) × (are_distinct key_of ws ≡ true)
        → (b : Bool) → bytes_eq (key_of w) (key_of v) ≡ b → are_distinct key_of (cond b (w ∷ ws) (v ∷ put key_of ws w)) ≡ true
    by more parts true same =
        both_hold (list_any (λ y. bytes_eq (key_of w) (key_of y)) ws) (are_distinct key_of ws)
        (ap (λ (k : List ℕ). list_any (λ y. bytes_eq k (key_of y)) ws) (key_is (key_of w) (key_of v) same) ∙ parts.0) parts.1
    by more parts false differ =
        both_hold (list_any (λ y. bytes_eq (key_of v) (key_of y)) (put key_of ws w)) (are_distinct key_of (put key_of ws w))
        (none_put (λ y. bytes_eq (key_of v) (key_of y)) w (turned (key_of w) (key_of v) differ) ws parts.0) (more parts.1)

pub put_after_distinct : (ws more : List EntryData) → are_distinct key_of ws ≡ true → are_distinct key_of (put_after ws more) ≡ true
put_after_distinct ws [] d = d
put_after_distinct ws (w ∷ more) d = put_after_distinct (put key_of ws w) more (put_distinct w ws d)

library_distinct : (faults : List Fault) (found ws : List EntryData) → are_distinct key_of found ≡ true → unless_faulty faults found ≡ Ok ws → are_distinct key_of ws ≡ true
library_distinct [] found ws d e = subst (λ (vs : List EntryData). are_distinct key_of vs ≡ true) (ok_is {F = List Fault} found ws e) d
library_distinct (f ∷ fs) found ws d e = absurd cc

stage_distinct : (file : Listed) (found : Result (List EntryData) (List Fault)) (works : Works) → ((ws : List EntryData) → found ≡ Ok ws → are_distinct key_of ws ≡ true)
    → Ok works ≡ works_from file found → are_distinct key_of works.library ≡ true
stage_distinct file (Ok ws) works d e =
    subst (λ (v : Works). are_distinct key_of v.library ≡ true) (ok_is {F = Refusal} (record { file = file; library = ws }) works (sym e)) (d ws refl)
stage_distinct file (Err fs) works d e = absurd cc

read_distinct : (read : Result Listed Refusal) (works : Works) → Ok works ≡ (read >>= library_stage) → are_distinct key_of works.library ≡ true
read_distinct (Ok file) works e =
    stage_distinct file (library_of file.entries) works (λ ws is. library_distinct (all_faults file.entries) (put_after [] (all_works file.entries)) ws (put_after_distinct [] (all_works file.entries) refl) is) e
read_distinct (Err r) works e = absurd cc

pub works_listed : (bib : List ℕ) (works : Works) → AreWorksOf bib (Ok works) → AreListedWorks works.library works.library
works_listed bib works (read, is, comes) = all_listed works.library (read_distinct read works comes)

-- the work of a key among those of listed works
pub found_cited : (library ws : List EntryData) (k : List ℕ) → AreListedWorks library ws → is_among (map key_of ws) k ≡ true
    → (w : EntryData) × Contains ws w × (with_key key_of k library ≡ Some w) × (key_of w ≡ k)
found_cited library [] k h e = absurd (true≢false (sym e))
found_cited library (w ∷ ws) k h e = by (found_cited library ws k h.1) (bytes_eq k (key_of w)) refl e
  where
    by : (is_among (map key_of ws) k ≡ true → (v : EntryData) × Contains ws v × (with_key key_of k library ≡ Some v) × (key_of v ≡ k))
        → (b : Bool) → bytes_eq k (key_of w) ≡ b → (b || list_any (bytes_eq k) (map key_of ws)) ≡ true
        → (v : EntryData) × Contains (w ∷ ws) v × (with_key key_of k library ≡ Some v) × (key_of v ≡ k)
    by more true is g =
        let same : k ≡ key_of w = key_is k (key_of w) is in
        (w, (0, omega arith, refl), subst (λ (n : List ℕ). with_key key_of n library ≡ Some w) (sym same) h.0, sym same)
    by more false is g = let there = more g in (there.0, Contains-append_right (w ∷ []) ws there.0 there.1, there.2, there.3)
