-- Bib texts in which each name of a document means the same work are alike for it, where the cited works stand in one order.
use Rattle.std.proofs.Common.{◌≡◌, ℕ, List, [], ◌∷◌, ◌++◌, map, Ok, refl, sym, ap, subst, ◌∙◌}
use Rattle.std.specs.Prelude.{Contains}
use Rattle.std.specs.List.{AllByRecursion, flat_map}
use Rattle.std.proofs.lemmas.List.Elements.{All-contains, All-from_recursion}
use Rattle.std.proofs.lemmas.Option.{same_Some}
use Rattle.laws.specs.Results.{◌>>=◌}
use Rattle.laws.specs.Text.{text}
use Rattle.laws.proofs.Results.{ok_is}
use Rattle.literature_entries.specs.EntriesData.{EntryData}
use Rattle.literature.specs.Keys.{with_key}
use Rattle.literature.specs.Trees.{Tree}
use Rattle.interop.specs.Library.{key_of}
use Rattle.rendering_entries.specs.Library.{answers_of}
use Rattle.rendering_style.specs.Styles.{Style}
use Rattle.rendering.specs.Alike.{style_named}
use Rattle.cite_markers.specs.Document.{Piece}
use Rattle.cite_markers.specs.Marker.{Cite}
use Rattle.cite.specs.Alike.{IsTaskRead, IsBibRead, AgreeFor, AreAlikeFor, keys_in_order}
use Rattle.cite_requests.specs.Markers.{CitedWork, cited_work, markers_of, names_cited, with_work}
use Rattle.cite_requests.specs.Requests.{works_in}
use Rattle.cite_requests.specs.Stages.{Refusal, name_stage, refused_as, unknown_name}
use Rattle.cite_requests.specs.Steps.{all_ok}
use Rattle.cite.specs.Verdict.{Task}
use Rattle.cite_requests.specs.Works.{Works, MeansOneWork}
use Rattle.cite_requests.proofs.EntriesIndices.{AreListedWorks, IsListed}
use Rattle.cite.proofs.RequestsAlike.{alike_itself}
use Rattle.cite.proofs.VerdictsAlike.{cited_listed}

-- names that mean the same works
module _ (v w : Works) where
  pub names_before : (xs ys : List (List ℕ)) → AllByRecursion (MeansOneWork v w) (xs ++ ys) → AllByRecursion (MeansOneWork v w) xs
  names_before [] ys h = tt
  names_before (x ∷ xs) ys h = (h.0, names_before xs ys h.1)

  names_after : (xs ys : List (List ℕ)) → AllByRecursion (MeansOneWork v w) (xs ++ ys) → AllByRecursion (MeansOneWork v w) ys
  names_after [] ys h = h
  names_after (x ∷ xs) ys h = names_after xs ys h.1

  cites_same : (cites : List Cite) → AllByRecursion (MeansOneWork v w) (map (λ c. text c.name) cites) → all_ok (cited_work v) cites ≡ all_ok (cited_work w) cites
  unfolding all_ok
  cites_same [] h = refl
  cites_same (c ∷ cites) h = λ i. with_work c (h.0 i) >>= λ y. cites_same cites h.1 i >>= λ ys. Ok (y ∷ ys)

  markers_same : (ms : List (List Cite)) → AllByRecursion (MeansOneWork v w) (flat_map (map (λ c. text c.name)) ms) → all_ok (all_ok (cited_work v)) ms ≡ all_ok (all_ok (cited_work w)) ms
  unfolding all_ok
  markers_same [] h = refl
  markers_same (m ∷ ms) h =
      let names : List (List ℕ) = map (λ c. text c.name) m in
      let others : List (List ℕ) = flat_map (map (λ (c : Cite). text c.name)) ms in
      λ i. cites_same m (names_before names others h) i >>= λ y. markers_same ms (names_after names others h) i >>= λ ys. Ok (y ∷ ys)

  -- the works of the cites are the same
  pub names_same : (pieces : List Piece) → AllByRecursion (MeansOneWork v w) (names_cited pieces) → name_stage v pieces ≡ name_stage w pieces
  names_same pieces h = ap (refused_as unknown_name) (markers_same (markers_of pieces) h)

-- works that are listed are so one by one
listed_each : (library ws : List EntryData) → AreListedWorks library ws → AllByRecursion (IsListed library) ws
listed_each library [] h = tt
listed_each library (w ∷ ws) h = (h.0, listed_each library ws h.1)

one_of : (library ws : List EntryData) → AreListedWorks library ws → (v w : EntryData) → Contains ws v → Contains ws w → key_of v ≡ key_of w → v ≡ w
one_of library ws listed v w has has_too same =
    let each = All-from_recursion (IsListed library) ws (listed_each library ws listed) in
    same_Some v w
    (sym (All-contains (IsListed library) ws v each has)
    ∙ ap (λ (k : List ℕ). with_key key_of k library) same
    ∙ All-contains (IsListed library) ws w each has_too)

agree_itself : (style : Style) (selectors : List Tree) (v : EntryData) → AgreeFor style selectors v v
agree_itself style selectors v = record { answers = alike_itself (style_named style) (answers_of v); sections = λ s has. refl }

module _ (bib other : List ℕ) (task : Task) (asked : IsTaskRead task) (first : IsBibRead bib asked.pieces) (second : IsBibRead other asked.pieces)
    (same : AllByRecursion (MeansOneWork first.works second.works) (names_cited asked.pieces)) where
  pub same_markers : first.markers ≡ second.markers
  same_markers = ok_is {F = Refusal} first.markers second.markers (sym first.names ∙ names_same first.works second.works asked.pieces same ∙ second.names)

  agree : (v w : EntryData) → Contains (works_in first.markers) v → Contains (works_in second.markers) w → key_of v ≡ key_of w → AgreeFor task.context.style asked.selectors v w
  agree v w has has_too keys =
      let there : Contains (works_in first.markers) w = subst (λ (ms : List (List CitedWork)). Contains (works_in ms) w) (sym same_markers) has_too in
      let is : v ≡ w = one_of first.works.library (works_in first.markers) (cited_listed bib asked.pieces first) v w has there keys in
      subst (λ (u : EntryData). AgreeFor task.context.style asked.selectors v u) is (agree_itself task.context.style asked.selectors v)

  pub same_alike : keys_in_order first ≡ keys_in_order second → AreAlikeFor bib other task
  same_alike order = record {
    asked = asked;
    first = first;
    second = second;
    keys = ap (λ (ms : List (List CitedWork)). map key_of (works_in ms)) same_markers;
    order = order;
    agree = agree;
  }
