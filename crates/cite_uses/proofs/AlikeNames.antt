-- Whether works are alike, and the names that a document cites.
use Rattle.std.proofs.Common.{◌≡◌, ◌↔◌, ℕ, Bool, false, true≢false, IsTrue, List, [], ◌∷◌, ◌++◌, map, sym, ap, refl, append-nil}
use Rattle.std.specs.Prelude.{Contains}
use Rattle.std.specs.List.{AllByRecursion}
use Rattle.std.proofs.lemmas.Bool.{iff_false}
use Rattle.literature_entries.specs.EntriesData.{EntryData}
use Rattle.literature.specs.Holding.{holds_at}
use Rattle.literature.specs.Trees.{Tree}
use Rattle.literature.specs.Views.{selector_view}
use Rattle.literature.specs.declared.selector.Selector.{Selector}
use Rattle.interop.specs.Library.{key_of}
use Rattle.rendering_entries.specs.Library.{answers_of}
use Rattle.rendering_nodes.specs.Named.{AreAlike, Named}
use Rattle.rendering_alike.specs.Naming.{NameTheSame}
use Rattle.rendering_alike.proofs.AnswersAll.{alike_same, each_member, each_seen}
use Rattle.cite_markers.specs.Document.{Piece, Text, Marker}
use Rattle.cite_requests.specs.Markers.{names_cited}
use Rattle.cite_requests.specs.Works.{Works}
use Rattle.cite_uses.specs.Alike.{AreAlikeWorks, MeanAlikeWorks, names_of}

-- the names in a piece stand before those of the others
pub one_piece : (p : Piece) (ps : List Piece) → names_cited (p ∷ ps) ≡ names_cited (p ∷ []) ++ names_cited ps
one_piece (Text t) ps = refl
one_piece (Marker cs) ps = ap (λ (ns : List (List ℕ)). ns ++ names_cited ps) (sym (append-nil (names_of cs)))

-- two works, by their keys, by the sections and by what they answer
module _ (n : Named) (sections : List Selector) (work other : EntryData) where
  abbrev selectors : List Tree
  selectors = map selector_view sections

  abbrev ChosenAlike : Type 0
  ChosenAlike = AllByRecursion (λ (s : Selector). holds_at (selector_view s) work ≡ holds_at (selector_view s) other) sections

  chosen : ((s : Tree) → Contains selectors s → holds_at s work ≡ holds_at s other) ↔ ChosenAlike
  chosen =
      let seen = each_seen (λ (s : Tree). holds_at s work ≡ holds_at s other) selector_view sections in
      let members = each_member (λ (s : Tree). holds_at s work ≡ holds_at s other) selectors in
      (λ h. seen.1 (members.0 h), λ h. members.1 (seen.0 h))

  pub other_key : (b : Bool) → (IsTrue b ↔ (key_of work ≡ key_of other)) → b ≡ false → IsTrue false ↔ AreAlikeWorks n selectors work other
  other_key b same fails = (λ so. absurd (true≢false (sym so)), λ h. absurd (iff_false same fails h.key))

  pub otherwise_chosen : (b : Bool) → (IsTrue b ↔ ChosenAlike) → b ≡ false → IsTrue false ↔ AreAlikeWorks n selectors work other
  otherwise_chosen b same fails = (λ so. absurd (true≢false (sym so)), λ h. absurd (iff_false same fails (chosen.0 h.sections)))

  pub by_answers : (b : Bool) → key_of work ≡ key_of other → ChosenAlike → (IsTrue b ↔ AreAlike n (answers_of work) (answers_of other)) → IsTrue b ↔ AreAlikeWorks n selectors work other
  by_answers b key sections answers = (λ yes. record { key = key; answers = answers.0 yes; sections = chosen.1 sections }, λ h. answers.1 h.answers)

-- as much is named
module _ (n m : Named) (same : NameTheSame n m) (selectors : List Tree) (v w : Works) where
  pub renamed : (names : List (List ℕ)) → MeanAlikeWorks n selectors v w names ↔ MeanAlikeWorks m selectors v w names
  renamed [] = (λ h. h, λ h. h)
  renamed (name ∷ names) =
      let more = renamed names in (
        λ h. let alike = h.0.2.2 in ((h.0.0, h.0.1, (h.0.2.0, h.0.2.1, record { key = alike.key; answers = (alike_same n (answers_of h.0.0) (answers_of h.0.2.0) m same).0 alike.answers; sections = alike.sections })), more.0 h.1),
        λ h. let alike = h.0.2.2 in ((h.0.0, h.0.1, (h.0.2.0, h.0.2.1, record { key = alike.key; answers = (alike_same n (answers_of h.0.0) (answers_of h.0.2.0) m same).1 alike.answers; sections = alike.sections })), more.1 h.1),
      )
