-- Names mean alike works where each means an entry in both files and the works at the pairs of their indices are alike.
use Rattle.std.specs.Borrow.{Bor}
use Rattle.std.proofs.Common.{◌≡◌, ◌↔◌, ◌+◌, ◌<◌, ◌≤◌, ℕ, Bool, true, false, true≢false, IsTrue, List, [], ◌∷◌, drop, get_or, length, map, slice_get, Option, Some, None, refl, sym, ap, subst, ◌∙◌, arith}
use Rattle.std.specs.Prelude.{IfSome, IsPermutation, IsSorted, option_and_then, ⊤}
use Rattle.std.specs.List.{AllByRecursion, cons_option}
use Rattle.std.specs.List.Sorted.{IsNonDecreasingBy}
use Rattle.std.proofs.lemmas.Bool.{iff_false}
use Rattle.std.proofs.lemmas.List.{length-map}
use Rattle.std.proofs.lemmas.List.Sorted.{Contains-permutation, IsPermutation-sym, length_permutation}
use Rattle.std.proofs.lemmas.Option.{MatchOption-at_some, none-some, same_Some}
use Rattle.literature_entries.specs.EntriesData.{EntryData}
use Rattle.literature.specs.Trees.{Tree}
use Rattle.rendering_nodes.specs.Named.{Named}
use Rattle.rendering_style.specs.Styles.{Style}
use Rattle.rendering.specs.Alike.{style_named}
use Rattle.rendering_alike.specs.Naming.{NameTheSame}
use Rattle.rendering_alike.proofs.AnswersAll.{each_member, none_left, not_this, one_less}
use Rattle.cite_markers.specs.Document.{Piece}
use Rattle.cite_requests.specs.Markers.{names_cited}
use Rattle.cite_requests.specs.Works.{Works, meaning, work_of}
use Rattle.cite_uses.specs.Alike.{AreAlikeWorks, AreInOneOrder, HaveAlikeWorks, MeanAlikeWorks, MeansAlikeWorks, both_indices, indices_of, now_of}
use Rattle.cite_uses.specs.AlikePairs.{AreAlikeAt, IsAlikeAt, by_both, work_at}
use Rattle.cite_uses.proofs.AlikeNames.{renamed}
use Rattle.cite_uses.proofs.IndicesSorted.{order_decided}

abbrev Pair : Type 0
Pair = ℕ × ℕ

-- the work that a name means is that of the entry at its index
meaning_at : (works : Works) (name : List ℕ) (i : ℕ) → works.file.index name ≡ Some i → meaning name works ≡ work_at works i
meaning_at works name i is = ap (λ (o : Option ℕ). option_and_then (work_of works.library) (option_and_then (slice_get works.file.entries) o)) is

-- a name that means a work has an index
index_by : (works : Works) (name : List ℕ) (x : EntryData) (o : Option ℕ) → works.file.index name ≡ o → option_and_then (work_of works.library) (option_and_then (slice_get works.file.entries) o) ≡ Some x
    → (i : ℕ) × (works.file.index name ≡ Some i)
index_by works name x None is means = absurd cc
index_by works name x (Some i) is means = (i, is)

meant_index : (works : Works) (name : List ℕ) (x : EntryData) → meaning name works ≡ Some x → (i : ℕ) × (works.file.index name ≡ Some i)
meant_index works name x means = index_by works name x (works.file.index name) refl means

-- what holds of each member does so in another order
all_moved : {X : Type 0} (P : X → Type 0) (xs ys : List X) → IsPermutation xs ys → AllByRecursion P xs ↔ AllByRecursion P ys
all_moved P xs ys moved =
    let one = each_member P xs in
    let other = each_member P ys in (
      λ h. other.0 (λ x has. one.1 h x (Contains-permutation ys xs x (IsPermutation-sym xs ys moved) has)),
      λ h. one.0 (λ x has. other.1 h x (Contains-permutation xs ys x moved has)),
    )

module _ (n : Named) (selectors : List Tree) where
  -- the works at a pair of indices, by the first of them
  pub alike_both : (v w : Works) (p : Pair) (work : EntryData) (b : Bool) → Some work ≡ work_at v p.0 → (IsTrue b ↔ IsAlikeAt n selectors work w p.1) → IsTrue b ↔ AreAlikeAt n selectors v w p
  alike_both v w p work b first second = (
    λ yes. (work, sym first, second.0 yes),
    λ h. second.1 (subst (λ (u : EntryData). IsAlikeAt n selectors u w p.1) (same_Some h.0 work (sym h.1 ∙ sym first)) h.2),
  )

  pub alike_none : (v w : Works) (p : Pair) → None ≡ work_at v p.0 → IsTrue false ↔ AreAlikeAt n selectors v w p
  alike_none v w p none = (λ no. absurd (true≢false (sym no)), λ h. absurd (none-some h.0 (none ∙ h.1)))

  pub alike_other : (w : Works) (j : ℕ) (work other : EntryData) (b : Bool) → Some other ≡ work_at w j → (IsTrue b ↔ AreAlikeWorks n selectors work other) → IsTrue b ↔ IsAlikeAt n selectors work w j
  alike_other w j work other b first alike = (
    λ yes. (other, sym first, alike.0 yes),
    λ h. alike.1 (subst (AreAlikeWorks n selectors work) (same_Some h.0 other (sym h.1 ∙ sym first)) h.2),
  )

  pub alike_no_other : (w : Works) (j : ℕ) (work : EntryData) → None ≡ work_at w j → IsTrue false ↔ IsAlikeAt n selectors work w j
  alike_no_other w j work none = (λ no. absurd (true≢false (sym no)), λ h. absurd (none-some h.0 (none ∙ h.1)))

module _ (n : Named) (selectors : List Tree) (v w : Works) where
  abbrev At : Pair → Type 0
  At = AreAlikeAt n selectors v w

  one_pair : (name : List ℕ) (i j : ℕ) → v.file.index name ≡ Some i → w.file.index name ≡ Some j → MeansAlikeWorks n selectors v w name ↔ At (i, j)
  one_pair name i j first second =
      let a = meaning_at v name i first in
      let b = meaning_at w name j second in
      (λ h. (h.0, sym a ∙ h.1, (h.2.0, sym b ∙ h.2.1, h.2.2)), λ h. (h.0, a ∙ h.1, (h.2.0, b ∙ h.2.1, h.2.2)))

  -- there is a pair for each name at most
  at_most : (names : List (List ℕ)) → length (indices_of v.file w.file names) ≤ length names
  at_most [] = omega arith
  at_most (name ∷ names) = by (both_indices (v.file.index name) (w.file.index name)) (at_most names)
    where
      by : (o : Option Pair) → length (indices_of v.file w.file names) ≤ length names → length (cons_option o (indices_of v.file w.file names)) ≤ length (name ∷ names)
      by None more = omega (arith, more)
      by (Some p) more = omega (arith, more)

  -- there is one for each where they mean works
  each_given : (names : List (List ℕ)) → MeanAlikeWorks n selectors v w names → length (indices_of v.file w.file names) ≡ length names
  each_given [] h = refl
  each_given (name ∷ names) h =
      let i = meant_index v name h.0.0 h.0.1 in
      let j = meant_index w name h.0.2.0 h.0.2.1 in
      let here : indices_of v.file w.file (name ∷ names) ≡ (i.0, j.0) ∷ indices_of v.file w.file names = λ k. cons_option (both_indices (i.1 k) (j.1 k)) (indices_of v.file w.file names) in
      omega (arith, ap length here, each_given names h.1)

  -- then the names mean alike works where the works at the pairs are alike
  each_pair : (names : List (List ℕ)) → length (indices_of v.file w.file names) ≡ length names → MeanAlikeWorks n selectors v w names ↔ AllByRecursion At (indices_of v.file w.file names)
  each_pair [] long = (λ h. h, λ h. h)
  each_pair (name ∷ names) long = by (v.file.index name) (w.file.index name) refl refl long (each_pair names)
    where
      rest : List Pair
      rest = indices_of v.file w.file names

      by : (o q : Option ℕ) → v.file.index name ≡ o → w.file.index name ≡ q → length (cons_option (both_indices o q) rest) ≡ length (name ∷ names)
          → (length rest ≡ length names → MeanAlikeWorks n selectors v w names ↔ AllByRecursion At rest) → MeanAlikeWorks n selectors v w (name ∷ names) ↔ AllByRecursion At (cons_option (both_indices o q) rest)
      by (Some i) (Some j) first second all more =
          let one = one_pair name i j first second in
          let others = more (omega (arith, all)) in
          (λ h. (one.0 h.0, others.0 h.1), λ h. (one.1 h.0, others.1 h.1))
      by (Some i) None first second all more = absurd (omega (arith, all, at_most names))
      by None q first second all more = absurd (omega (arith, all, at_most names))

  -- the works at each pair before an index are alike where those at all are, and those at the last pair that was compared
  module _ (pairs : List Pair) where
    abbrev pub KnownTo : ℕ → Option Pair → Type 0
    KnownTo i last = IfSome last At × (AllByRecursion At (drop i pairs) ↔ AllByRecursion At pairs)

    pub known_none : KnownTo 0 None
    known_none = (tt, (λ h. h, λ h. h))

    pub known_again : (i : ℕ) (last : Option Pair) (d : Pair) (b : Bool) → i < length pairs → (IsTrue b ↔ (last ≡ Some (get_or pairs i d))) → b ≡ true → KnownTo i last → KnownTo (i + 1) last
    known_again i last d b low same so known =
        let here : At (get_or pairs i d) = MatchOption-at_some ⊤ At (get_or pairs i d) (same.0 so) known.0 in
        (known.0, one_less At pairs i known.1 d true low (λ yes. here, λ h. refl) refl)

    pub known_more : (i : ℕ) (last : Option Pair) (d : Pair) (b : Bool) → i < length pairs → (IsTrue b ↔ At (get_or pairs i d)) → b ≡ true → KnownTo i last → KnownTo (i + 1) (Some (get_or pairs i d))
    known_more i last d b low decided so known = (decided.0 so, one_less At pairs i known.1 d b low decided so)

    pub known_not : (i : ℕ) (last : Option Pair) (d : Pair) (b : Bool) → i < length pairs → (IsTrue b ↔ At (get_or pairs i d)) → b ≡ false → KnownTo i last → IsTrue false ↔ AllByRecursion At pairs
    known_not i last d b low decided fails known = not_this At pairs i known.1 d b low decided fails

    pub known_all : (i : ℕ) (last : Option Pair) → length pairs ≤ i → KnownTo i last → IsTrue true ↔ AllByRecursion At pairs
    known_all i last past known = none_left At pairs i known.1 past

-- a document, by the sorted pairs of its names
module _ (style : Style) (selectors : List Tree) (v w : Works) (pieces : List Piece) (names : List (Bor (List ℕ))) (are : map now_of names ≡ names_cited pieces)
    (sorted : List Pair) (moved : IsPermutation (indices_of v.file w.file (map now_of names)) sorted) (ascends : IsSorted by_both sorted) where
  abbrev all : List Pair
  all = indices_of v.file w.file (names_cited pieces)

  all_sorted : IsPermutation all sorted
  all_sorted = subst (λ (ns : List (List ℕ)). IsPermutation (indices_of v.file w.file ns) sorted) are moved

  long : length sorted ≡ length all
  long = length_permutation all sorted all_sorted

  as_named : length names ≡ length (names_cited pieces)
  as_named = sym (length-map names now_of) ∙ ap length are

  pub too_few : length sorted < length names → IsTrue false ↔ HaveAlikeWorks style selectors v w pieces
  too_few less = (
    λ no. absurd (true≢false (sym no)),
    λ h. absurd (omega (arith, less, long, as_named, each_given (style_named style) selectors v w (names_cited pieces) h.names)),
  )

  pub in_order : (lent : List Pair) (b : Bool) → lent ≡ sorted → (IsTrue b ↔ IsNonDecreasingBy (λ (p : Pair). p.1) lent) → IsTrue b ↔ AreInOneOrder all
  in_order lent b same rise = order_decided all lent sorted b all_sorted ascends same rise

  pub no_order : (b : Bool) → (IsTrue b ↔ AreInOneOrder all) → b ≡ false → IsTrue false ↔ HaveAlikeWorks style selectors v w pieces
  no_order b order fails = (λ no. absurd (true≢false (sym no)), λ h. absurd (iff_false order fails h.order))

  pub by_pairs : (n : Named) → NameTheSame n (style_named style) → length names ≤ length sorted → AreInOneOrder all → (lent : List Pair) → lent ≡ sorted → (b : Bool)
      → (IsTrue b ↔ AllByRecursion (AreAlikeAt n selectors v w) lent) → IsTrue b ↔ HaveAlikeWorks style selectors v w pieces
  by_pairs n same enough order lent is b each =
      let full : length all ≡ length (names_cited pieces) = omega (arith, enough, long, as_named, at_most n selectors v w (names_cited pieces)) in
      let pairs = each_pair n selectors v w (names_cited pieces) full in
      let named = renamed n (style_named style) same selectors v w (names_cited pieces) in
      let turned = all_moved (AreAlikeAt n selectors v w) all sorted all_sorted in (
        λ yes. record { names = named.0 (pairs.1 (turned.1 (subst (AllByRecursion (AreAlikeAt n selectors v w)) is (each.0 yes)))); order = order },
        λ h. each.1 (subst (AllByRecursion (AreAlikeAt n selectors v w)) (sym is) (turned.0 (pairs.0 (named.1 h.names)))),
      )
