-- Parts of a side of a date, each appended after those before it.
use Rattle.std.proofs.Common.{◌≡◌, ℕ, ◌+◌, ◌<◌, Bool, true, false, cond, List, [], ◌∷◌, ◌++◌, length, drop, get_or, filter, refl, sym, ap, ◌∙◌}
use Rattle.std.proofs.lemmas.List.{append-nil, append_assoc, at_drop_more}
use Rattle.std.proofs.lemmas.List.Sums.{fold-append}
use Rattle.std.specs.List.{flat_map}
use Rattle.rendering_page.specs.Pages.{Page, Quotes}
use Rattle.rendering_page.specs.Pieces.{Piece, append_piece, append_pieces}
use Rattle.rendering_dates.specs.Dates.{each_after}
use Rattle.rendering_dates.specs.Joined.{joined_from, still_first}

each_more : (between : List Piece) (pss qss : List (List Piece)) → each_after between (pss ++ qss) ≡ each_after between pss ++ each_after between qss
each_more between [] qss = refl
each_more between (ps ∷ pss) qss =
    ap (λ (xs : List Piece). (between ++ ps) ++ xs) (each_more between pss qss) ∙ sym (append_assoc (between ++ ps) (each_after between pss) (each_after between qss))

-- pieces and others after them, with what stands between any two
joined_more : (first : Bool) (between : List Piece) (pss qss : List (List Piece))
    → joined_from first between (pss ++ qss) ≡ joined_from first between pss ++ joined_from (still_first first pss) between qss
joined_more true between [] qss = refl
joined_more false between [] qss = refl
joined_more true between (ps ∷ pss) qss =
    ap (λ (xs : List Piece). ps ++ xs) (each_more between pss qss) ∙ sym (append_assoc ps (each_after between pss) (each_after between qss))
joined_more false between (ps ∷ pss) qss = each_more between (ps ∷ pss) qss

never_first : (pss : List (List Piece)) → still_first false pss ≡ false
never_first [] = refl
never_first (ps ∷ pss) = refl

-- whether what stands after pieces and others after them is the first
still_more : (first : Bool) (pss qss : List (List Piece)) → still_first first (pss ++ qss) ≡ still_first (still_first first pss) qss
still_more first [] qss = refl
still_more first (ps ∷ pss) qss = sym (never_first qss)

module _ {P : Type 0} (within : P → Bool) (pieces : P → List (List Piece)) where
  -- what a part prints, if it is printed
  abbrev part_alone : P → List (List Piece)
  part_alone p = cond (within p) (pieces p) []

  part_more : (p : P) (ps : List P) → flat_map pieces (filter within (p ∷ ps)) ≡ part_alone p ++ flat_map pieces (filter within ps)
  part_more p ps = by_test (within p)
    where
      by_test : (b : Bool) → flat_map pieces (cond b (p ∷ filter within ps) (filter within ps)) ≡ cond b (pieces p) [] ++ flat_map pieces (filter within ps)
      by_test true = refl
      by_test false = refl

  -- a part and those after it
  pub next_part : (quotes : Quotes) (between : List Piece) (first now : Bool) (p : P) (ps : List P) (old new : Page)
      → new ≡ append_pieces quotes (joined_from first between (cond (within p) (pieces p) [])) old → now ≡ still_first first (cond (within p) (pieces p) [])
      → append_pieces quotes (joined_from now between (flat_map pieces (filter within ps))) new ≡ append_pieces quotes (joined_from first between (flat_map pieces (filter within (p ∷ ps)))) old
  next_part quotes between first now p ps old new page is_first =
      let rest = flat_map pieces (filter within ps) in
      (λ i. append_pieces quotes (joined_from (is_first i) between rest) (page i))
      ∙ (sym (fold-append (append_piece quotes) old (joined_from first between (part_alone p)) (joined_from (still_first first (part_alone p)) between rest))
      ∙ (ap (λ (xs : List Piece). append_pieces quotes xs old) (sym (joined_more first between (part_alone p) rest))
      ∙ ap (λ (pss : List (List Piece)). append_pieces quotes (joined_from first between pss) old) (sym (part_more p ps))))

  -- whether what stands after them is the first
  next_first : (first now : Bool) (p : P) (ps : List P) → now ≡ still_first first (cond (within p) (pieces p) [])
      → still_first now (flat_map pieces (filter within ps)) ≡ still_first first (flat_map pieces (filter within (p ∷ ps)))
  next_first first now p ps is =
      let rest = flat_map pieces (filter within ps) in
      ap (λ (b : Bool). still_first b rest) is
      ∙ (sym (still_more first (part_alone p) rest) ∙ ap (still_first first) (sym (part_more p ps)))

  parts_and : (ps : List P) (p : P) → flat_map pieces (filter within (ps ++ p ∷ [])) ≡ flat_map pieces (filter within ps) ++ part_alone p
  parts_and [] p = part_more p [] ∙ append-nil (part_alone p)
  parts_and (q ∷ qs) p =
      part_more q (qs ++ p ∷ [])
      ∙ (ap (λ (xs : List (List Piece)). part_alone q ++ xs) (parts_and qs p)
      ∙ (sym (append_assoc (part_alone q) (flat_map pieces (filter within qs)) (part_alone p))
      ∙ ap (λ (xs : List (List Piece)). xs ++ part_alone p) (sym (part_more q qs))))

  -- parts and one after them
  pub last_part : (quotes : Quotes) (between : List Piece) (first now : Bool) (ps : List P) (p : P) (old middle new : Page)
      → middle ≡ append_pieces quotes (joined_from first between (flat_map pieces (filter within ps))) old → now ≡ still_first first (flat_map pieces (filter within ps))
      → new ≡ append_pieces quotes (joined_from now between (cond (within p) (pieces p) [])) middle
      → new ≡ append_pieces quotes (joined_from first between (flat_map pieces (filter within (ps ++ p ∷ [])))) old
  last_part quotes between first now ps p old middle new page is_first after =
      let some = flat_map pieces (filter within ps) in
      after
      ∙ ((λ i. append_pieces quotes (joined_from (is_first i) between (part_alone p)) (page i))
      ∙ (sym (fold-append (append_piece quotes) old (joined_from first between some) (joined_from (still_first first some) between (part_alone p)))
      ∙ (ap (λ (xs : List Piece). append_pieces quotes xs old) (sym (joined_more first between some (part_alone p)))
      ∙ ap (λ (pss : List (List Piece)). append_pieces quotes (joined_from first between pss) old) (sym (parts_and ps p)))))

  module _ {X : Type 0} (view : X → P) (views : List X → List P) (goes_on : (x : X) (xs : List X) → views (x ∷ xs) ≡ view x ∷ views xs) where
    -- the part at an index, as it is viewed, and those after it
    pub part_at : (quotes : Quotes) (between : List Piece) (first now : Bool) (xs : List X) (i : ℕ) (x : X) (p : P) (old new : Page) → i < length xs → x ≡ get_or xs i x → p ≡ view x
        → new ≡ append_pieces quotes (joined_from first between (cond (within p) (pieces p) [])) old → now ≡ still_first first (cond (within p) (pieces p) [])
        → append_pieces quotes (joined_from now between (flat_map pieces (filter within (views (drop (i + 1) xs))))) new
        ≡ append_pieces quotes (joined_from first between (flat_map pieces (filter within (views (drop i xs))))) old
    part_at quotes between first now xs i x p old new less is viewed page is_first =
        let F : List P → Page = λ ps. append_pieces quotes (joined_from first between (flat_map pieces (filter within ps))) old in
        let rest = drop (i + 1) xs in
        next_part quotes between first now p (views rest) old new page is_first
        ∙ (ap (λ (q : P). F (q ∷ views rest)) viewed
        ∙ (ap F (sym (goes_on x rest))
        ∙ (ap (λ (z : X). F (views (z ∷ rest))) is
        ∙ sym (at_drop_more (λ (zs : List X). F (views zs)) xs i x less))))

    -- whether what stands after them is the first
    pub first_at : (first now : Bool) (xs : List X) (i : ℕ) (x : X) (p : P) → i < length xs → x ≡ get_or xs i x → p ≡ view x → now ≡ still_first first (cond (within p) (pieces p) [])
        → still_first now (flat_map pieces (filter within (views (drop (i + 1) xs)))) ≡ still_first first (flat_map pieces (filter within (views (drop i xs))))
    first_at first now xs i x p less is viewed is_first =
        let F : List P → Bool = λ ps. still_first first (flat_map pieces (filter within ps)) in
        let rest = drop (i + 1) xs in
        next_first first now p (views rest) is_first
        ∙ (ap (λ (q : P). F (q ∷ views rest)) viewed
        ∙ (ap F (sym (goes_on x rest))
        ∙ (ap (λ (z : X). F (views (z ∷ rest))) is
        ∙ sym (at_drop_more (λ (zs : List X). F (views zs)) xs i x less))))
