-- Cases of cites that are collapsed.
use Rattle.std.proofs.Common.{◌≡◌, ℕ, Bool, List, [], ◌∷◌, ◌++◌, append_assoc, length, map, zip, flat_map, refl, sym, ap, ◌∙◌}
use Rattle.std.specs.Prelude.{nat_le}
use Rattle.std.proofs.lemmas.List.{length-map, map-append}
use Rattle.rendering_style.specs.Styles.{Citation}
use Rattle.driver_blocks.specs.Runs as runs
use Rattle.driver_blocks.specs.Runs.{is_long, last_after_dash, collapsed_run}
use Rattle.driver_blocks.specs.Collapsing.{after_run}
use Rattle.driver_blocks.specs.Views.{after_dash, arranged_view, hidden}
use Rattle.driver_blocks.specs.declared.cite.Arranged.{Arranged}

-- some are hidden and the last one stands after a dash
pub last_dash : {X : Type 0} (inner : List (runs.Arranged X)) (a : runs.Arranged X) → last_after_dash (inner ++ a ∷ []) ≡ map hidden inner ++ after_dash a ∷ []
last_dash [] a = refl
last_dash (b ∷ []) a = refl
last_dash (b ∷ d ∷ inner) a = ap (λ ys. hidden b ∷ ys) (last_dash (d ∷ inner) a)

module _ (c : Citation) where
  -- cites of which the last one after a dash is shown, after others
  pub pushed_last : (cites inner old others new : List Arranged) (last dashed : Arranged) → cites ≡ inner ++ last ∷ [] → map (arranged_view c) others ≡ map (arranged_view c) old ++ map hidden (map (arranged_view c) inner)
      → arranged_view c dashed ≡ after_dash (arranged_view c last) → new ≡ others ++ dashed ∷ [] → map (arranged_view c) new ≡ map (arranged_view c) old ++ last_after_dash (map (arranged_view c) cites)
  pushed_last cites inner old others new last dashed split h d e =
      ap (map (arranged_view c)) e
      ∙ map-append (arranged_view c) others (dashed ∷ [])
      ∙ (λ k. h k ++ d k ∷ [])
      ∙ append_assoc (map (arranged_view c) old) (map hidden (map (arranged_view c) inner)) (after_dash (arranged_view c last) ∷ [])
      ∙ ap (λ ys. map (arranged_view c) old ++ ys)
      (sym (ap (λ ys. last_after_dash (map (arranged_view c) ys)) split ∙ ap last_after_dash (map-append (arranged_view c) inner (last ∷ [])) ∙ last_dash (map (arranged_view c) inner) (arranged_view c last)))

  -- runs that are left to be collapsed, after a long one or not
  abbrev pub numbers_from : Bool → List (List (runs.Arranged ℕ)) → List (runs.Arranged ℕ)
  numbers_from is_after rs = flat_map (λ r. collapsed_run (after_run c r)) (zip (is_after ∷ map is_long rs) rs)

  pub numbers_go_on : (is_after next : Bool) (run : List Arranged) (whole others : List (List (runs.Arranged ℕ))) (now new all : List (runs.Arranged ℕ)) → whole ≡ map (arranged_view c) run ∷ others
      → now ++ numbers_from is_after whole ≡ all → new ≡ now ++ collapsed_run (after_run c (is_after, map (arranged_view c) run)) → next ≡ nat_le 3 (length run) → new ++ numbers_from next others ≡ all
  numbers_go_on is_after next run whole others now new all split h e long =
      let is : next ≡ is_long (map (arranged_view c) run) = long ∙ ap (nat_le 3) (sym (length-map run (arranged_view c))) in
      (λ k. e k ++ numbers_from (is k) others)
      ∙ append_assoc now (collapsed_run (after_run c (is_after, map (arranged_view c) run))) (numbers_from (is_long (map (arranged_view c) run)) others)
      ∙ ap (λ rs. now ++ numbers_from is_after rs) (sym split)
      ∙ h
