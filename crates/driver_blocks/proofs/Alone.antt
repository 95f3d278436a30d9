-- Citations of one cite.
use Rattle.std.proofs.Common.{◌≡◌, ◌==◌, Bool, true, false, List, [], ◌∷◌, length, Option, Some, None, refl, rules, sym, ap, ◌∙◌, true≢false}
use Rattle.std.specs.Prelude.{if◌then◌else◌}
use Rattle.rendering_style.specs.Styles.{Citation}
use Rattle.rendering_taxonomy.specs.declared.style.Collapse.{Collapse}
use Rattle.rendering_taxonomy.specs.declared.style.Collapse.TheVariants as collapses
use Rattle.driver_blocks.specs.Blocks.{Gathered, blocks, gathered, gathers, is_of_block}
use Rattle.driver_blocks.specs.Collapsing.{arranged, collapsed, uncollapsed}

not_none : {A : Type 0} (x : A) (xs : List A) → (length (x ∷ xs) == 0) ≡ false
not_none x xs = search rules

-- of an empty list nothing is left
pub none_is : {A : Type 0} (xs : List A) → (length xs == 0) ≡ true → xs ≡ []
none_is [] e = refl
none_is (x ∷ xs) e = absurd (true≢false (sym e ∙ not_none x xs))

-- what is right of both is right of the one that is chosen
either : {A : Type 0} (b : Bool) (x y z : A) → x ≡ z → y ≡ z → (if b then x else y) ≡ z
either true x y z e f = e
either false x y z e f = f

-- a member alone is gathered alone
gathered_alone : {Y : Type 0} (same : Y → Y → Bool) (y : Y) → gathered same (y ∷ []) ≡ (y ∷ []) ∷ []
gathered_alone same y = refl

module _ {X : Type 0} (c : Citation) (g : Gathered X) where
  blocks_alone : blocks c (g ∷ []) ≡ (g ∷ []) ∷ []
  blocks_alone = either (gathers c) (gathered (is_of_block c.gathers_by_text) (g ∷ [])) ((g ∷ []) ∷ []) ((g ∷ []) ∷ []) (gathered_alone (is_of_block c.gathers_by_text) g) refl

  -- nothing of it is collapsed
  collapsed_alone : (mode : Option Collapse) → collapsed c mode ((g ∷ []) ∷ []) ≡ uncollapsed c.layout.delimiter g ∷ []
  collapsed_alone None = refl
  collapsed_alone (Some collapses.CitationNumber) = refl
  collapsed_alone (Some collapses.Year) = refl
  collapsed_alone (Some collapses.YearSuffix) = refl
  collapsed_alone (Some collapses.YearSuffixRanged) = refl

  pub arranged_alone : (has_purpose : Bool) → arranged c has_purpose (g ∷ []) ≡ uncollapsed c.layout.delimiter g ∷ []
  arranged_alone has_purpose =
      let mode : Option Collapse = if has_purpose then None else c.collapse in
      ap (collapsed c mode) blocks_alone ∙ collapsed_alone mode
