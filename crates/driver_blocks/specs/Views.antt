-- Cites of the code as plain data.
use Rattle.std.specs.Global.{Global}
use Rattle.std.specs.Prelude.{ℕ, ◌+◌, Bool, false, List, [], ◌∷◌, ◌++◌, map, if◌then◌else◌, Option, Some, None, Vec}
use Rattle.std.specs.Borrow.{Bor}
use Rattle.std.specs.Option.{option_map, option_or}
use Rattle.rendering_style.specs.Styles.{Citation}
use Rattle.rendering_tree.specs.Views.{element_view}
use Rattle.driver_requests.specs.SuffixViews.{suffix_view}
use Rattle.driver_blocks.specs.Blocks as blocks
use Rattle.driver_blocks.specs.Blocks.{inside_delimiter}
use Rattle.driver_blocks.specs.Runs as runs
use Rattle.rendering_dates.specs.Dates.{dash}
use Rattle.driver_blocks.specs.Collapsing.{delimiter_after_collapsed}
use Rattle.rendering_tree.specs.declared.element.Elem.{Elem}
use Rattle.driver_blocks.specs.declared.cite.Gathered.{Gathered}
use Rattle.driver_blocks.specs.declared.cite.Arranged.{Arranged}
use Rattle.driver_blocks.specs.declared.cite.Before.{Before}
use Rattle.driver_blocks.specs.declared.cite.Before.TheVariants as before

-- a cite as it is gathered
abbrev pub gathered_view : Gathered → blocks.Gathered ℕ
gathered_view g = record {
  cite = g.cite;
  names = option_map (λ (e : Bor Elem). element_view e.now) g.names;
  number = g.number;
  is_shown = g.is_shown;
  has_locator = g.has_locator;
  suffix = option_map suffix_view g.suffix;
}

-- blocks of cites
abbrev pub blocks_view : List (Vec Gathered Global) → List (List (blocks.Gathered ℕ))
blocks_view bs = map (λ b. map gathered_view b.items) bs

-- what stands before a cite in a style
abbrev pub before_view : Citation → Before → Option (List ℕ)
before_view c before.Layout = c.layout.delimiter
before_view c before.Inside = inside_delimiter c
before_view c before.AfterCollapse = delimiter_after_collapsed c
before_view c before.YearSuffix = option_or c.year_suffix_delimiter (inside_delimiter c)
before_view c before.Dash = Some dash

-- a cite in its citation, in a style
abbrev pub arranged_view : Citation → Arranged → runs.Arranged ℕ
arranged_view c a = record { cite = gathered_view a.cite; is_shown = a.is_shown; delimiter = before_view c a.before; verdict = a.verdict }

-- a cite in its citation, whatever stands before it
abbrev pub undelimited : Arranged → runs.Arranged ℕ
undelimited a = record { cite = gathered_view a.cite; is_shown = a.is_shown; delimiter = None; verdict = a.verdict }

-- a cite that is hidden
abbrev pub hidden : {X : Type 0} → runs.Arranged X → runs.Arranged X
hidden a = record a { is_shown = false }

-- a cite after a dash
abbrev pub after_dash : {X : Type 0} → runs.Arranged X → runs.Arranged X
after_dash a = record a { delimiter = Some dash }

-- whether a member goes with those of a group, which is asked of the first of them
abbrev pub takes : {Y : Type 0} → (Y → Y → Bool) → List Y → Y → Bool
takes same [] x = false
takes same (y ∷ ys) x = same y x

-- a member in the first group that takes it, or else in one of its own after them
abbrev pub put_in : {Y : Type 0} → (Y → Y → Bool) → Y → List (List Y) → List (List Y)
put_in same x [] = (x ∷ []) ∷ []
put_in same x (b ∷ bs) = if takes same b x then (b ++ x ∷ []) ∷ bs else b ∷ put_in same x bs

-- the index of the first group that takes a member, where the first group has that number
abbrev pub first_taking : {Y : Type 0} → (Y → Y → Bool) → Y → ℕ → List (List Y) → Option ℕ
first_taking same x n [] = None
first_taking same x n (b ∷ bs) = if takes same b x then Some n else first_taking same x (n + 1) bs
