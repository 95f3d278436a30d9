-- What `==` answers, against the view of the two values.
use Rattle.std.specs.Prelude.{◌≡◌, Bool}
use Rattle.std.specs.Bool.{Decides}

-- `==` is true exactly where the view of the two is one
abbrev pub Shows : {A V : Type 0} → (A → A → Bool) → (A → V) → Type 0
Shows {A} same view = (x y : A) → Decides (same x y) (view x ≡ view y)
