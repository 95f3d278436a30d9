-- The digits of two numbers side by side.
use Rattle.std.specs.Prelude.{ℕ, ◌-◌, ◌==◌, ◌&&◌, Bool, not, nat_eq, List, length, drop, zip, count_by, if◌then◌else◌}
use Rattle.std.specs.List.{common_prefix_len}

-- how many last digits of the second number change: those from the first on that differs; all, where one is longer
abbrev pub changing : List ℕ → List ℕ → ℕ
changing ds es = length es - (if length ds == length es then common_prefix_len nat_eq ds es else 0)

-- whether three digits of four differ
abbrev pub three_of_four : List ℕ → List ℕ → Bool
three_of_four ds es = length es == 4 && count_by (λ d. not (d.0 == d.1)) (zip ds es) == 3

-- the last digits, so many or all
abbrev pub last_digits : ℕ → List ℕ → List ℕ
last_digits count ds = drop (length ds - count) ds
