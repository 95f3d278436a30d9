-- What reading leaves.
use Rattle.std.proofs.Common.{ℕ, ◌≤◌, List, length, Ok, pos}
use Rattle.std.specs.Prelude.{IfOk}
use Rattle.std.specs.Str.Parse.{digits_value}
use Rattle.laws.specs.Runs.{prefix_of, after}
use Rattle.laws.proofs.Results.{test_if_ok}
use Rattle.laws.proofs.Runs.{length-after}
use Rattle.texts.specs.Character.{passes}
use Rattle.texts.specs.Reading.{is_number, number_at}
use Rattle.texts.specs.declared.character.Class.TheVariants.{Digit}
use Rattle.texts.specs.declared.reader.Unreadable.TheVariants.{NotThere}

-- at most n characters are left
abbrev pub LeavesAtMost : {X : Type 0} → ℕ → X × List ℕ → Type 0
LeavesAtMost n p = length p.1 ≤ n

pub number-leaves : (cs : List ℕ) → IfOk (number_at cs) (LeavesAtMost (length cs))
number-leaves cs =
    test_if_ok (LeavesAtMost (length cs)) (is_number (prefix_of (passes Digit) cs)) (Ok (pos (digits_value 10 (prefix_of (passes Digit) cs)), after (passes Digit) cs)) NotThere (length-after (passes Digit) cs)
