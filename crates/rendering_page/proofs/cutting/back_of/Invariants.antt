use Rattle.std.proofs.Common.{◌≡◌, ◌+◌, ℕ, List, ◌++◌, length, take}
use denote.Shadow.{shadow}
use denote.Text.{Utf8}
use Rattle.std.specs.Str.{chars}
use Rattle.rendering_page.proofs.cutting.back_of.Given as goal

abbrev pub invariant-loop-missing : goal.invariant-loop-missing
invariant-loop-missing l = record {
  parts : (back : List ℕ) × (chars l.text ≡ chars l.leading ++ back) × (length back + l.missing ≡ l.fn.count);
  leading : l.leading ≡ take (length l.leading) l.text;
  spelled : shadow (Utf8 l.leading);
}

abbrev pub decreases-loop-missing : goal.decreases-loop-missing
decreases-loop-missing l = l.missing
