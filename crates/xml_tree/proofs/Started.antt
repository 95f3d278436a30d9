-- A start-tag within some elements.
use Rattle.std.proofs.Common.{◌≡◌, ℕ, true, false, nat_lt, List, length, Option, Ok, Err, refl}
use Rattle.laws.specs.Results.{EndsWith}
use Rattle.xml_text.specs.Tokens.{Tag}
use Rattle.xml_text.specs.declared.fault.Fault.TheVariants as faults
use Rattle.xml_tree.specs.Trees.{Element}
use Rattle.xml_tree.specs.Values.{Refusal}
use Rattle.xml_tree.specs.Names.{Said, said}
use Rattle.xml_tree.specs.Building.{Open, scope_of, opened, most_open, started, start_below}
use Rattle.xml_tree.proofs.Folded.{ends_bind}

module _ (root : Option Element) (os : List Open) (left : ℕ) (tag : Tag) where
  pub room_lacks : nat_lt (length os) most_open ≡ false → start_below root os left tag ≡ Err (faults.TooDeep, left)
  room_lacks full = rw full refl

  pub below_fails : nat_lt (length os) most_open ≡ true → (refusal : Option Refusal) → EndsWith refusal (said (scope_of os) left tag) → EndsWith refusal (start_below root os left tag)
  below_fails room refusal is = rw room (ends_bind refusal (said (scope_of os) left tag) (λ x. Ok (started root os tag.empty (opened left tag.name x))) is)

  pub below_goes : (x : Said) → nat_lt (length os) most_open ≡ true → said (scope_of os) left tag ≡ Ok x → start_below root os left tag ≡ Ok (started root os tag.empty (opened left tag.name x))
  below_goes x room is = rw (room, is) refl
