-- What reading the next token gives, and what follows.
use Rattle.std.proofs.Common.{◌≡◌, ℕ, List, Option, Some, None, Result, Ok, ap}
use Rattle.laws.specs.Results.{◌>>=◌, EndsWith}
use Rattle.xml_text.specs.Tokens.{At, Token}
use Rattle.xml_text.specs.Markup.{token_at}
use Rattle.xml_text.specs.Prolog.{prolog_at}
use Rattle.xml_text.specs.Reading as reading
use Rattle.xml_text.specs.Views.{StopsAt}
use Rattle.xml_text.specs.declared.fault.XmlError.{XmlError}
use Rattle.xml_text.specs.declared.fault.XmlError.TheVariants as stops
use Rattle.xml_tree.specs.Values.{Refusal}
use Rattle.xml_tree.specs.Building.{State, step, and_rest, with_place, stepped_by, stepped, tree_from, tree_of, first_state}
use Rattle.xml_tree.specs.Views.{refusal_of, error_view}
use Rattle.xml_tree.proofs.Folded.{ends_bind}

-- a fault of a token, at its place
pub placed_end : {Y : Type 0} (error : XmlError) (rest : List ℕ) (read : Result Y reading.Refusal) → StopsAt error rest read → EndsWith (refusal_of (error_view error rest)) (with_place read)
placed_end stops.Memory rest read e = tt
placed_end {Y} (stops.Fault fault) rest read e = ap (λ (r : Result Y reading.Refusal). with_place r) e

module _ (s : State) (cs rest : List ℕ) where
  pub stepped_some : (x : At Token) → with_place (token_at cs) ≡ Ok (Some x, rest) → stepped s cs ≡ and_rest rest (step s cs x.v)
  unfolding stepped
  stepped_some x read = ap (λ (r : Result (Option (At Token) × List ℕ) Refusal). r >>= λ t. stepped_by s cs t.0 t.1) read

  pub stepped_none : with_place (token_at cs) ≡ Ok (None, rest) → stepped s cs ≡ Ok (None, rest)
  unfolding stepped
  stepped_none read = ap (λ (r : Result (Option (At Token) × List ℕ) Refusal). r >>= λ t. stepped_by s cs t.0 t.1) read

pub stepped_fails : (s : State) (cs : List ℕ) (refusal : Option Refusal) → EndsWith refusal (with_place (token_at cs)) → EndsWith refusal (stepped s cs)
unfolding stepped
stepped_fails s cs refusal e = ends_bind refusal (with_place (token_at cs)) (λ t. stepped_by s cs t.0 t.1) e

-- what follows the prolog
pub tree_after : (cs rest : List ℕ) → prolog_at cs ≡ Ok rest → tree_of cs ≡ tree_from first_state rest
unfolding tree_of
tree_after cs rest e = ap (λ (r : Result (List ℕ) reading.Refusal). with_place r >>= λ more. tree_from first_state more) e

pub tree_refused : (cs : List ℕ) (refusal : Option Refusal) → EndsWith refusal (with_place (prolog_at cs)) → EndsWith refusal (tree_of cs)
unfolding tree_of
tree_refused cs refusal e = ends_bind refusal (with_place (prolog_at cs)) (λ more. tree_from first_state more) e
