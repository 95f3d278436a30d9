-- What a text spells and what is read of it are one.
use Rattle.std.proofs.Common.{ℕ, List, Option, Some, Result, Ok, Err, refl, sym, ap, ◌∙◌}
use Rattle.std.specs.Prelude.{IfOk}
use Rattle.std.specs.Option.{option_map}
use Rattle.laws.proofs.Results.{ok_is}
use Rattle.xml_text.specs.Tokens.{At}
use Rattle.xml_text.specs.Tokens as tokens
use Rattle.xml_text.specs.Reading.{Refusal}
use Rattle.xml_text.specs.Markup.{token_at}
use Rattle.xml_text.specs.Grammar.{IsPlaced, IsToken, IsNext}
use Rattle.xml_text.specs.Views.{placed_view, token_view, Gives, GivesOnly}
use Rattle.xml_text.specs.declared.fault.XmlError.{XmlError}
use Rattle.xml_text.specs.declared.fault.XmlError.TheVariants as errors
use Rattle.xml_text.specs.declared.token.Placed.{Placed}
use Rattle.xml_text.specs.declared.token.Token.{Token}
use Rattle.xml_text.proofs.GrammarAgain.{token-again}
use Rattle.xml_text.proofs.GrammarTakes.{token-takes}

abbrev seen : Option (Placed Token) → Option (At tokens.Token)
seen o = option_map (placed_view token_view) o

pub found_is : (r : Result (Option (Placed Token)) XmlError) (cs rest : List ℕ) → Gives seen r rest (token_at cs) → IfOk r (λ o. IsNext cs (seen o) rest)
found_is (Ok o) cs rest e = token-takes cs (seen o, rest) e
found_is (Err error) cs rest e = tt

pub only_this : (r : Result (Option (Placed Token)) XmlError) (cs rest more : List ℕ) (x : At tokens.Token) → Gives seen r rest (token_at cs) → IsPlaced cs x.left → IsToken cs x.v more → GivesOnly r rest x more
only_this (Ok o) cs rest more x e at is =
    let same = ok_is {F = Refusal} (seen o, rest) (Some x, more) (sym e ∙ token-again cs more x at is) in
    (ap (λ (p : Option (At tokens.Token) × List ℕ). p.0) same, ap (λ (p : Option (At tokens.Token) × List ℕ). p.1) same)
only_this (Err errors.Memory) cs rest more x e at is = refl
only_this (Err (errors.Fault fault)) cs rest more x e at is =
    let never = sym e ∙ token-again cs more x at is in
    absurd cc
