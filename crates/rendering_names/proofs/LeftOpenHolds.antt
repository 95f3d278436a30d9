-- What is left open changes nothing of how names are printed.
use Rattle.std.proofs.Common.{◌≡◌, ℕ, Bool, true, false, List, [], ◌∷◌, Option, Some, None, refl, sym, ap, ◌∙◌}
use Rattle.std.specs.Prelude.{◌&&◌, ◌||◌, is_some, if◌then◌else◌}
use Rattle.std.specs.List.{list_any}
use Rattle.std.specs.Option.{option_or, unwrap_or}
use Rattle.laws.specs.Characters.{space}
use Rattle.literature_values.specs.GivenNames.{given_by}
use Rattle.literature_values.specs.Initials.{style}
use Rattle.rendering_taxonomy.specs.Formats.{changed}
use Rattle.rendering_page.specs.Pieces.{normal}
use Rattle.rendering_names.specs.LeftOpen.{TermIsDelimitedFromTwo, HyphensStay, RunsAreCut, NodeDelimitsPeople, NodesSayTheirOwn, NamesAreOneText, RolesArePrintedEach}
use Rattle.rendering_names.specs.Names.{delimiter_by, delimits_et_al}
use Rattle.rendering_names.specs.NameParts.{person_words, words_pieces}
use Rattle.rendering_names.specs.Persons.{comma_and_space, stop_and_space, given_of, rule_by, initials_rule, person_text}
use Rattle.rendering_names.specs.Roles.{are_one, is_role, people_with}
use Rattle.rendering_tree.specs.Metas.{Answered}
use Rattle.rendering_taxonomy.specs.declared.name.DelimiterBehavior.{DelimiterBehavior}
use Rattle.rendering_taxonomy.specs.declared.term.OtherTerm.TheVariants as others
use Rattle.rendering_taxonomy.specs.declared.term.Term.TheVariants as terms
use Rattle.rendering_taxonomy.specs.declared.variable.NameVariable.TheVariants as roles
use Rattle.rendering_taxonomy.specs.declared.variable.Variable.TheVariants as variables
use Rattle.rendering_taxonomy.specs.declared.name.DelimiterBehavior.TheVariants as behaviors

pub term_delimited : TermIsDelimitedFromTwo
term_delimited s shown [] e = refl
term_delimited s shown (c ∷ cs) e =
    ap (λ (b : Option DelimiterBehavior).
    normal s.manner (if delimits_et_al s.options shown (unwrap_or b behaviors.Contextual) then delimiter_by s.options else space ∷ [])
    ∷ normal (record s.manner { formatting = changed s.et_al.formatting s.manner.formatting }) (c ∷ cs) ∷ []) e

pub hyphens_stay : HyphensStay
hyphens_stay o p e = ap (λ (b : Option Bool). given_by (initials_rule o) (style (unwrap_or o.initialize_with stop_and_space) (unwrap_or b true)) (given_of p)) e

pub runs_cut : RunsAreCut
runs_cut o p splits initializes =
    λ i. given_by (rule_by (initializes i) (unwrap_or (splits i) false)) (style (unwrap_or o.initialize_with stop_and_space) (unwrap_or o.initialize_with_hyphen true)) (given_of p)

or_none : (d : Option (List ℕ)) → unwrap_or (option_or d None) comma_and_space ≡ unwrap_or d comma_and_space
or_none None = refl
or_none (Some cs) = refl

pub node_delimits : NodeDelimitsPeople
node_delimits o h e = ap (λ (d : Option (List ℕ)). unwrap_or (option_or h.delimiter d) comma_and_space) e ∙ or_none h.delimiter

pub nodes_say : NodesSayTheirOwn
nodes_say h o = refl

pub one_text : NamesAreOneText
one_text m l o is_inverted f p given family =
    λ i. if is_some (given i) || is_some (family i) then words_pieces m false (person_words l o is_inverted f p) else normal m (person_text o is_inverted f p) ∷ []

pub roles_each : RolesArePrintedEach
roles_each h people before v each = (
  (λ i. record h { merges_editor_translator = each i && are_one (people_with roles.Editor people) (people_with roles.Translator people) }) ∙ (λ i. record h { merges_editor_translator = sym each i }),
  ap (λ b. if b && is_role v then terms.Other others.EditorTranslator else terms.Variable (variables.Name v)) each,
  ap (λ b. b && (is_role v && list_any (λ (a : Answered). is_role a.1) before)) each,
)
