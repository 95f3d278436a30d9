-- Cases of names that disambiguate cites, computed.
use Rattle.std.proofs.Common.{◌≡◌, ℕ, true, false, List, [], ◌∷◌, codes, refl, Option, Some, None}
use Rattle.std.specs.Prelude.{not, ◌==◌, filter}
use Rattle.literature_values.specs.PersonViews.{Named}
use Rattle.rendering_tree.specs.Metas as metas
use Rattle.rendering_tree.specs.Trees.{Elem, nothing, before}
use Rattle.rendering_context.specs.Cites.{DisambiguateState, undisambiguated, by_choose}
use Rattle.driver_names.specs.Names.{Member, agrees_on, compared, is_namesake, is_newly_distinguished, others, people_in, raised_form, raises, ungiven, form_against}
use Rattle.rendering_taxonomy.specs.declared.name.DisambiguatedNameForm.TheVariants as forms
use Rattle.rendering_taxonomy.specs.declared.style.DisambiguationRule.{DisambiguationRule}
use Rattle.rendering_taxonomy.specs.declared.style.DisambiguationRule.TheVariants as rules
use Rattle.rendering_taxonomy.specs.declared.variable.NameVariable.TheVariants as name

-- a person by family name and given name
person : List ℕ → List ℕ → Named
person family given = record { name = family; given_name = Some given; prefix = None; suffix = None }

-- a cite of people at an index in its class, by the rule of its style and its state
member : ℕ → Option DisambiguationRule → DisambiguateState → List Named → Member
member index rule state people = record {
  index = index;
  cite = record {
    entry = index;
    number = index;
    has_date = false;
    rule = rule;
    adds_suffix = false;
    first_chooses_too = false;
    same_entry_is_no_rival = false;
    suffixes_by_number = false;
    repeats = false;
    met_disambiguate = false;
    names = None;
    state = state;
    tree = nothing;
    text = [];
  };
  people = people;
  names = None;
  is_distinguished = false;
}

anna : Named
anna = person (codes "Roe") (codes "Anna")

bert : Named
bert = person (codes "Roe") (codes "Bert")

lee : Named
lee = person (codes "Lee") (codes "Carl")

-- people are compared by the rule of the cite that is disambiguated
by_its_rule : agrees_on 1 (member 0 None undisambiguated (anna ∷ [])) (member 1 (Some rules.ByCite) undisambiguated (bert ∷ [])) ≡ true
unfolding member anna bert person
by_its_rule = refl

by_the_other_rule : agrees_on 1 (member 1 (Some rules.ByCite) undisambiguated (bert ∷ [])) (member 0 None undisambiguated (anna ∷ [])) ≡ false
unfolding member anna bert person
by_the_other_rule = refl

-- all of the first people are compared, not the last of them alone
all_together : agrees_on 2 (member 0 (Some rules.ByCite) undisambiguated (anna ∷ lee ∷ [])) (member 1 (Some rules.ByCite) undisambiguated (bert ∷ lee ∷ [])) ≡ false
unfolding member anna bert lee person
all_together = refl

-- what names may no longer change is not disambiguated by them
no_longer : is_newly_distinguished 1 (member 1 None undisambiguated (lee ∷ []) ∷ []) (member 0 None by_choose (anna ∷ [])) ≡ false
unfolding member anna lee person
no_longer = refl

-- cites that were disambiguated before are compared with the others
with_those_before :
    is_newly_distinguished 1 (record (member 1 None undisambiguated (bert ∷ [])) { is_distinguished = true } ∷ []) (member 0 None undisambiguated (anna ∷ [])) ≡ false
unfolding member anna bert person
with_those_before = refl

primary_name : compared (Some rules.PrimaryName) 1 anna ≡ ungiven anna
unfolding anna person
primary_name = refl

primary_name_with_initials : compared (Some rules.PrimaryNameWithInitials) 1 anna ≡ ungiven anna
unfolding anna person
primary_name_with_initials = refl

-- people whose names differ in the prefix alone are namesakes
by_prefix : is_namesake anna (record anna { prefix = Some (codes "van") }) ≡ true
unfolding anna person
by_prefix = refl

one_person : is_namesake anna anna ≡ false
unfolding anna person
one_person = refl

-- the people of each names element are compared
two_elements :
    people_in (before (Elem None (Some (metas.Names ((anna ∷ [], name.Author) ∷ []))) nothing) (before (Elem None (Some (metas.Names ((lee ∷ [], name.Editor) ∷ []))) nothing) nothing))
    ≡ anna ∷ lee ∷ []
unfolding anna lee person
two_elements = refl

not_raised : form_against anna [] ≡ None
unfolding anna person
not_raised = refl

counted : raised_form forms.Count forms.LongFull ≡ forms.Count
counted = refl

already_full : raised_form forms.LongFull forms.LongInitialized ≡ forms.LongFull
already_full = refl

raised_up : raised_form forms.ShortFull forms.LongInitialized ≡ forms.LongInitialized
raised_up = refl

raises_alone : raises (Some rules.AllNames) ≡ false
raises_alone = refl

-- a cite whose style does not compare cites of one entry
by_entry : Member → Member
by_entry m = record m { cite = record m.cite { same_entry_is_no_rival = true } }

-- another cite of the same entry does not keep it from being disambiguated
against_others :
    is_newly_distinguished 1
    (by_entry (member 0 (Some rules.ByCite) undisambiguated (anna ∷ [])) ∷ record (by_entry (member 0 (Some rules.ByCite) undisambiguated (anna ∷ []))) { index = 1 } ∷ by_entry (member 1 (Some rules.ByCite) undisambiguated (bert ∷ [])) ∷ [])
    (by_entry (member 0 (Some rules.ByCite) undisambiguated (anna ∷ [])))
    ≡ true
unfolding member by_entry anna bert person
against_others = refl

-- in other styles it does
against_all :
    is_newly_distinguished 1
    (member 0 (Some rules.ByCite) undisambiguated (anna ∷ []) ∷ record (member 0 (Some rules.ByCite) undisambiguated (anna ∷ [])) { index = 1 } ∷ member 1 (Some rules.ByCite) undisambiguated (bert ∷ []) ∷ [])
    (member 0 (Some rules.ByCite) undisambiguated (anna ∷ []))
    ≡ false
unfolding member anna bert person
against_all = refl

-- there the others are those at other indices
by_index : (ms : List Member) (m : Member) → others ms (record m { cite = record m.cite { same_entry_is_no_rival = false } }) ≡ filter (λ o. not (o.index == m.index)) ms
by_index ms m = refl
