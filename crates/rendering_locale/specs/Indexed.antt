-- An index of terms by their names and forms. Names of one word are one, as `is_term` has it.
use Rattle.std.specs.Prelude.{◌≡◌, ℕ, Bool, ◌&&◌, List, Option}
use Rattle.std.specs.BTreeMap.{BTreeMap, get}
use Rattle.std.specs.List.{position}
use Rattle.std.specs.Ordering.{nat_cmp, ordering_then}
use Rattle.std.specs.declared.cmp.Ordering.{Ordering}
use Rattle.rendering_taxonomy.specs.Terms.{canonical, term_index, is_term, form_index, is_form}
use Rattle.rendering_taxonomy.specs.declared.term.Term.{Term}
use Rattle.rendering_taxonomy.specs.declared.term.TermForm.{TermForm}
use Rattle.rendering_locale.specs.Locales.{LocalizedTerm}

-- what a term in a form is looked up by: the index of its word, and the index of the form
abbrev pub term_key : Term → TermForm → ℕ × ℕ
term_key name form = (term_index (canonical name), form_index form)

-- how these are ordered: by words, and then by forms
abbrev pub key_cmp : ℕ × ℕ → ℕ × ℕ → Ordering
key_cmp k l = ordering_then (nat_cmp k.0 l.0) (nat_cmp k.1 l.1)

-- the place that an index has for a name and a form
abbrev pub place_of : BTreeMap (ℕ × ℕ) ℕ → Term → TermForm → Option ℕ
place_of index name form = get key_cmp index (term_key name form)

-- whether a term has that name and form
abbrev pub is_named : Term → TermForm → LocalizedTerm → Bool
is_named name form t = is_term t.name name && is_form t.form form

-- an index has for each name and form the place of the first of these terms that has them, and nothing where none has
abbrev pub IsIndex : BTreeMap (ℕ × ℕ) ℕ → List LocalizedTerm → Type 0
IsIndex index ts = (name : Term) (form : TermForm) → place_of index name form ≡ position (is_named name form) ts
