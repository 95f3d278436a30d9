-- Entries, and the fields beside them.
use Rattle.std.proofs.Common.{◌≡◌, ℕ, zero, suc, ◌+◌, ◌<◌, ◌++◌, List, [], ◌∷◌, length, Bool, true, false, cond, take, get_or, slice_get, Some, None, Vec, Global, option_map, string_bytes, bytes_eq, refl, sym, ap, ◌∙◌, arith}
use Rattle.std.specs.Prelude.{if◌then◌else◌}
use Rattle.std.proofs.lemmas.List.{length-map, take_more}
use Rattle.std.proofs.lemmas.Option.{slice_get-map}
use Rattle.biblatex_text.specs.declared.spanned.Spanned.{Spanned}
use Rattle.biblatex_content.specs.declared.chunk.Chunk.{Chunk}
use Rattle.biblatex_fields.specs.Fields.{Named, value_named}
use Rattle.biblatex_fields.specs.Value.{field_value_view}
use Rattle.biblatex_fields.proofs.FieldsLookUps.{put_found}
use Rattle.biblatex_entries.specs.Entries.{Source, source_view, sources_view}
use Rattle.biblatex_entries.specs.declared.entry.Entry.{Entry}
use Rattle.biblatex_inherited_fields.specs.Offered.{first}
use Rattle.biblatex_inherited_fields.specs.Views.{PassesOn}
use Rattle.biblatex_inheritance.proofs.ResolvedReferences.{first_twice}
use Rattle.biblatex_suppliers.specs.Written.{value_beside, with_shared, entry_with, all_with, written_view, beside, shared_named}
use Rattle.biblatex_suppliers.specs.declared.shared.Shared.{Shared}
use Rattle.biblatex_suppliers.specs.declared.shared.Written.{Written}

-- as many entries with the fields beside them as without
pub all_long : (es : List Source) (vs : List (Vec Shared Global)) → length (all_with es vs) ≡ length es
all_long [] vs = refl
all_long (e ∷ es) [] = ap suc (all_long es [])
all_long (e ∷ es) (v ∷ vs) = ap suc (all_long es vs)

pub written_long : (w : Written) → length (written_view w) ≡ length w.entries.items
written_long w = all_long (sources_view w.entries.items) w.shared.items ∙ length-map w.entries.items source_view

-- the entry of a number
all_at : (es : List Source) (vs : List (Vec Shared Global)) (n : ℕ) → slice_get (all_with es vs) n ≡ option_map (λ e. entry_with e (beside vs n)) (slice_get es n)
all_at [] vs n = refl
all_at (e ∷ es) [] zero = refl
all_at (e ∷ es) [] (suc n) = all_at es [] n
all_at (e ∷ es) (v ∷ vs) zero = refl
all_at (e ∷ es) (v ∷ vs) (suc n) = all_at es vs n

pub written_there : (w : Written) (n : ℕ) (e : Entry) → slice_get w.entries.items n ≡ Some e → slice_get (written_view w) n ≡ Some (entry_with (source_view e) (beside w.shared.items n))
written_there w n e at =
    let vs = w.shared.items in
    all_at (sources_view w.entries.items) vs n ∙ ap (option_map (λ (s : Source). entry_with s (beside vs n))) (slice_get-map source_view w.entries.items n ∙ ap (option_map source_view) at)

pub written_nowhere : (w : Written) (n : ℕ) → slice_get w.entries.items n ≡ None → slice_get (written_view w) n ≡ None
written_nowhere w n none =
    let vs = w.shared.items in
    all_at (sources_view w.entries.items) vs n ∙ ap (option_map (λ (s : Source). entry_with s (beside vs n))) (slice_get-map source_view w.entries.items n ∙ ap (option_map source_view) none)

-- one entry more, with the fields beside it
pub all_more : (es : List Source) (vs : List (Vec Shared Global)) (e : Source) (v : Vec Shared Global) → length es ≡ length vs → all_with (es ++ e ∷ []) (vs ++ v ∷ []) ≡ all_with es vs ++ entry_with e v.items ∷ []
all_more [] [] e v long = refl
all_more [] (w ∷ vs) e v long = absurd (omega (arith, long))
all_more (d ∷ es) [] e v long = absurd (omega (arith, long))
all_more (d ∷ es) (w ∷ vs) e v long = ap (λ (xs : List Source). entry_with d w.items ∷ xs) (all_more es vs e v (omega (arith, long)))

-- what a look-up finds in fields with those beside them
pub shared_found : (fs : List Named) (ss : List Shared) (q : List ℕ) → value_named q (with_shared fs ss) ≡ first (shared_named q ss) (value_named q fs)
shared_found fs [] q = refl
shared_found fs (s ∷ ss) q = put_found (with_shared fs ss) (string_bytes s.name) (value_beside s) q ∙ by (bytes_eq q (string_bytes s.name)) (shared_found fs ss q)
  where
    by : (b : Bool) → value_named q (with_shared fs ss) ≡ first (shared_named q ss) (value_named q fs)
        → cond b (Some (value_beside s)) (value_named q (with_shared fs ss)) ≡ first (if b then Some (value_beside s) else shared_named q ss) (value_named q fs)
    by true more = refl
    by false more = more

-- the value of one field more at the end
named_last : (ss : List Shared) (s : Shared) (q : List ℕ) → shared_named q (ss ++ s ∷ []) ≡ first (shared_named q ss) (if bytes_eq q (string_bytes s.name) then Some (value_beside s) else None)
named_last [] s q = refl
named_last (x ∷ ss) s q = by (bytes_eq q (string_bytes x.name)) (named_last ss s q)
  where
    by : (b : Bool) → shared_named q (ss ++ s ∷ []) ≡ first (shared_named q ss) (if bytes_eq q (string_bytes s.name) then Some (value_beside s) else None)
        → (if b then Some (value_beside x) else shared_named q (ss ++ s ∷ [])) ≡ first (if b then Some (value_beside x) else shared_named q ss) (if bytes_eq q (string_bytes s.name) then Some (value_beside s) else None)
    by true more = refl
    by false more = more

-- the fields before an index are passed on, and the one at it
pub shared_more : (ss : List Shared) (k : ℕ) (s : Shared) (old cur new : List Named) (name : List ℕ) (cs : List (Spanned Chunk)) → k < length ss → s ≡ get_or ss k s → PassesOn old cur (λ q. shared_named q (take k ss)) → name ≡ string_bytes s.name
    → field_value_view cs ≡ value_beside s → PassesOn cur new (λ q. if bytes_eq q name then Some (field_value_view cs) else None) → PassesOn old new (λ q. shared_named q (take (k + 1) ss))
shared_more ss k s old cur new name cs low at before is_name is_value one q =
    let there : take (k + 1) ss ≡ take k ss ++ s ∷ [] = take_more ss k s low ∙ ap (λ (x : Shared). take k ss ++ x ∷ []) (sym at) in
    one q
    ∙ ((λ i. first (before q i) (if bytes_eq q (is_name i) then Some (is_value i) else None))
    ∙ (first_twice (value_named q old) (shared_named q (take k ss)) (if bytes_eq q (string_bytes s.name) then Some (value_beside s) else None)
    ∙ ap (first (value_named q old)) (sym (ap (shared_named q) there ∙ named_last (take k ss) s q))))
