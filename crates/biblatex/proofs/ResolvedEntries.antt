-- Entries whose references are resolved, without where they lie in memory.
use Rattle.std.proofs.Common.{◌≡◌, ℕ, suc, ◌<◌, List, [], ◌∷◌, length, map, Option, Some, None, option_map, slice_get, Vec, Global, string_bytes, refl, sym, ap, subst, ◌∙◌}
use Rattle.std.proofs.Math.Path.{fun_ext}
use Rattle.std.proofs.lemmas.List.{length-map}
use Rattle.std.proofs.lemmas.Option.{slice_get-map}
use Rattle.std.specs.Prelude.{IfSome}
use Rattle.biblatex_fields.specs.Fields.{AreInOrder}
use Rattle.biblatex_entries.specs.TypeNames.{TypeName, type_name}
use Rattle.biblatex_entries.specs.Entries.{Source, source_view, sources_view}
use Rattle.biblatex_entries.specs.declared.entry.Entry.{Entry}
use Rattle.biblatex_inheritance.specs.Resolved.{Table}
use Rattle.biblatex_inheritance.specs.Solution.{Solves, IsOnly, NoneIsCircular, fault_at, tables_view, entry_table_view, HaveSameHeads, AreOrdered, IsRefusedAs}
use Rattle.biblatex_inheritance.specs.declared.error.ResolveError.{ResolveError}
use Rattle.biblatex_meaning.specs.Listed.{Listed, references}
use Rattle.biblatex_meaning.specs.Resolved.{head, table_of, tables, IsResolved}

-- entries with the same heads, one by one
pub heads_same : (old new : List Entry) → HaveSameHeads old new → map head (sources_view new) ≡ map head (sources_view old)
heads_same [] [] same_heads = refl
heads_same [] (d ∷ ds) same_heads = absurd (same_heads 0)
heads_same (e ∷ es) [] same_heads = absurd (same_heads 0)
heads_same (e ∷ es) (d ∷ ds) same_heads = same (string_bytes d.key) (string_bytes e.key) (type_name d.entry_type) (type_name e.entry_type) _ _ (same_heads 0).0 (same_heads 0).1 (heads_same es ds (λ i. same_heads (suc i)))
  where
    same : (k l : List ℕ) (s t : TypeName) (xs ys : List (List ℕ × TypeName)) → k ≡ l → s ≡ t → xs ≡ ys → (k, s) ∷ xs ≡ (l, t) ∷ ys
    same k l s t xs ys a b c = rw (a, b, c) refl

pub same_length : (old new : List Entry) → HaveSameHeads old new → length (sources_view new) ≡ length (sources_view old)
same_length old new same_heads = sym (length-map (sources_view new) head) ∙ (ap length (heads_same old new same_heads) ∙ length-map (sources_view old) head)

-- fields are viewed the same in memory and without it
pub view_tables : (es : List Entry) → tables_view es ≡ tables (sources_view es)
view_tables es = fun_ext (λ i. fun_ext (λ name. at (slice_get es i) name ∙ ap (λ (o : Option Source). table_of o name) (sym (slice_get-map source_view es i))))
  where
    at : (o : Option Entry) (name : List ℕ) → entry_table_view o name ≡ table_of (option_map source_view o) name
    at None name = refl
    at (Some e) name = refl

-- all that resolving promises, of entries without where they lie in memory
pub resolved_is : (read : Listed) (old new : List Entry) (R : List (List ℕ)) → sources_view old ≡ read.entries → R ≡ references read → HaveSameHeads old new
    → Solves (sources_view old) R (tables_view new) → IsOnly (sources_view old) R (tables_view new) → NoneIsCircular R → ((i : ℕ) → i < length old → fault_at (sources_view old) R (tables_view new) i ≡ None) → AreOrdered new
    → IsResolved read (record { entries = sources_view new; index = read.index })
resolved_is read old new R is_old is_R same_heads solved only acyclic readable ordered = record {
  heads = heads_same old new same_heads ∙ ap (map head) is_old;
  index = refl;
  equation = by_equal (λ es rs see. Solves es rs see) is_old is_R (view_tables new) solved;
  only = by_equal (λ es rs see. IsOnly es rs see) is_old is_R (view_tables new) only;
  ordered = λ i. subst (λ (o : Option Source). IfSome o (λ e. AreInOrder e.fields)) (sym (slice_get-map source_view new i)) (in_order_there (slice_get new i) (ordered i));
  acyclic = subst NoneIsCircular is_R acyclic;
  readable = by_equal (λ es rs see. (i : ℕ) → i < length es → fault_at es rs see i ≡ None) is_old is_R (view_tables new) (λ i low. readable i (subst (λ (n : ℕ). i < n) (length-map old source_view) low));
}
  where
    in_order_there : (o : Option Entry) → IfSome o (λ e. AreInOrder e.fields) → IfSome (option_map source_view o) (λ e. AreInOrder e.fields)
    in_order_there None h = tt
    in_order_there (Some e) h = h

    by_equal : (P : List Source → List (List ℕ) → (ℕ → Table) → Type 0) {es fs : List Source} {rs ss : List (List ℕ)} {see other : ℕ → Table} → es ≡ fs → rs ≡ ss → see ≡ other → P es rs see → P fs ss other
    by_equal P {es} {fs} {rs} {ss} {see} {other} a b c p = subst (λ (x : List Source). P x ss other) a (subst (λ (x : List (List ℕ)). P es x other) b (subst (λ (x : ℕ → Table). P es rs x) c p))

-- as many references as entries
pub references_long : (now refs : List (Vec ℕ Global)) (read : Listed) (old : List Entry) → now ≡ refs → map (λ (v : Vec ℕ Global). v.items) refs ≡ references read → sources_view old ≡ read.entries → length now ≡ length old
references_long now refs read old is same is_old =
    ap length is ∙ (sym (length-map refs (λ (v : Vec ℕ Global). v.items)) ∙ (ap length same ∙ (length-map read.entries _ ∙ (ap length (sym is_old) ∙ length-map old source_view))))

-- why entries are refused, of entries without where they lie in memory
pub refused_is : (read : Listed) (es : List Source) (R : List (List ℕ)) (e : ResolveError) → es ≡ read.entries → R ≡ references read → IsRefusedAs es R e → IsRefusedAs read.entries (references read) e
refused_is read es R e is_es is_R is = subst (λ (x : List Source). IsRefusedAs x (references read) e) is_es (subst (λ (x : List (List ℕ)). IsRefusedAs es x e) is_R is)
