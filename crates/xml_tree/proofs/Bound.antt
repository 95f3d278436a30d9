-- What an element binds prefixes to, binding after binding.
use Rattle.std.proofs.Common.{◌≡◌, ℕ, Bool, true, false, cond, List, [], Option, Some, None, refl, sym, ap, ◌∙◌}
use Rattle.std.proofs.Math.Path.{fun_ext}
use Rattle.std.proofs.lemmas.Map.Text.{btree_map_updates_str}
use Rattle.std.specs.Global.{Global}
use Rattle.std.specs.Borrow.{Bor}
use Rattle.std.specs.Option.{option_map, option_copied}
use Rattle.std.specs.Str.{bytes_eq, IsUtf8, chars}
use Rattle.std.specs.Ordering.{nat_cmp}
use Rattle.std.specs.Cmp.Lexicographic.{slice_cmp}
use Rattle.std.specs.Map.{lookup}
use Rattle.std.specs.BTreeMap.{BTreeMap, get_by, is_at, Updates}
use Rattle.std.specs.declared.cmp.Ordering.{Ordering}
use Rattle.std.specs.declared.rc.RcStr.{RcStr}
use Rattle.laws.specs.Text.{text}
use Rattle.laws.proofs.Text.{text_of_chars}
use Rattle.xml_tree.specs.Met.{text_cmp}
use Rattle.xml_tree.specs.Scope.{unbound, bound, bound_prefix}
use Rattle.xml_tree.specs.Views.{space_view, prefix_space, bindings_view}
use Rattle.xml_tree.specs.declared.bindings.Bindings.{Bindings}

-- a namespace or none, shared
abbrev Space : Type 0
Space = Option (RcStr Global)

abbrev Prefixes : Type 0
Prefixes = BTreeMap (Bor (List ℕ)) Space

-- the comparison with a text
abbrev to_text : List ℕ → Bor (List ℕ) → Ordering
to_text bs k = slice_cmp nat_cmp bs k.now

pub copied_space : (r : Option (Bor Space)) → option_map (λ s. space_view s.now) r ≡ option_map space_view (option_copied r)
copied_space None = refl
copied_space (Some s) = refl

pub prefix_found : (m : Prefixes) (q : Bor (List ℕ)) (r : Option (Bor Space)) → IsUtf8 q.now → option_copied r ≡ get_by (to_text q.now) m
    → option_map (λ s. space_view s.now) r ≡ prefix_space m (chars q.now)
prefix_found m q r u e =
    copied_space r ∙ (ap (option_map space_view) e ∙ ap (λ (bs : List ℕ). option_map space_view (get_by (to_text bs) m)) (sym (text_of_chars q.now u)))

map_cond : (b : Bool) (s : Space) (r : Option Space) → option_map space_view (cond b (Some s) r) ≡ cond b (Some (space_view s)) (option_map space_view r)
map_cond true s r = refl
map_cond false s r = refl

pub prefix_bound : (m n : Prefixes) (q : Bor (List ℕ)) (s : Space) → IsUtf8 q.now → Updates text_cmp m n q (Some s)
    → (p : List ℕ) → prefix_space n p ≡ bound_prefix (chars q.now) (space_view s) (prefix_space m) p
prefix_bound m n q s u updates p =
    ap (option_map space_view) (btree_map_updates_str q.now m n (Some s) updates (text p))
    ∙ (map_cond (bytes_eq q.now (text p)) s (get_by (to_text (text p)) m)
    ∙ ap (λ (bs : List ℕ). cond (bytes_eq bs (text p)) (Some (space_view s)) (prefix_space m p)) (sym (text_of_chars q.now u)))

pub all_unbound : (b : Bindings) → b.default_space ≡ None → b.prefixes.entries ≡ [] → bindings_view b ≡ unbound
all_unbound b none empty = fun_ext at
  where
    at : (q : Option (List ℕ)) → bindings_view b q ≡ None
    at None = ap (option_map space_view) none
    at (Some p) = ap (λ (es : List (Bor (List ℕ) × Space)). option_map space_view (lookup (is_at (to_text (text p))) es)) empty

pub default_bound : (b n : Bindings) (s : Space) → n.default_space ≡ Some s → n.prefixes ≡ b.prefixes → bindings_view n ≡ bound None (space_view s) (bindings_view b)
default_bound b n s is same = fun_ext at
  where
    at : (q : Option (List ℕ)) → bindings_view n q ≡ bound None (space_view s) (bindings_view b) q
    at None = ap (option_map space_view) is
    at (Some p) = ap (λ (m : Prefixes). prefix_space m p) same

pub some_bound : (b n : Bindings) (p : List ℕ) (space : Option (List ℕ)) → n.default_space ≡ b.default_space → ((q : List ℕ) → prefix_space n.prefixes q ≡ bound_prefix p space (prefix_space b.prefixes) q)
    → bindings_view n ≡ bound (Some p) space (bindings_view b)
some_bound b n p space same others = fun_ext at
  where
    at : (q : Option (List ℕ)) → bindings_view n q ≡ bound (Some p) space (bindings_view b) q
    at None = ap (option_map space_view) same
    at (Some q) = others q
