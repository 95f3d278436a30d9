-- Names that reach entries that say the same mean resolved entries that say the same.
use Rattle.std.proofs.Common.{◌≡◌, ℕ, zero, suc, ◌<◌, codes, List, [], ◌∷◌, ◌++◌, map, length, slice_get, Option, Some, None, refl, sym, ap, subst, ◌∙◌, arith}
use Rattle.std.specs.Prelude.{IfSome, Contains, filter_map, option_and_then, option_to_list}
use Rattle.std.specs.List.{AllByRecursion, AllZip, cons_option, flat_map}
use Rattle.std.specs.Option.{option_map}
use Rattle.std.proofs.lemmas.List.{get_or-map, length-map}
use Rattle.std.proofs.lemmas.List.Elements.{All-contains_itself, All-weaker, recursion_from_All}
use Rattle.std.proofs.lemmas.Option.{get_or_from_slice_get, same_Some, slice_get-map, slice_get_within}
use Rattle.reference_graph.specs.References.{references_of}
use Rattle.biblatex_fields.proofs.AbbreviationsGraph.{contains_flat_map}
use Rattle.biblatex_entries.specs.Entries.{Source, parents_of, text_in}
use Rattle.biblatex_entries.specs.Names.{listed, trimmed}
use Rattle.biblatex_entries.specs.Roles.{role_of}
use Rattle.biblatex_inheritance.specs.Resolved.{Table, Offer, offer_if, offers, resolved}
use Rattle.biblatex_meaning.specs.Listed.{Listed, references, entry_named}
use Rattle.biblatex_meaning.specs.Resolved.{IsResolved, head, table_of, tables}
use Rattle.biblatex_meaning.proofs.Depth.{depth, less_deep}
use Rattle.biblatex_laws.specs.Reached.{IsReached, MeansTheSame, SaysTheSame, SayTheSame, SayTheSameOf, ReachedNamesMeanTheSame}
use Rattle.biblatex_laws.proofs.TextsResolved.{OffersTheSame, SameTexts, resolved_same, text_of}

-- what holds of a value that is there
at_some : {X : Type 0} (P : X → Type 0) (o : Option X) (x : X) → o ≡ Some x → IfSome o P → P x
at_some P o x is h = let g : IfSome (Some x) P = subst (λ p. IfSome p P) is h in g

-- entries that say the same refer to the same names
pub parents_same : (e f : Source) → SaysTheSame e f → parents_of e.fields ≡ parents_of f.fields
parents_same e f h = λ i. trimmed (text_in (h.texts (codes "crossref") i)) ++ listed (text_in (h.texts (codes "xdata") i))

-- the references of an entry
references_at : (b : Listed) (i : ℕ) (e : Source) → slice_get b.entries i ≡ Some e → references_of (references b) i ≡ filter_map b.index (parents_of e.fields)
references_at b i e is =
    get_or-map (λ (f : Source). filter_map b.index (parents_of f.fields)) b.entries i e [] (slice_get_within b.entries i e is)
    ∙ ap (λ (f : Source). filter_map b.index (parents_of f.fields)) (get_or_from_slice_get b.entries i e e is)

-- what is found of a name is found among all
as_flat : {X Y : Type 0} (f : X → Option Y) (xs : List X) → flat_map (λ x. option_to_list (f x)) xs ≡ filter_map f xs
as_flat f [] = refl
as_flat {X} {Y} f (x ∷ xs) = by (f x) ∙ ap (cons_option (f x)) (as_flat f xs)
  where
    by : (o : Option Y) → option_to_list o ++ flat_map (λ y. option_to_list (f y)) xs ≡ cons_option o (flat_map (λ y. option_to_list (f y)) xs)
    by None = refl
    by (Some y) = refl

found_among : {X Y : Type 0} (f : X → Option Y) (xs : List X) (x : X) (y : Y) → Contains xs x → f x ≡ Some y → Contains (filter_map f xs) y
found_among {X} {Y} f xs x y has is =
    subst (λ (ys : List Y). Contains ys y) (as_flat f xs)
    (contains_flat_map (λ z. option_to_list (f z)) xs x y has (subst (λ (o : Option Y). Contains (option_to_list o) y) (sym is) (0, omega arith, refl)))

-- what the entry of an index offers, if there is one
offer_at : List Source → (ℕ → Table) → Option ℕ → List Offer
offer_at es see None = []
offer_at es see (Some r) = offer_if r (slice_get es r) (see r)

first_offered : (es : List Source) (see : ℕ → Table) (o : Option ℕ) (rs : List ℕ) → offers es see (cons_option o rs) ≡ offer_at es see o ++ offers es see rs
unfolding offer_at
first_offered es see None rs = refl
first_offered es see (Some r) rs = refl

zip_joined : {A B : Type 0} (R : A → B → Type 0) (ws xs : List A) (ys zs : List B) → AllZip R ws ys → AllZip R xs zs → AllZip R (ws ++ xs) (ys ++ zs)
zip_joined R [] xs [] zs h g = g
zip_joined R [] xs (y ∷ ys) zs h g = absurd h
zip_joined R (w ∷ ws) xs [] zs h g = absurd h
zip_joined R (w ∷ ws) xs (y ∷ ys) zs h g = (h.0, zip_joined R ws xs ys zs h.1 g)

module _ (a b : Listed) (see look : ℕ → Table) where
  -- what two indices lead to says the same, before references are resolved and after
  abbrev IndicesAgree : Option ℕ → Option ℕ → Type 0
  IndicesAgree o p =
      (r s : ℕ) (e f : Source) → o ≡ Some r → p ≡ Some s → slice_get a.entries r ≡ Some e → slice_get b.entries s ≡ Some f → SaysTheSame e f → SameTexts (see r) (look s)

  entries_offer : (r s : ℕ) (m n : Option Source) → SayTheSame m n → ((e f : Source) → m ≡ Some e → n ≡ Some f → SaysTheSame e f → SameTexts (see r) (look s))
      → AllZip OffersTheSame (offer_if r m (see r)) (offer_if s n (look s))
  entries_offer r s None None says h = tt
  entries_offer r s None (Some f) says h = absurd says
  entries_offer r s (Some e) None says h = absurd says
  entries_offer r s (Some e) (Some f) says h = (record { role = ap role_of says.entry_type; texts = h e f refl refl says }, tt)

  none_offer : (s : ℕ) (n : Option Source) → SayTheSame None n → AllZip OffersTheSame [] (offer_if s n (look s))
  none_offer s None says = tt
  none_offer s (Some f) says = absurd says

  offer_none : (r : ℕ) (m : Option Source) → SayTheSame m None → AllZip OffersTheSame (offer_if r m (see r)) []
  offer_none r None says = tt
  offer_none r (Some e) says = absurd says

  indices_offer : (o p : Option ℕ) → SayTheSame (option_and_then (slice_get a.entries) o) (option_and_then (slice_get b.entries) p) → IndicesAgree o p
      → AllZip OffersTheSame (offer_at a.entries see o) (offer_at b.entries look p)
  unfolding offer_at
  indices_offer None None says h = tt
  indices_offer None (Some s) says h = none_offer s (slice_get b.entries s) says
  indices_offer (Some r) None says h = offer_none r (slice_get a.entries r) says
  indices_offer (Some r) (Some s) says h = entries_offer r s (slice_get a.entries r) (slice_get b.entries s) says (λ e f at too same. h r s e f refl refl at too same)

  -- names that mean the same offer the same
  offers_same : (ps : List (List ℕ)) → AllByRecursion (λ p. MeansTheSame a b p × IndicesAgree (a.index p) (b.index p)) ps
      → AllZip OffersTheSame (offers a.entries see (filter_map a.index ps)) (offers b.entries look (filter_map b.index ps))
  offers_same [] h = tt
  offers_same (p ∷ ps) h =
      subst (λ (os : List Offer). AllZip OffersTheSame os (offers b.entries look (filter_map b.index (p ∷ ps)))) (sym (first_offered a.entries see (a.index p) (filter_map a.index ps)))
      (subst (λ (os : List Offer). AllZip OffersTheSame (offer_at a.entries see (a.index p) ++ offers a.entries see (filter_map a.index ps)) os) (sym (first_offered b.entries look (b.index p) (filter_map b.index ps)))
      (zip_joined OffersTheSame (offer_at a.entries see (a.index p)) (offers a.entries see (filter_map a.index ps)) (offer_at b.entries look (b.index p)) (offers b.entries look (filter_map b.index ps))
      (indices_offer (a.index p) (b.index p) h.0.0 h.0.1) (offers_same ps h.1)))

no_some : {X : Type 0} (x : X) (P : Type 0) → None ≡ Some x → P
no_some x P e = absurd cc

-- entries that keep their heads once references are resolved
heads_at : (old new : List Source) → map head new ≡ map head old → (i : ℕ) → option_map head (slice_get new i) ≡ option_map head (slice_get old i)
heads_at old new heads i = sym (slice_get-map head new i) ∙ ap (λ hs. slice_get hs i) heads ∙ slice_get-map head old i

-- entries that said the same and have the same texts now
carried : (m n o p : Option Source) → option_map head o ≡ option_map head m → option_map head p ≡ option_map head n → SayTheSame m n
    → ((e f : Source) → m ≡ Some e → n ≡ Some f → SaysTheSame e f → SameTexts (table_of o) (table_of p)) → SayTheSame o p
carried None None None None first second says texts = tt
carried None None None (Some y) first second says texts = absurd cc
carried None None (Some x) p first second says texts = absurd cc
carried None (Some f) o p first second says texts = absurd says
carried (Some e) None o p first second says texts = absurd says
carried (Some e) (Some f) None p first second says texts = absurd cc
carried (Some e) (Some f) (Some x) None first second says texts = absurd cc
carried (Some e) (Some f) (Some x) (Some y) first second says texts =
    let one : head x ≡ head e = same_Some (head x) (head e) first in
    let other : head y ≡ head f = same_Some (head y) (head f) second in
    record {
      key = (λ i. (one i).0) ∙ says.key ∙ sym (λ i. (other i).0);
      entry_type = (λ i. (one i).1) ∙ says.entry_type ∙ sym (λ i. (other i).1);
      texts = texts e f refl refl says;
    }

module _ (names : List (List ℕ)) (a b x y : Listed) (first : IsResolved a x) (second : IsResolved b y) (same : SayTheSameOf names a b) where
  -- a reference is less deep
  less : (i r : ℕ) (e g : Source) (p : List ℕ) → slice_get a.entries i ≡ Some e → slice_get a.entries r ≡ Some g → a.index p ≡ Some r → Contains (parents_of e.fields) p
      → (n : ℕ) → depth (references a) i < suc n → depth (references a) r < n
  less i r e g p is_e is_g at_r has n low =
      let refers : Contains (references_of (references a) i) r = subst (λ (rs : List ℕ). Contains rs r) (sym (references_at a i e is_e)) (found_among a.index (parents_of e.fields) p r has at_r) in
      let within : r < length a.entries = slice_get_within a.entries r g is_g in
      let long : length (references a) ≡ length a.entries = length-map a.entries (λ (d : Source). filter_map a.index (parents_of d.fields)) in
      let there : r < length (references a) = omega (arith, within, long) in
      let step : depth (references a) r < depth (references a) i = less_deep (references a) i r (first.acyclic r) refers there in
      omega (arith, step, low)

  -- what is known of each reference of an entry
  abbrev OfReference : List ℕ → Type 0
  OfReference p = MeansTheSame a b p × IndicesAgree a b (tables x.entries) (tables y.entries) (a.index p) (b.index p)

  equation_first : (i : ℕ) (e : Source) → slice_get a.entries i ≡ Some e → (q : List ℕ) → tables x.entries i q ≡ resolved e (offers a.entries (tables x.entries) (filter_map a.index (parents_of e.fields))) q
  equation_first i e is q =
      at_some (λ (d : Source). (name : List ℕ) → tables x.entries i name ≡ resolved d (offers a.entries (tables x.entries) (references_of (references a) i)) name) (slice_get a.entries i) e is (first.equation i) q
      ∙ ap (λ (rs : List ℕ). resolved e (offers a.entries (tables x.entries) rs) q) (references_at a i e is)

  equation_second : (j : ℕ) (f : Source) → slice_get b.entries j ≡ Some f → (q : List ℕ) → tables y.entries j q ≡ resolved f (offers b.entries (tables y.entries) (filter_map b.index (parents_of f.fields))) q
  equation_second j f is q =
      at_some (λ (d : Source). (name : List ℕ) → tables y.entries j name ≡ resolved d (offers b.entries (tables y.entries) (references_of (references b) j)) name) (slice_get b.entries j) f is (second.equation j) q
      ∙ ap (λ (rs : List ℕ). resolved f (offers b.entries (tables y.entries) rs) q) (references_at b j f is)

  by_references : (i j : ℕ) (e f : Source) → slice_get a.entries i ≡ Some e → slice_get b.entries j ≡ Some f → SaysTheSame e f → AllByRecursion OfReference (parents_of e.fields)
      → SameTexts (tables x.entries i) (tables y.entries j)
  by_references i j e f is_e is_f says each q =
      let parents : parents_of e.fields ≡ parents_of f.fields = parents_same e f says in
      ap text_of (equation_first i e is_e q)
      ∙ resolved_same e f says (offers a.entries (tables x.entries) (filter_map a.index (parents_of e.fields))) (offers b.entries (tables y.entries) (filter_map b.index (parents_of e.fields)))
      (offers_same a b (tables x.entries) (tables y.entries) (parents_of e.fields) each) q
      ∙ ap (λ (ps : List (List ℕ)). text_of (resolved f (offers b.entries (tables y.entries) (filter_map b.index ps)) q)) parents
      ∙ sym (ap text_of (equation_second j f is_f q))

  -- by how deep the entry of a name is
  deep_alike : (n : ℕ) (name : List ℕ) → IsReached a names name → (i j : ℕ) (e f : Source) → a.index name ≡ Some i → b.index name ≡ Some j
      → slice_get a.entries i ≡ Some e → slice_get b.entries j ≡ Some f → SaysTheSame e f → depth (references a) i < n → SameTexts (tables x.entries i) (tables y.entries j)
  deep_alike zero name reached i j e f at_i at_j is_e is_f says low = absurd (omega (arith, low))
  deep_alike (suc n) name reached i j e f at_i at_j is_e is_f says low =
      let ps : List (List ℕ) = parents_of e.fields in
      let on : (p : List ℕ) → Contains ps p → IsReached a names p =
      λ p has. (suc reached.0, (name, e, reached.1, ap (option_and_then (slice_get a.entries)) at_i ∙ is_e, has)) in
      let of_each : (p : List ℕ) → Contains ps p → OfReference p =
      λ p has. (same p (on p has), λ r s g h at_r at_s is_g is_h more. deep_alike n p (on p has) r s g h at_r at_s is_g is_h more (less i r e g p is_e is_g at_r has n low)) in
      by_references i j e f is_e is_f says (recursion_from_All OfReference ps (All-weaker (Contains ps) OfReference of_each ps (All-contains_itself ps)))

  -- a name that means an entry in both
  texts_alike : (name : List ℕ) → IsReached a names name → (r s : ℕ) → a.index name ≡ Some r → b.index name ≡ Some s → (e f : Source)
      → slice_get a.entries r ≡ Some e → slice_get b.entries s ≡ Some f → SaysTheSame e f → SameTexts (tables x.entries r) (tables y.entries s)
  texts_alike name reached r s at_r at_s e f is_e is_f says =
      deep_alike (suc (depth (references a) r)) name reached r s e f at_r at_s is_e is_f says (omega arith)

  by_indices : (name : List ℕ) → IsReached a names name → (o p : Option ℕ) → a.index name ≡ o → b.index name ≡ p
      → SayTheSame (option_and_then (slice_get a.entries) o) (option_and_then (slice_get b.entries) p) → SayTheSame (option_and_then (slice_get x.entries) o) (option_and_then (slice_get y.entries) p)
  by_indices name reached None None is too says = tt
  by_indices name reached None (Some s) is too says =
      carried None (slice_get b.entries s) None (slice_get y.entries s) refl (heads_at b.entries y.entries second.heads s) says
      (λ e f none at more. no_some e (SameTexts (table_of None) (table_of (slice_get y.entries s))) none)
  by_indices name reached (Some r) None is too says =
      carried (slice_get a.entries r) None (slice_get x.entries r) None (heads_at a.entries x.entries first.heads r) refl says
      (λ e f at none more. no_some f (SameTexts (table_of (slice_get x.entries r)) (table_of None)) none)
  by_indices name reached (Some r) (Some s) is too says =
      carried (slice_get a.entries r) (slice_get b.entries s) (slice_get x.entries r) (slice_get y.entries s) (heads_at a.entries x.entries first.heads r) (heads_at b.entries y.entries second.heads s) says
      (texts_alike name reached r s is too)

  pub alike_there : (name : List ℕ) → IsReached a names name → MeansTheSame x y name
  alike_there name reached =
      let one : entry_named name x ≡ option_and_then (slice_get x.entries) (a.index name) = λ i. option_and_then (slice_get x.entries) (first.index i name) in
      let other : entry_named name y ≡ option_and_then (slice_get y.entries) (b.index name) = λ i. option_and_then (slice_get y.entries) (second.index i name) in
      subst (λ (o : Option Source). SayTheSame o (entry_named name y)) (sym one)
      (subst (λ (o : Option Source). SayTheSame (option_and_then (slice_get x.entries) (a.index name)) o) (sym other)
      (by_indices name reached (a.index name) (b.index name) refl refl (same name reached)))

pub reached_alike : ReachedNamesMeanTheSame
reached_alike names a b x y first second same name reached = alike_there names a b x y first second same name reached
