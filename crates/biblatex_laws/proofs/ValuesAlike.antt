-- Pieces that are the same but for where they stand give the same text in two lists of definitions that say the same of what they open.
use Rattle.std.proofs.Common.{◌≡◌, ℕ, zero, suc, ◌<◌, drop, Bool, true, false, true≢false, List, [], ◌∷◌, ◌++◌, length, get_or, slice_get, Contains, Option, Some, None, Result, Ok, Err, refl, sym, ap, subst, ◌∙◌, arith}
use Rattle.std.specs.Prelude.{if◌then◌else◌, option_and_then}
use Rattle.std.specs.List.{AllByRecursion, flat_map}
use Rattle.std.specs.Option.{option_map, option_map_or}
use Rattle.std.specs.Str.{chars}
use Rattle.std.proofs.lemmas.List.{append-nil, length-map, map-append}
use Rattle.std.proofs.lemmas.List.Elements.{All-cons, All-contains, All-contains_itself, All-nil, All-weaker, recursion_from_All}
use Rattle.std.proofs.lemmas.Option.{same_Some}
use Rattle.laws.specs.Results.{◌>>=◌}
use Rattle.laws.specs.Text.{lowered}
use Rattle.laws.proofs.Results.{bind_ok, ok_is}
use Rattle.reference_graph.specs.References.{IsCircular}
use Rattle.biblatex_tex.specs.declared.error.ContentError.{ContentError}
use Rattle.biblatex_text.specs.Raw.{At, Piece, Field, normal, abbreviation}
use Rattle.biblatex_content.specs.Ordinary.{ordinary}
use Rattle.biblatex_content.specs.Spans.{after_at, all_at, without_spans}
use Rattle.biblatex_content.specs.Styled.{Member, letters}
use Rattle.biblatex_content.specs.Tidy.{tidied}
use Rattle.biblatex_content.specs.Verbatim.{is_verbatim_name, verbatim_text}
use Rattle.biblatex_content.specs.declared.chunk.Kind.TheVariants.{Verbatim}
use Rattle.biblatex_fields.specs.Month.{month}
use Rattle.biblatex_fields.specs.Abbreviations.{Glossary, AreFlags, circular, defined, index_of, indices, month_or_unknown, named, pieces_at, references, references_of, sense_in, sense_of}
use Rattle.biblatex_fields.specs.Refusals.{Refusal}
use Rattle.biblatex_fields.specs.Value.{Reading, Value, by_sense, in_order, members_of, read, spanned, text_read, value_from, value_in}
use Rattle.biblatex_fields.proofs.AbbreviationsGraph.{contains_flat_map, index_within, refers}
use Rattle.biblatex_fields.proofs.ValueStack.{by_the_rule}
use Rattle.biblatex_meaning.proofs.Depth.{depth, depth_upto, less_deep}
use Rattle.biblatex_laws.specs.Opened.{DefineAlike, IsOpenedAt, abbreviations_in, bare, definition_of, name_in}

-- what two readings gave, where neither was refused
abbrev Agree : Result (List (At Member)) Refusal → Result (List (At Member)) Refusal → Type 0
Agree r s = (ms ns : List (At Member)) → r ≡ Ok ms → s ≡ Ok ns → without_spans ms ≡ without_spans ns

-- spans are no part of members
bare_members : (start end : ℕ) (ms : List Member) → without_spans (all_at start end ms) ≡ ms
bare_members start end [] = refl
bare_members start end (m ∷ ms) = ap (λ ns. m ∷ ns) (bare_members start end ms)

more_members : (a b c d : ℕ) (done other : List (At Member)) (ms : List Member) → without_spans done ≡ without_spans other → without_spans (done ++ all_at a b ms) ≡ without_spans (other ++ all_at c d ms)
more_members a b c d done other ms same =
    map-append (λ m. m.v) done (all_at a b ms) ∙ (λ i. same i ++ (bare_members a b ms ∙ sym (bare_members c d ms)) i) ∙ sym (map-append (λ m. m.v) other (all_at c d ms))

done_same : (done other : List (At Member)) → without_spans done ≡ without_spans other → Agree (Ok done) (Ok other)
done_same done other same ms ns is too = ap without_spans (sym (ok_is {F = Refusal} done ms is)) ∙ same ∙ ap without_spans (ok_is {F = Refusal} other ns too)

text_same : (v : Bool) (a b c d : ℕ) (cs : List ℕ) (done other : List (At Member)) → without_spans done ≡ without_spans other → Agree (text_read v a b cs done) (text_read v c d cs other)
text_same true a b c d cs done other same = done_same (done ++ all_at a b (letters Verbatim (verbatim_text cs))) (other ++ all_at c d (letters Verbatim (verbatim_text cs))) (more_members a b c d done other (letters Verbatim (verbatim_text cs)) same)
text_same false a b c d cs done other same = by (ordinary cs)
  where
    by : (r : Result (List Member) ContentError) → Agree (spanned a b (after_at a b done r)) (spanned c d (after_at c d other r))
    by (Ok ms) = done_same (done ++ all_at a b ms) (other ++ all_at c d ms) (more_members a b c d done other ms same)
    by (Err f) = λ ms ns is too. absurd cc

-- pieces one after the other
order_same : (f h : At Piece → Reading) (ps qs : List (At Piece)) → bare ps ≡ bare qs
    → AllByRecursion (λ p. (q : At Piece) → p.v ≡ q.v → (done other : List (At Member)) → without_spans done ≡ without_spans other → Agree (f p done) (h q other)) ps
    → (done other : List (At Member)) → without_spans done ≡ without_spans other → Agree (in_order f ps done) (in_order h qs other)
order_same f h [] [] same each done other so_far = done_same done other so_far
order_same f h [] (q ∷ qs) same each done other so_far = absurd (let e : 0 ≡ suc (length (bare qs)) = ap length same in omega (arith, e))
order_same f h (p ∷ ps) [] same each done other so_far = absurd (let e : suc (length (bare ps)) ≡ 0 = ap length same in omega (arith, e))
order_same f h (p ∷ ps) (q ∷ qs) same each done other so_far = λ ms ns is too.
    let one = bind_ok (f p done) (λ ks. in_order f ps ks) ms is in
    let two = bind_ok (h q other) (λ ks. in_order h qs ks) ns too in
    order_same f h ps qs (ap (drop 1) same) each.1 one.0 two.0 (each.0 q (ap (λ vs. get_or vs 0 p.v) same) done other so_far one.0 two.0 one.1 two.1) ms ns one.2 two.2

-- definitions of a name
there : (ds : List Field) (i : ℕ) → i < length ds → option_map (λ (d : Field). bare d.value.v) (slice_get ds i) ≡ Some (bare (pieces_at ds i))
there [] i low = absurd (omega (arith, low))
there (d ∷ ds) zero low = refl
there (d ∷ ds) (suc i) low = there ds i (omega (arith, low))

at_index : (name : List ℕ) (ds : List Field) (i : ℕ) → index_of name ds ≡ Some i → definition_of name ds ≡ Some (bare (pieces_at ds i))
at_index name ds i is = ap (λ o. option_map (λ (d : Field). bare d.value.v) (option_and_then (slice_get ds) o)) is ∙ there ds i (index_within name ds i is)

at_none : (name : List ℕ) (ds : List Field) → index_of name ds ≡ None → definition_of name ds ≡ None
at_none name ds is = ap (λ o. option_map (λ (d : Field). bare d.value.v) (option_and_then (slice_get ds) o)) is

both_or_none : {x : List Piece} → None ≡ Some x → (P : Type 0) → P
both_or_none e P = absurd cc

-- names among pieces
flat_names : (ps : List (At Piece)) → flat_map (λ p. name_in p.v) ps ≡ abbreviations_in (bare ps)
flat_names [] = refl
flat_names (p ∷ ps) = ap (λ ns. name_in p.v ++ ns) (flat_names ps)

among_names : (ps : List (At Piece)) (r : At Piece) → Contains ps r → (name : List ℕ) → Contains (abbreviations_in (r.v ∷ [])) name → Contains (abbreviations_in (bare ps)) name
among_names ps r has name c =
    subst (λ (ns : List (List ℕ)). Contains ns name) (flat_names ps)
    (contains_flat_map (λ p. name_in p.v) ps r name has (subst (λ (ns : List (List ℕ)). Contains ns name) (append-nil (name_in r.v)) c))

named_within : (ds : List Field) (P : Piece) (i : ℕ) → Contains (named ds P) i → i < length ds
named_within ds (normal cs) i (k, low, e) = absurd (omega (arith, low))
named_within ds (abbreviation name) i c = by (index_of (lowered name) ds) refl c
  where
    by : (o : Option ℕ) → index_of (lowered name) ds ≡ o → Contains (indices o) i → i < length ds
    by None is (k, low, e) = absurd (omega (arith, low))
    by (Some j) is d = All-contains (λ x. x < length ds) (j ∷ []) i (All-cons (λ x. x < length ds) j [] (index_within (lowered name) ds j is) (All-nil (λ x. x < length ds))) d

-- Two glossaries whose flags are right.
module _ (g h : Glossary) (flags : AreFlags g.flags g.definitions) (flags_too : AreFlags h.flags h.definitions) (v : Bool) where
  -- a piece, and one that stands elsewhere, in glossaries that say the same of what it opens, where what it opens is so deep
  abbrev IsBelow : ℕ → At Piece → Type 0
  IsBelow n p = (index : ℕ) → Contains (named g.definitions p.v) index → get_or g.flags index false ≡ false → depth (references g.definitions) index < n

  abbrev AreOne : At Piece → Type 0
  AreOne p = (q : At Piece) → p.v ≡ q.v → (done other : List (At Member)) → without_spans done ≡ without_spans other → Agree (read g v p done) (read h v q other)

  abbrev AllAlike : ℕ → Type 0
  AllAlike n = (p : At Piece) → DefineAlike (p.v ∷ []) g.definitions h.definitions → IsBelow n p → AreOne p

  -- a piece that is a name
  named_same : (name : List ℕ) (a b c d : ℕ) (done other : List (At Member)) → without_spans done ≡ without_spans other → (o p : Option ℕ)
      → index_of (lowered name) g.definitions ≡ o → index_of (lowered name) h.definitions ≡ p → definition_of (lowered name) g.definitions ≡ definition_of (lowered name) h.definitions
      → ((i j : ℕ) → index_of (lowered name) g.definitions ≡ Some i → get_or g.flags i false ≡ false → bare (pieces_at g.definitions i) ≡ bare (pieces_at h.definitions j)
      → Agree (in_order (read g v) (pieces_at g.definitions i) done) (in_order (read h v) (pieces_at h.definitions j) other))
      → Agree (sense_of g (record { v = name; start = a; end = b }) o >>= λ s. by_sense (read g v) v a b s done) (sense_of h (record { v = name; start = c; end = d }) p >>= λ s. by_sense (read h v) v c d s other)
  named_same name a b c d done other so_far None None is too same inner = by (month (lowered name))
    where
      by : (m : Option (List ℕ)) → Agree (month_or_unknown (record { v = name; start = a; end = b }) m >>= λ s. by_sense (read g v) v a b s done) (month_or_unknown (record { v = name; start = c; end = d }) m >>= λ s. by_sense (read h v) v c d s other)
      by None = λ ms ns e f. absurd cc
      by (Some text) = text_same v a b c d (chars text) done other so_far
  named_same name a b c d done other so_far None (Some j) is too same inner = λ ms ns e f. both_or_none (sym (at_none (lowered name) g.definitions is) ∙ same ∙ at_index (lowered name) h.definitions j too) _
  named_same name a b c d done other so_far (Some i) None is too same inner = λ ms ns e f. both_or_none (sym (at_none (lowered name) h.definitions too) ∙ sym same ∙ at_index (lowered name) g.definitions i is) _
  named_same name a b c d done other so_far (Some i) (Some j) is too same inner = by (get_or g.flags i false) refl (get_or h.flags j false)
    where
      pieces : bare (pieces_at g.definitions i) ≡ bare (pieces_at h.definitions j)
      pieces = same_Some (bare (pieces_at g.definitions i)) (bare (pieces_at h.definitions j)) (sym (at_index (lowered name) g.definitions i is) ∙ same ∙ at_index (lowered name) h.definitions j too)

      by : (x : Bool) → get_or g.flags i false ≡ x → (y : Bool)
          → Agree ((if x then Err (circular (record { v = name; start = a; end = b })) else Ok (defined (pieces_at g.definitions i))) >>= λ s. by_sense (read g v) v a b s done)
          ((if y then Err (circular (record { v = name; start = c; end = d })) else Ok (defined (pieces_at h.definitions j))) >>= λ s. by_sense (read h v) v c d s other)
      by true fl y = λ ms ns e f. absurd cc
      by false fl true = λ ms ns e f. absurd cc
      by false fl false = inner i j is fl pieces

  -- what is opened by a piece of a definition is opened by its name
  module _ (name : List ℕ) (i : ℕ) (is : index_of (lowered name) g.definitions ≡ Some i) (r : At Piece) (has : Contains (pieces_at g.definitions i) r) where
    lifted : (k : ℕ) (inner : List ℕ) → IsOpenedAt g.definitions (r.v ∷ []) k inner → IsOpenedAt g.definitions (abbreviation name ∷ []) (suc k) inner
    lifted zero inner c = (
      lowered name,
      (zero, omega arith, refl),
      subst (λ (o : Option (List Piece)). Contains (option_map_or abbreviations_in o []) inner) (sym (at_index (lowered name) g.definitions i is)) (among_names (pieces_at g.definitions i) r has inner c),
    )
    lifted (suc k) inner (outer, o, c) = (outer, lifted k outer o, c)

    inner_below : (m : ℕ) → get_or g.flags i false ≡ false → IsBelow (suc m) (record { v = abbreviation name; start = 0; end = 0 }) → IsBelow m r
    inner_below m fl below index c low =
        let R : List (List ℕ) = references g.definitions in
        let within : index < length g.definitions = named_within g.definitions r.v index c in
        let long : length R ≡ length g.definitions = length-map g.definitions (λ (d : Field). references_of g.definitions d.value.v) in
        let there : index < length R = omega (arith, within, long) in
        let none : IsCircular R index → ⊥ = λ circle. true≢false (sym ((flags.exact index within).1 circle) ∙ low) in
        let step : depth R index < depth R i = less_deep R i index none (refers g.definitions i r index has c) there in
        let outer : depth R i < suc m = below i (subst (λ (o : Option ℕ). Contains (indices o) i) (sym is) (zero, omega arith, refl)) fl in
        omega (arith, step, outer)

  by_piece : (n : ℕ) → ((m : ℕ) → n ≡ suc m → AllAlike m) → (P : Piece) → DefineAlike (P ∷ []) g.definitions h.definitions → IsBelow n (record { v = P; start = 0; end = 0 }) → (a b c d : ℕ)
      → (done other : List (At Member)) → without_spans done ≡ without_spans other
      → Agree (sense_in g a b P >>= λ s. by_sense (read g v) v a b s done) (sense_in h c d P >>= λ s. by_sense (read h v) v c d s other)
  by_piece n less (normal cs) define below a b c d done other so_far = text_same v a b c d cs done other so_far
  by_piece zero less (abbreviation name) define below a b c d done other so_far =
      named_same name a b c d done other so_far (index_of (lowered name) g.definitions) (index_of (lowered name) h.definitions) refl refl (define (lowered name) (zero, (zero, omega arith, refl)))
      (λ i j is fl pieces. absurd (let low : depth (references g.definitions) i < 0 = below i (subst (λ (o : Option ℕ). Contains (indices o) i) (sym is) (zero, omega arith, refl)) fl in omega (arith, low)))
  by_piece (suc m) less (abbreviation name) define below a b c d done other so_far =
      named_same name a b c d done other so_far (index_of (lowered name) g.definitions) (index_of (lowered name) h.definitions) refl refl (define (lowered name) (zero, (zero, omega arith, refl)))
      (λ i j is fl pieces. order_same (read g v) (read h v) (pieces_at g.definitions i) (pieces_at h.definitions j) pieces
      (recursion_from_All AreOne (pieces_at g.definitions i)
      (All-weaker (Contains (pieces_at g.definitions i)) AreOne
      (λ r has. less m refl r (λ inner opened. define inner (suc opened.0, lifted name i is r has opened.0 inner opened.1)) (inner_below name i is r has m fl below))
      (pieces_at g.definitions i) (All-contains_itself (pieces_at g.definitions i))))
      done other so_far)

  by_rule : (n : ℕ) → ((m : ℕ) → n ≡ suc m → AllAlike m) → AllAlike n
  by_rule n less p define below q same done other so_far ms ns is too =
      by_piece n less p.v define below p.start p.end q.start q.end done other so_far ms ns
      (sym (λ i. by_the_rule g flags v p i done) ∙ is)
      ((λ i. sense_in h q.start q.end (same i) >>= λ s. by_sense (read h v) v q.start q.end s other) ∙ sym (λ i. by_the_rule h flags_too v q i other) ∙ too)

  all_alike : (n : ℕ) → AllAlike n
  all_alike zero = by_rule zero (λ m e. absurd (omega (arith, e)))
  all_alike (suc n) = by_rule (suc n) (λ m e. let same : n ≡ m = omega (arith, e) in subst AllAlike same (all_alike n))

  -- pieces of a field
  pieces_same : (ps qs : List (At Piece)) → bare ps ≡ bare qs → DefineAlike (bare ps) g.definitions h.definitions → Agree (in_order (read g v) ps []) (in_order (read h v) qs [])
  pieces_same ps qs same define =
      let n : ℕ = suc (length (references g.definitions)) in
      order_same (read g v) (read h v) ps qs same
      (recursion_from_All AreOne ps
      (All-weaker (Contains ps) AreOne
      (λ r has. all_alike n r (λ inner opened. define inner (opened.0, widened ps r has opened.0 inner opened.1))
      (λ index c fl. let low = depth_upto (references g.definitions) index in omega (arith, low)))
      ps (All-contains_itself ps)))
      [] [] refl
    where
      widened : (ps : List (At Piece)) (r : At Piece) → Contains ps r → (k : ℕ) (inner : List ℕ) → IsOpenedAt g.definitions (r.v ∷ []) k inner → IsOpenedAt g.definitions (bare ps) k inner
      widened ps r has zero inner c = among_names ps r has inner c
      widened ps r has (suc k) inner (outer, o, c) = (outer, widened ps r has k outer o, c)

-- the text of a value
pub value_same : (g h : Glossary) → AreFlags g.flags g.definitions → AreFlags h.flags h.definitions → (name : List ℕ) (ps qs : List (At Piece)) → bare ps ≡ bare qs → DefineAlike (bare ps) g.definitions h.definitions
    → (x y : Value) → value_in g name ps ≡ Ok x → value_in h name qs ≡ Ok y → x.text ≡ y.text
unfolding value_in
value_same g h flags flags_too name ps qs same define x y is too =
    let one = bind_ok (members_of g name ps) (λ ms. Ok (value_from ms)) x is in
    let two = bind_ok (members_of h name qs) (λ ms. Ok (value_from ms)) y too in
    ap (λ (z : Value). z.text) (sym (ok_is {F = Refusal} (value_from one.0) x one.2))
    ∙ ap tidied (pieces_same g h flags flags_too (is_verbatim_name (lowered name)) ps qs same define one.0 two.0 one.1 two.1)
    ∙ ap (λ (z : Value). z.text) (ok_is {F = Refusal} (value_from two.0) y two.2)
