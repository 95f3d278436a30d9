-- Items of a text are items of a longer one, each so many bytes further on.
use Rattle.std.proofs.Common.{◌≡◌, ℕ, suc, ◌+◌, Bool, false, true≢false, not, ◌||◌, eqb, ◌⊎◌, List, [], ◌∷◌, ◌++◌, get_or, length, map, Option, Some, None, Result, Ok, Err, refl, sym, ap, subst, ◌∙◌, inl, inr, arith, append_assoc, append-nil, length-append}
use Rattle.std.specs.Char.{is_whitespace}
use Rattle.laws.specs.Runs.{AllPassTest, Bars}
use Rattle.laws.specs.Steps.{Shortens, Step, each}
use Rattle.laws.specs.Text.{text as text_of}
use Rattle.laws.proofs.Results.{bind_ok}
use Rattle.laws.proofs.Steps.{each-err, each-none, each-some}
use Rattle.laws.proofs.Text.{text-append}
use Rattle.biblatex_text.specs.Raw.{At, Piece, Field, Entry, Item, nothing, definitions, an_entry}
use Rattle.biblatex_text.specs.Items.{next_item_at}
use Rattle.biblatex_text.proofs.ReadingShorter.{items_shorten}
use Rattle.biblatex_grammar.specs.Characters.{is_of_identifier, is_of_key}
use Rattle.biblatex_grammar.specs.Gaps.{Part, character, hidden, AreParts, IsGap, IsAfterGap, IsOutside, is_skipped}
use Rattle.biblatex_grammar.specs.Balanced.{Inside, Remark, Braces, Quotes, IsBalanced}
use Rattle.biblatex_grammar.specs.Values.{IsOffset, IsAt, IsIdentifier, IsPiece, AreFurther, ArePieces, IsValue}
use Rattle.biblatex_grammar.specs.Items.{IsField, EndsOrGoesOn, AreFields, IsOpened, IsEntry, IsComment, IsPreamble, IsBody, IsItem, AreItems}
use Rattle.biblatex_grammar.proofs.Gaps.{gap-again, outside-again}
use Rattle.biblatex_grammar.proofs.Items.{item-again, next-same}
use Rattle.biblatex_laws.specs.Joined.{BeginsItem, EndsInLineFeed, HasWholeLines}

-- what stands so many bytes further on
abbrev pub moved_at : {X : Type 0} → ℕ → At X → At X
moved_at d x = record { v = x.v; start = x.start + d; end = x.end + d }

abbrev pub moved_value : ℕ → At (List (At Piece)) → At (List (At Piece))
moved_value d v = record { v = map (λ p. moved_at d p) v.v; start = v.start + d; end = v.end + d }

abbrev pub moved_field : ℕ → Field → Field
moved_field d f = record { name = moved_at d f.name; value = moved_value d f.value }

abbrev pub moved_entry : ℕ → Entry → Entry
moved_entry d e = record { kind = moved_at d e.kind; key = moved_at d e.key; fields = map (moved_field d) e.fields }

abbrev pub moved_body : ℕ → Item → Item
moved_body d nothing = nothing
moved_body d (definitions fs) = definitions (map (moved_field d) fs)
moved_body d (an_entry e) = an_entry (moved_entry d e)

abbrev pub moved_item : ℕ → At Item → At Item
moved_item d i = record { v = moved_body d i.v; start = i.start + d; end = i.end + d }

-- No line feed stands in what a percent sign hides, so that what ends there does not end in a line feed.
hidden_ends : (c : ℕ) (t : List ℕ) → (c ≡ 10 → ⊥) → AllPassTest (λ x. not (eqb x 10)) t → EndsInLineFeed c t → ⊥
hidden_ends c [] differ all ends = differ ends
hidden_ends c (x ∷ t) differ all ends = hidden_ends x t (λ same. true≢false (sym all.0 ∙ ap (λ (y : ℕ). not (eqb y 10)) same)) all.1 ends

-- one step decides all
each_same : {F X : Type 0} (step : Step F X) → Shortens step → (cs ds : List ℕ) → step cs ≡ step ds → each step cs ≡ each step ds
each_same {F} {X} step shorter cs ds same = by (step ds) refl
  where
    by : (r : Result (Option X × List ℕ) F) → step ds ≡ r → each step cs ≡ each step ds
    by (Err f) is = each-err step cs f (same ∙ is) ∙ sym (each-err step ds f is)
    by (Ok (None, rest)) is = each-none step cs rest (same ∙ is) ∙ sym (each-none step ds rest is)
    by (Ok (Some x, rest)) is = each-some step shorter cs rest x (same ∙ is) ∙ sym (each-some step shorter ds rest x is)

-- A text that others follow, which begin with an item: of the text's own bytes there are n, of all N, and what was read of it stands d bytes
-- further on.
module _ (n N d : ℕ) (bs : List ℕ) (begins : BeginsItem bs) (total : N ≡ n + d + length (text_of bs)) where
  -- what is left of the text ends at the end of a line, or nothing follows it
  abbrev pub Ends : List ℕ → Type 0
  Ends cs = (bs ≡ []) ⊎ HasWholeLines cs

  tail : (c : ℕ) (cs : List ℕ) → Ends (c ∷ cs) → Ends cs
  tail c cs (inl none) = inl none
  tail c [] (inr lines) = inr tt
  tail c (x ∷ cs) (inr lines) = inr lines

  past : (t rest : List ℕ) → Ends (t ++ rest) → Ends rest
  past [] rest ends = ends
  past (c ∷ t) rest ends = past t rest (tail c (t ++ rest) ends)

  parted : (cs t rest : List ℕ) → cs ≡ t ++ rest → cs ++ bs ≡ t ++ (rest ++ bs)
  parted cs t rest e = ap (λ (xs : List ℕ). xs ++ bs) e ∙ append_assoc t rest bs

  bars_on : (test : ℕ → Bool) → test 64 ≡ false → (rest : List ℕ) → Bars test rest → Bars test (rest ++ bs)
  bars_on test barred [] bars = at bs begins
    where
      at : (cs : List ℕ) → BeginsItem cs → Bars test cs
      at [] b = tt
      at (c ∷ cs) b = ap test b ∙ barred
  bars_on test barred (c ∷ rest) bars = bars

  -- ---- gaps

  parts_on : (test : ℕ → Bool) → test 64 ≡ false → (ps : List Part) (cs rest : List ℕ) → Ends cs → AreParts test cs ps rest → AreParts test (cs ++ bs) ps (rest ++ bs) × Ends rest
  parts_on test barred [] cs rest ends (e, bars) = ((ap (λ (xs : List ℕ). xs ++ bs) e, bars_on (λ c. eqb c 37 || test c) barred rest bars), subst Ends e ends)
  parts_on test barred (character c ∷ ps) cs rest ends (a, (e, is), more) =
      let others = parts_on test barred ps a rest (tail c a (subst Ends e ends)) more in
      ((a ++ bs, (ap (λ (xs : List ℕ). xs ++ bs) e, is), others.0), others.1)
  parts_on test barred (hidden t ∷ ps) cs rest ends (a, (b, e, all, inl f), more) =
      let behind : Ends b = past t b (tail 37 (t ++ b) (subst Ends e ends)) in
      let others = parts_on test barred ps a rest (tail 10 a (subst Ends f behind)) more in
      ((a ++ bs, (b ++ bs, parted cs (37 ∷ t) b e, all, inl (ap (λ (xs : List ℕ). xs ++ bs) f)), others.0), others.1)
  parts_on test barred (hidden t ∷ ps) cs rest (inl none) (a, (b, e, all, inr (f, g)), more) =
      let others = parts_on test barred ps a rest (inl none) more in
      ((a ++ bs, (b ++ bs, parted cs (37 ∷ t) b e, all, inr (ap (λ (xs : List ℕ). xs ++ bs) f ∙ none, ap (λ (xs : List ℕ). xs ++ bs) g ∙ none)), others.0), others.1)
  parts_on test barred (hidden t ∷ ps) cs rest (inr lines) (a, (b, e, all, inr (f, g)), more) =
      let whole : cs ≡ 37 ∷ t = e ∙ ap (λ (xs : List ℕ). 37 ∷ (t ++ xs)) f ∙ ap (λ (xs : List ℕ). 37 ∷ xs) (append-nil t) in
      absurd (hidden_ends 37 t (λ same. omega (arith, same)) all (subst HasWholeLines whole lines))

  gap_on : (cs rest : List ℕ) → Ends cs → IsGap cs rest → IsGap (cs ++ bs) (rest ++ bs) × Ends rest
  gap_on cs rest ends (ps, are) = let longer = parts_on is_whitespace refl ps cs rest ends are in ((ps, longer.0), longer.1)

  outside_on : (cs rest : List ℕ) → Ends cs → IsOutside cs rest → IsOutside (cs ++ bs) (rest ++ bs) × Ends rest
  outside_on cs rest ends (ps, are) = let longer = parts_on is_skipped refl ps cs rest ends are in ((ps, longer.0), longer.1)

  -- ---- offsets

  offset_on : (o : ℕ) (cs : List ℕ) → IsOffset n o cs → IsOffset N (o + d) (cs ++ bs)
  offset_on o cs is =
      let long : length (text_of (cs ++ bs)) ≡ length (text_of cs) + length (text_of bs) = ap length (text-append cs bs) ∙ length-append (text_of cs) (text_of bs) in
      omega (arith, is, long, total)

  at_on : {X : Type 0} (cs : List ℕ) (x : At X) (rest : List ℕ) → IsAt n cs x rest → IsAt N (cs ++ bs) (moved_at d x) (rest ++ bs)
  at_on cs x rest at = (offset_on x.start cs at.0, offset_on x.end rest at.1)

  -- ---- values

  identifier_on : (cs : List ℕ) (name : At (List ℕ)) (rest : List ℕ) → Ends cs → IsIdentifier n cs name rest → IsIdentifier N (cs ++ bs) (moved_at d name) (rest ++ bs) × Ends rest
  identifier_on [] name rest ends (first, (e, all, bars), at) = absurd first
  identifier_on (c ∷ cs) name rest ends (first, (e, all, bars), at) =
      ((first, (parted (c ∷ cs) name.v rest e, all, bars_on is_of_identifier refl rest bars), at_on (c ∷ cs) name rest at), past name.v rest (subst Ends e ends))

  balanced_on : (inside : Inside) (mark : ℕ) (cs t rest : List ℕ) → Ends cs → IsBalanced inside mark cs t rest → IsBalanced inside mark (cs ++ bs) t (rest ++ bs) × Ends rest
  balanced_on inside mark cs t rest ends (tree, stands, is, e) = ((tree, stands, is, parted cs t (mark ∷ rest) e), tail mark rest (past t (mark ∷ rest) (subst Ends e ends)))

  piece_on : (cs : List ℕ) (p : At Piece) (rest : List ℕ) → Ends cs → IsPiece n cs p rest → IsPiece N (cs ++ bs) (moved_at d p) (rest ++ bs) × Ends rest
  piece_on cs p rest ends (inl (a, t, e, balanced, is, at)) =
      let longer = balanced_on Braces 125 a t rest (tail 123 a (subst Ends e ends)) balanced in
      (inl (a ++ bs, t, ap (λ (xs : List ℕ). xs ++ bs) e, longer.0, is, at_on a p (125 ∷ rest) at), longer.1)
  piece_on cs p rest ends (inr (inl (a, t, e, balanced, is, at))) =
      let longer = balanced_on Quotes 34 a t rest (tail 34 a (subst Ends e ends)) balanced in
      (inr (inl (a ++ bs, t, ap (λ (xs : List ℕ). xs ++ bs) e, longer.0, is, at_on a p (34 ∷ rest) at)), longer.1)
  piece_on cs p rest ends (inr (inr (t, (e, all, bars), filled, bare, at))) =
      (inr (inr (t, (parted cs t rest e, all, bars_on is_of_identifier refl rest bars), filled, bare, at_on cs p rest at)), past t rest (subst Ends e ends))

  further_on : (cs : List ℕ) (ps : List (At Piece)) (rest : List ℕ) → Ends cs → AreFurther n cs ps rest → AreFurther N (cs ++ bs) (map (λ p. moved_at d p) ps) (rest ++ bs) × Ends rest
  further_on cs [] rest ends e = (ap (λ (xs : List ℕ). xs ++ bs) e, subst Ends e ends)
  further_on cs (p ∷ ps) rest ends (a, b, c, sign, gap, piece, more) =
      let one = gap_on cs (35 ∷ a) ends sign in
      let two = gap_on a b (tail 35 a one.1) gap in
      let three = piece_on b p c two.1 piece in
      let others = further_on c ps rest three.1 more in
      ((a ++ bs, b ++ bs, c ++ bs, one.0, two.0, three.0, others.0), others.1)

  -- after a gap a mark stands that is no number sign
  abbrev Stops : List ℕ → Type 0
  Stops cs = (mark : ℕ) × (rest : List ℕ) × (mark ≡ 35 → ⊥) × IsAfterGap mark cs rest

  no_sign : (cs : List ℕ) → Ends cs → Stops cs → (b : List ℕ) → IsAfterGap 35 (cs ++ bs) b → ⊥
  no_sign cs ends (mark, rest, differ, gap) b sign =
      let same : mark ∷ (rest ++ bs) ≡ 35 ∷ b =
      sym (gap-again (cs ++ bs) (mark ∷ (rest ++ bs)) (gap_on cs (mark ∷ rest) ends gap).0) ∙ gap-again (cs ++ bs) (35 ∷ b) sign in
      differ (ap (λ (xs : List ℕ). get_or xs 0 mark) same)

  pieces_on : (cs : List ℕ) (ps : List (At Piece)) (rest : List ℕ) → Ends cs → Stops rest → ArePieces n cs ps rest → ArePieces N (cs ++ bs) (map (λ p. moved_at d p) ps) (rest ++ bs) × Ends rest
  pieces_on cs [] rest ends stops h = absurd h
  pieces_on cs (p ∷ ps) rest ends stops (a, piece, more, none) =
      let one = piece_on cs p a ends piece in
      let others = further_on a ps rest one.1 more in
      ((a ++ bs, one.0, others.0, no_sign rest others.1 stops), others.1)

  value_on : (cs : List ℕ) (v : At (List (At Piece))) (rest : List ℕ) → Ends cs → Stops rest → IsValue n cs v rest → IsValue N (cs ++ bs) (moved_value d v) (rest ++ bs) × Ends rest
  value_on cs v rest ends stops (pieces, at) = let longer = pieces_on cs v.v rest ends stops pieces in ((longer.0, at_on cs v rest at), longer.1)

  -- ---- fields

  field_on : (cs : List ℕ) (f : Field) (rest : List ℕ) → Ends cs → Stops rest → IsField n cs f rest → IsField N (cs ++ bs) (moved_field d f) (rest ++ bs) × Ends rest
  field_on cs f rest ends stops (a, b, c, name, sign, gap, value) =
      let one = identifier_on cs f.name a ends name in
      let two = gap_on a (61 ∷ b) one.1 sign in
      let three = gap_on b c (tail 61 b two.1) gap in
      let four = value_on c f.value rest three.1 stops value in
      ((a ++ bs, b ++ bs, c ++ bs, one.0, two.0, three.0, four.0), four.1)

  -- what follows a key or a value begins with a gap to a closing mark or a comma
  stops_at : (closing : ℕ) → (closing ≡ 35 → ⊥) → (fs : List Field) (Next : List ℕ → Type 0) (cs rest : List ℕ) → EndsOrGoesOn closing fs Next cs rest → Stops cs
  stops_at closing differ [] Next cs rest (inl closes) = (closing, rest, differ, closes)
  stops_at closing differ (f ∷ fs) Next cs rest (inl closes) = absurd closes
  stops_at closing differ fs Next cs rest (inr (a, gap, next)) = (44, a, (λ same. omega (arith, same)), gap)

  closing_on : (closing : ℕ) (fs : List Field) (Next Then : List ℕ → Type 0) (cs rest : List ℕ) → Ends cs → ((c : List ℕ) → Ends c → Next c → Then (c ++ bs) × Ends rest)
      → EndsOrGoesOn closing fs Next cs rest → EndsOrGoesOn closing (map (moved_field d) fs) Then (cs ++ bs) (rest ++ bs) × Ends rest
  closing_on closing [] Next Then cs rest ends more (inl closes) = let longer = gap_on cs (closing ∷ rest) ends closes in (inl longer.0, tail closing rest longer.1)
  closing_on closing (f ∷ fs) Next Then cs rest ends more (inl closes) = absurd closes
  closing_on closing fs Next Then cs rest ends more (inr (a, gap, next)) =
      let one = gap_on cs (44 ∷ a) ends gap in
      let two = more a (tail 44 a one.1) next in
      (inr (a ++ bs, one.0, two.0), two.1)

  fields_on : (closing : ℕ) → (closing ≡ 35 → ⊥) → (fs : List Field) (cs rest : List ℕ) → Ends cs → AreFields n closing cs fs rest → AreFields N closing (cs ++ bs) (map (moved_field d) fs) (rest ++ bs) × Ends rest
  fields_on closing differ [] cs rest ends closes = let longer = gap_on cs (closing ∷ rest) ends closes in (longer.0, tail closing rest longer.1)
  fields_on closing differ (f ∷ fs) cs rest ends (a, b, gap, field, more) =
      let one = gap_on cs a ends gap in
      let two = field_on a f b one.1 (stops_at closing differ fs (λ c. AreFields n closing c fs rest) b rest more) field in
      let others =
      closing_on closing fs (λ c. AreFields n closing c fs rest) (λ c. AreFields N closing c (map (moved_field d) fs) (rest ++ bs)) b rest two.1 (λ c inside next. fields_on closing differ fs c rest inside next) more in
      ((a ++ bs, b ++ bs, one.0, two.0, others.0), others.1)

  -- ---- items

  bars_before : (test : ℕ → Bool) (rest : List ℕ) → Stops rest → Bars test rest → Bars test (rest ++ bs)
  bars_before test [] (mark, more, differ, gap) bars = absurd (let e : 0 ≡ suc (length more) = ap length (gap-again [] (mark ∷ more) gap) in omega (arith, e))
  bars_before test (c ∷ rest) stops bars = bars

  entry_on : (closing : ℕ) → (closing ≡ 35 → ⊥) → (cs : List ℕ) (e : Entry) (rest : List ℕ) → Ends cs → IsEntry n closing cs e rest → IsEntry N closing (cs ++ bs) (moved_entry d e) (rest ++ bs) × Ends rest
  entry_on closing differ cs e rest ends (a, b, gap, ((is, all, bars), at), more) =
      let one = gap_on cs a ends gap in
      let stops = stops_at closing differ e.fields (λ c. AreFields n closing c e.fields rest) b rest more in
      let behind : Ends b = past e.key.v b (subst Ends is one.1) in
      let others =
      closing_on closing e.fields (λ c. AreFields n closing c e.fields rest) (λ c. AreFields N closing c (map (moved_field d) e.fields) (rest ++ bs)) b rest behind (λ c inside next. fields_on closing differ e.fields c rest inside next) more in
      ((a ++ bs, b ++ bs, one.0, ((parted a e.key.v b is, all, bars_before (is_of_key closing) b stops bars), at_on a e.key b at), others.0), others.1)

  comment_on : (cs rest : List ℕ) → Ends cs → IsComment cs rest → IsComment (cs ++ bs) (rest ++ bs) × Ends rest
  comment_on cs rest ends (inl (a, t, e, balanced)) =
      let longer = balanced_on Remark 125 a t rest (tail 123 a (subst Ends e ends)) balanced in
      (inl (a ++ bs, t, ap (λ (xs : List ℕ). xs ++ bs) e, longer.0), longer.1)
  comment_on cs rest ends (inr (e, bars)) = (inr (ap (λ (xs : List ℕ). xs ++ bs) e, bars_on (λ c. eqb c 123) refl rest bars), subst Ends e ends)

  preamble_on : (closing : ℕ) → (closing ≡ 35 → ⊥) → (cs rest : List ℕ) → Ends cs → IsPreamble n closing cs rest → IsPreamble N closing (cs ++ bs) (rest ++ bs) × Ends rest
  preamble_on closing differ cs rest ends (a, b, v, gap, value, closes) =
      let one = gap_on cs a ends gap in
      let two = value_on a v b one.1 (closing, rest, differ, closes) value in
      let three = gap_on b (closing ∷ rest) two.1 closes in
      ((a ++ bs, b ++ bs, moved_value d v, one.0, two.0, three.0), tail closing rest three.1)

  record Opened (cs : List ℕ) (closing : ℕ) (a : List ℕ) : Type 0 where
    is : IsOpened (cs ++ bs) closing (a ++ bs)
    ends : Ends a
    differ : closing ≡ 35 → ⊥

  opened_on : (cs : List ℕ) (closing : ℕ) (a : List ℕ) → Ends cs → IsOpened cs closing a → Opened cs closing a
  opened_on cs closing a ends (inl (is, e)) = record { is = inl (is, ap (λ (xs : List ℕ). xs ++ bs) e); ends = tail 123 a (subst Ends e ends); differ = λ same. omega (arith, is, same) }
  opened_on cs closing a ends (inr (is, e)) = record { is = inr (is, ap (λ (xs : List ℕ). xs ++ bs) e); ends = tail 40 a (subst Ends e ends); differ = λ same. omega (arith, is, same) }

  body_on : (kind : At (List ℕ)) (cs : List ℕ) (i : Item) (rest : List ℕ) → Ends cs → IsBody n kind cs i rest → IsBody N (moved_at d kind) (cs ++ bs) (moved_body d i) (rest ++ bs) × Ends rest
  body_on kind cs nothing rest ends (inl (word, comment)) = let longer = comment_on cs rest ends comment in (inl (word, longer.0), longer.1)
  body_on kind cs nothing rest ends (inr (word, (a, closing, opens, preamble))) =
      let o = opened_on cs closing a ends opens in
      let longer = preamble_on closing o.differ a rest o.ends preamble in
      (inr (word, (a ++ bs, closing, o.is, longer.0)), longer.1)
  body_on kind cs (definitions fs) rest ends (word, (a, closing, opens, fields)) =
      let o = opened_on cs closing a ends opens in
      let longer = fields_on closing o.differ fs a rest o.ends fields in
      ((word, (a ++ bs, closing, o.is, longer.0)), longer.1)
  body_on kind cs (an_entry e) rest ends (others, same, (a, closing, opens, entry)) =
      let o = opened_on cs closing a ends opens in
      let longer = entry_on closing o.differ a e rest o.ends entry in
      ((others, ap (λ (x : At (List ℕ)). moved_at d x) same, (a ++ bs, closing, o.is, longer.0)), longer.1)

  item_on : (cs : List ℕ) (i : At Item) (rest : List ℕ) → Ends cs → IsItem n cs i rest → IsItem N (cs ++ bs) (moved_item d i) (rest ++ bs) × Ends rest
  item_on cs i rest ends (a, b, c, e, kind, sign, gap, name, gap_after, body, at) =
      let one = gap_on a b (tail 64 a (subst Ends sign ends)) gap in
      let two = identifier_on b kind c one.1 name in
      let three = gap_on c e two.1 gap_after in
      let four = body_on kind e i.v rest three.1 body in
      ((a ++ bs, b ++ bs, c ++ bs, e ++ bs, moved_at d kind, ap (λ (xs : List ℕ). xs ++ bs) sign, one.0, two.0, three.0, four.0, at_on cs i rest at), four.1)

  stays : IsOutside bs bs
  stays = ([], (refl, bars_on (λ c. eqb c 37 || is_skipped c) refl [] tt))

  -- what is skipped at the end of the text is skipped before the item that follows
  skipped_on : (cs a : List ℕ) → Ends cs → IsOutside cs [] → IsOutside bs a → IsOutside (cs ++ bs) a
  skipped_on cs a ends skipped next = subst (IsOutside (cs ++ bs)) (sym (outside-again bs bs stays) ∙ outside-again bs a next) (outside_on cs [] ends skipped).0

  pub items_on : (cs : List ℕ) (is js : List (At Item)) → Ends cs → AreItems n cs is → AreItems N bs js → AreItems N (cs ++ bs) (map (moved_item d) is ++ js)
  items_on cs [] [] ends skipped next = skipped_on cs [] ends skipped next
  items_on cs [] (j ∷ js) ends skipped (a, b, before, item, more) = (a, b, skipped_on cs a ends skipped before, item, more)
  items_on cs (i ∷ is) js ends (a, b, before, item, more) next =
      let one = outside_on cs a ends before in
      let two = item_on a i b one.1 item in
      (a ++ bs, b ++ bs, one.0, two.0, items_on b is js two.1 more next)

  -- where the whole is read, so is what follows the text
  pub rest_read : (cs : List ℕ) (is : List (At Item)) → Ends cs → AreItems n cs is → (p : List (At Item) × List ℕ) → each (next_item_at N) (cs ++ bs) ≡ Ok p
      → (q : List (At Item) × List ℕ) × (each (next_item_at N) bs ≡ Ok q)
  rest_read cs [] ends skipped p read =
      (p, sym (each_same (next_item_at N) (items_shorten N) (cs ++ bs) bs (next-same N (cs ++ bs) bs bs (outside_on cs [] ends skipped).0 stays)) ∙ read)
  rest_read cs (i ∷ is) ends (a, b, before, item, more) p read =
      let one = outside_on cs a ends before in
      let two = item_on a i b one.1 item in
      let here = item-again N (cs ++ bs) (a ++ bs) (b ++ bs) (moved_item d i) one.0 two.0 in
      let others =
      bind_ok (each (next_item_at N) (b ++ bs)) (λ q. Ok (moved_item d i ∷ q.0, q.1)) p
      (sym (each-some (next_item_at N) (items_shorten N) (cs ++ bs) (b ++ bs) (moved_item d i) here) ∙ read) in
      rest_read b is two.1 more others.0 others.1
