-- Items that the grammar relates are read, and those that are read it relates.
use Rattle.std.proofs.Common.{◌≡◌, ℕ, Bool, true, false, true≢false, not, ◌||◌, cond, eqb, List, [], ◌∷◌, Option, Some, None, Result, Ok, Err, codes, refl, sym, ap, ◌∙◌, subst, inl, inr}
use Rattle.std.proofs.lemmas.Bool.{eqb-true, eq-eqb}
use Rattle.std.specs.Str.{bytes_eq}
use Rattle.laws.specs.Results.{◌>>=◌}
use Rattle.laws.specs.Runs.{Bars}
use Rattle.laws.specs.Steps.{each}
use Rattle.laws.proofs.Results.{bind_ok, ok_is}
use Rattle.laws.proofs.Steps.{each-none, each-some}
use Rattle.biblatex_text.specs.Raw.{At, Field, Entry, Item, nothing, definitions, an_entry}
use Rattle.biblatex_text.specs.Run.{after}
use Rattle.biblatex_text.specs.Reading.{Refusal, offset, token_at, after_blanks, run_at, identifier_at, closed_at}
use Rattle.biblatex_text.specs.Value.{value_at}
use Rattle.biblatex_text.specs.Fields.{closing, more_fields_at, definitions_at}
use Rattle.biblatex_text.specs.Items.{opening_at, remark_at, preamble_at, key_run, entry_at, is_named, body_at, item_of_kind_at, item_at, item_or_end_at, next_item_at}
use Rattle.biblatex_text.specs.declared.token.Token.TheVariants as tokens
use Rattle.biblatex_text.specs.declared.token.Fault.TheVariants.{Expected}
use Rattle.biblatex_text.proofs.ReadingShorter.{items_shorten}
use Rattle.biblatex_grammar.specs.Characters.{IsWord, is_of_key}
use Rattle.biblatex_grammar.specs.Gaps.{Part, AreParts, IsGap, is_skipped, IsOutside}
use Rattle.biblatex_grammar.specs.Balanced.{Remark}
use Rattle.biblatex_grammar.specs.Values.{IsIdentifier, IsValue}
use Rattle.biblatex_grammar.specs.Items.{AreFields, IsOpened, IsEntry, IsComment, IsPreamble, IsBody, IsItem, AreItems}
use Rattle.biblatex_grammar.proofs.States.{Bracket, blank, outside, brace, parenthesis, remark}
use Rattle.biblatex_grammar.proofs.Runs.{run-after, run-takes}
use Rattle.biblatex_grammar.proofs.Gaps.{begins_part, gap-again, gap-takes, outside-again, outside-takes}
use Rattle.biblatex_grammar.proofs.Trees.{remark-stops, remark-ends, ends-stops, balanced-after, balanced-takes}
use Rattle.biblatex_grammar.proofs.Words.{AreAscii, word-named, named-word, other-named, named-other}
use Rattle.biblatex_grammar.proofs.Offsets.{Within, offset-again, offset-takes, within-offset, within-tail, within-after, run_at-again, run_at-takes}
use Rattle.biblatex_grammar.proofs.Steps.{given, token-takes, closed-takes, Steps, each-takes}
use Rattle.biblatex_grammar.proofs.ValuesAgain.{identifier-again, value-again}
use Rattle.biblatex_grammar.proofs.ValuesTakes.{identifier-takes, value-takes}
use Rattle.biblatex_grammar.proofs.Fields.{Usual, usual_brace, usual_parenthesis, more-again, definitions-again, More, more-takes, definitions-takes}

-- ---- words of kinds

comment_ascii : AreAscii (codes "comment")
comment_ascii = (refl, (refl, (refl, (refl, (refl, (refl, (refl, tt)))))))

preamble_ascii : AreAscii (codes "preamble")
preamble_ascii = (refl, (refl, (refl, (refl, (refl, (refl, (refl, (refl, tt))))))))

string_ascii : AreAscii (codes "string")
string_ascii = (refl, (refl, (refl, (refl, (refl, (refl, tt))))))

-- one name is no two words
apart : (name v w : List ℕ) → bytes_eq v v ≡ true → bytes_eq v w ≡ false → IsWord v name → IsWord w name → ⊥
apart name v w same other is_v is_w = true≢false (sym same ∙ (ap (bytes_eq v) (sym is_v ∙ is_w) ∙ other))

-- ---- comments and preambles

remark-again : (cs rest : List ℕ) → IsComment cs rest → remark_at cs ≡ Ok rest
remark-again cs rest (inl (a, t, e, balanced)) = ap remark_at e ∙ ap closed_at (balanced-after Remark 125 a t rest remark-stops balanced)
remark-again cs [] (inr (e, bars)) = ap remark_at e
remark-again cs (c ∷ rest) (inr (e, bars)) = ap remark_at e ∙ rw bars refl

remark-takes : (cs rest : List ℕ) → remark_at cs ≡ Ok rest → IsComment cs rest
remark-takes [] rest e = let same : [] ≡ rest = ok_is {F = Refusal} [] rest e in inr (same, subst (Bars (λ c. eqb c 123)) same tt)
remark-takes (c ∷ cs) rest e = by_test (eqb c 123) refl e
  where
    by_test : (b : Bool) → eqb c 123 ≡ b → cond b (closed_at (after (remark 0) cs)) (Ok (c ∷ cs)) ≡ Ok rest → IsComment (c ∷ cs) rest
    by_test true is d =
        let mark = closed-takes (after (remark 0) cs) rest d in
        let brace_is : mark.0 ≡ 125 = remark-ends mark.0 (ends-stops Remark mark.0 cs rest mark.1) in
        let behind : after (remark 0) cs ≡ 125 ∷ rest = mark.1 ∙ ap (λ (x : ℕ). x ∷ rest) brace_is in
        inl (cs, _, ap (λ (x : ℕ). x ∷ cs) (eqb-true c 123 is), balanced-takes Remark 125 cs rest behind)
    by_test false other d =
        let same : c ∷ cs ≡ rest = ok_is {F = Refusal} (c ∷ cs) rest d in
        inr (same, subst (Bars (λ x. eqb x 123)) same other)

remark-within : (n : ℕ) (cs rest : List ℕ) → Within n cs → remark_at cs ≡ Ok rest → Within n rest
remark-within n [] rest within e = subst (Within n) (ok_is {F = Refusal} [] rest e) within
remark-within n (c ∷ cs) rest within e = by_test (eqb c 123) e
  where
    by_test : (b : Bool) → cond b (closed_at (after (remark 0) cs)) (Ok (c ∷ cs)) ≡ Ok rest → Within n rest
    by_test true d =
        let mark = closed-takes (after (remark 0) cs) rest d in
        within-tail n mark.0 rest (subst (Within n) mark.1 (within-after n (remark 0) cs (within-tail n c cs within)))
    by_test false d = subst (Within n) (ok_is {F = Refusal} (c ∷ cs) rest d) within

preamble-again : (n : ℕ) (bracket : Bracket) (cs rest : List ℕ) → IsPreamble n (closing bracket) cs rest → preamble_at n bracket cs ≡ Ok rest
unfolding preamble_at
preamble-again n bracket cs rest (a, b, v, gap, value, closed) =
    let value_is : value_at n (after_blanks cs) ≡ Ok (v, b) = ap (value_at n) (gap-again cs a gap) ∙ value-again n a b v value in
    rw value_is (ap (token_at (closing bracket) tokens.ClosingBrace) (gap-again b (closing bracket ∷ rest) closed) ∙ token_there (closing bracket) rest)
  where
    token_there : (mark : ℕ) (ds : List ℕ) → token_at mark tokens.ClosingBrace (mark ∷ ds) ≡ Ok ds
    token_there mark ds = rw (eq-eqb mark mark refl) refl

record Preamble (n mark : ℕ) (cs rest : List ℕ) : Type 0 where
  is : IsPreamble n mark cs rest
  within : Within n rest

preamble-takes : (n : ℕ) (bracket : Bracket) (cs rest : List ℕ) → Within n cs → preamble_at n bracket cs ≡ Ok rest → Preamble n (closing bracket) cs rest
unfolding preamble_at
preamble-takes n bracket cs rest within e =
    let value = bind_ok (value_at n (after_blanks cs)) (λ value. token_at (closing bracket) tokens.ClosingBrace (after_blanks value.1)) rest e in
    let value_is : IsValue n (after_blanks cs) value.0.0 value.0.1 = value-takes n (after_blanks cs) value.0 (within-after n blank cs within) value.1 in
    let mark : after_blanks value.0.1 ≡ closing bracket ∷ rest = token-takes (closing bracket) tokens.ClosingBrace (after_blanks value.0.1) rest value.2 in
    let inside : Within n value.0.1 = within-offset n value.0.0.end value.0.1 value_is.1.1 in
    record {
      is = (after_blanks cs, value.0.1, value.0.0, gap-takes cs, value_is, subst (IsGap value.0.1) mark (gap-takes value.0.1));
      within = within-tail n (closing bracket) rest (subst (Within n) mark (within-after n blank value.0.1 inside));
    }

-- ---- entries

entry-again : (n : ℕ) (kind : At (List ℕ)) (bracket : Bracket) → Usual bracket → (cs rest : List ℕ) (e : Entry) → e.kind ≡ kind → IsEntry n (closing bracket) cs e rest → entry_at n kind bracket cs ≡ Ok (e, rest)
unfolding entry_at
entry-again n kind bracket usual cs rest e same (a, b, gap, (run, at), more) =
    let behind : after (key_run bracket) (after_blanks cs) ≡ b = ap (after (key_run bracket)) (gap-again cs a gap) ∙ run-after (key_run bracket) (is_of_key (closing bracket)) usual.key a e.key.v b run in
    let fields : more_fields_at n bracket (after (key_run bracket) (after_blanks cs)) ≡ Ok (e.fields, rest) = ap (more_fields_at n bracket) behind ∙ more-again n bracket usual e.fields b rest more in
    let key_is : run_at n (key_run bracket) (after_blanks cs) ≡ e.key = ap (run_at n (key_run bracket)) (gap-again cs a gap) ∙ run_at-again n (key_run bracket) (is_of_key (closing bracket)) usual.key a b e.key run at in
    rw fields (λ j. Ok (record { kind = sym same j; key = key_is j; fields = e.fields }, rest))

record EntryRead (n mark : ℕ) (kind : At (List ℕ)) (cs : List ℕ) (p : Entry × List ℕ) : Type 0 where
  is : IsEntry n mark cs p.0 p.1
  same : p.0.kind ≡ kind
  within : Within n p.1

entry-takes : (n : ℕ) (kind : At (List ℕ)) (bracket : Bracket) → Usual bracket → (cs : List ℕ) (p : Entry × List ℕ) → Within n cs → entry_at n kind bracket cs ≡ Ok p → EntryRead n (closing bracket) kind cs p
unfolding entry_at
entry-takes n kind bracket usual cs p within e =
    let inside : Within n (after_blanks cs) = within-after n blank cs within in
    let fields = bind_ok (more_fields_at n bracket (after (key_run bracket) (after_blanks cs)))
    (λ fields. Ok (record { kind = kind; key = run_at n (key_run bracket) (after_blanks cs); fields = fields.0 }, fields.1)) p e in
    let more : More n (closing bracket) (after (key_run bracket) (after_blanks cs)) fields.0.0 fields.0.1 =
    more-takes n bracket (after (key_run bracket) (after_blanks cs)) fields.0 (within-after n (key_run bracket) (after_blanks cs) inside) fields.1 in
    given (EntryRead n (closing bracket) kind cs) (record { kind = kind; key = run_at n (key_run bracket) (after_blanks cs); fields = fields.0.0 }) fields.0.1 p fields.2
    (record {
      is = (
        after_blanks cs,
        after (key_run bracket) (after_blanks cs),
        gap-takes cs,
        (run-takes (key_run bracket) (is_of_key (closing bracket)) usual.key (after_blanks cs), run_at-takes n (key_run bracket) (after_blanks cs) inside),
        more.are,
      );
      same = refl;
      within = more.within;
    })

-- ---- what opens an item

-- the bracket of what closes an item
record Opened (cs : List ℕ) (mark : ℕ) (rest : List ℕ) : Type 0 where
  bracket : Bracket
  usual : Usual bracket
  closes : mark ≡ closing bracket
  opens : opening_at cs ≡ Ok (bracket, rest)

opened : (cs : List ℕ) (mark : ℕ) (rest : List ℕ) → IsOpened cs mark rest → Opened cs mark rest
opened cs mark rest (inl (closes, e)) = record { bracket = brace; usual = usual_brace; closes = closes; opens = ap opening_at e }
opened cs mark rest (inr (closes, e)) = record { bracket = parenthesis; usual = usual_parenthesis; closes = closes; opens = ap opening_at e }

record Opens (cs : List ℕ) (p : Bracket × List ℕ) : Type 0 where
  usual : Usual p.0
  is : IsOpened cs (closing p.0) p.1

opening-takes : (cs : List ℕ) (p : Bracket × List ℕ) → opening_at cs ≡ Ok p → Opens cs p
opening-takes [] p e = absurd cc
opening-takes (c ∷ cs) p e = by_test (eqb c 123) (eqb c 40) refl refl e
  where
    by_test : (a b : Bool) → eqb c 123 ≡ a → eqb c 40 ≡ b → cond {A = Result (Bracket × List ℕ) Refusal} a (Ok (brace, cs)) (cond {A = Result (Bracket × List ℕ) Refusal} b (Ok (parenthesis, cs)) (Err (Expected tokens.OpeningBrace, c ∷ cs))) ≡ Ok p → Opens (c ∷ cs) p
    by_test true b is other d = given (Opens (c ∷ cs)) brace cs p d (record { usual = usual_brace; is = inl (refl, ap (λ (x : ℕ). x ∷ cs) (eqb-true c 123 is)) })
    by_test false true other is d = given (Opens (c ∷ cs)) parenthesis cs p d (record { usual = usual_parenthesis; is = inr (refl, ap (λ (x : ℕ). x ∷ cs) (eqb-true c 40 is)) })
    by_test false false other another d = absurd cc

-- ---- an item after its kind

no_comment : (n : ℕ) (kind : At (List ℕ)) (cs : List ℕ) → is_named kind.v (codes "comment") ≡ false → item_of_kind_at n kind cs ≡ (opening_at cs >>= λ opened. body_at n kind opened.0 opened.1)
no_comment n kind cs other = rw other refl

-- the body after what opens it
body_opened : (n : ℕ) (kind : At (List ℕ)) (cs : List ℕ) (bracket : Bracket) (a : List ℕ) → is_named kind.v (codes "comment") ≡ false → opening_at cs ≡ Ok (bracket, a)
    → item_of_kind_at n kind cs ≡ body_at n kind bracket a
body_opened n kind cs bracket a other opens = no_comment n kind cs other ∙ ap (λ (r : Result (Bracket × List ℕ) Refusal). r >>= λ opened. body_at n kind opened.0 opened.1) opens

is_preamble : (n : ℕ) (kind : At (List ℕ)) (bracket : Bracket) (a rest : List ℕ) → is_named kind.v (codes "preamble") ≡ true → preamble_at n bracket a ≡ Ok rest → body_at n kind bracket a ≡ Ok (nothing, rest)
is_preamble n kind bracket a rest is read = rw (is, read) refl

is_string : (n : ℕ) (kind : At (List ℕ)) (bracket : Bracket) (a rest : List ℕ) (fs : List Field) → is_named kind.v (codes "preamble") ≡ false → is_named kind.v (codes "string") ≡ true
    → definitions_at n bracket a ≡ Ok (fs, rest) → body_at n kind bracket a ≡ Ok (definitions fs, rest)
is_string n kind bracket a rest fs other is read = rw (other, is, read) refl

is_entry : (n : ℕ) (kind : At (List ℕ)) (bracket : Bracket) (a rest : List ℕ) (e : Entry) → is_named kind.v (codes "preamble") ≡ false → is_named kind.v (codes "string") ≡ false
    → entry_at n kind bracket a ≡ Ok (e, rest) → body_at n kind bracket a ≡ Ok (an_entry e, rest)
is_entry n kind bracket a rest e other another read = rw (other, another, read) refl

body-again : (n : ℕ) (kind : At (List ℕ)) (i : Item) (cs rest : List ℕ) → IsBody n kind cs i rest → item_of_kind_at n kind cs ≡ Ok (i, rest)
body-again n kind nothing cs rest (inl (word, comment)) =
    let is : is_named kind.v (codes "comment") ≡ true = word-named kind.v (codes "comment") comment_ascii word in
    rw (is, remark-again cs rest comment) refl
body-again n kind nothing cs rest (inr (word, (a, mark, is_opened, preamble))) =
    let o = opened cs mark a is_opened in
    body_opened n kind cs o.bracket a (other-named kind.v (codes "comment") comment_ascii (λ w. apart kind.v (codes "comment") (codes "preamble") refl refl w word)) o.opens
    ∙ is_preamble n kind o.bracket a rest (word-named kind.v (codes "preamble") preamble_ascii word)
    (preamble-again n o.bracket a rest (subst (λ (x : ℕ). IsPreamble n x a rest) o.closes preamble))
body-again n kind (definitions fs) cs rest (word, (a, mark, is_opened, are)) =
    let o = opened cs mark a is_opened in
    body_opened n kind cs o.bracket a (other-named kind.v (codes "comment") comment_ascii (λ w. apart kind.v (codes "comment") (codes "string") refl refl w word)) o.opens
    ∙ is_string n kind o.bracket a rest fs (other-named kind.v (codes "preamble") preamble_ascii (λ w. apart kind.v (codes "preamble") (codes "string") refl refl w word))
    (word-named kind.v (codes "string") string_ascii word) (definitions-again n o.bracket o.usual fs a rest (subst (λ (x : ℕ). AreFields n x a fs rest) o.closes are))
body-again n kind (an_entry e) cs rest (others, same, (a, mark, is_opened, entry)) =
    let o = opened cs mark a is_opened in
    body_opened n kind cs o.bracket a (other-named kind.v (codes "comment") comment_ascii others.0) o.opens
    ∙ is_entry n kind o.bracket a rest e (other-named kind.v (codes "preamble") preamble_ascii others.1) (other-named kind.v (codes "string") string_ascii others.2)
    (entry-again n kind o.bracket o.usual a rest e same (subst (λ (x : ℕ). IsEntry n x a e rest) o.closes entry))

record BodyRead (n : ℕ) (kind : At (List ℕ)) (cs : List ℕ) (p : Item × List ℕ) : Type 0 where
  is : IsBody n kind cs p.0 p.1
  within : Within n p.1

opened-within : (n : ℕ) (cs : List ℕ) (mark : ℕ) (rest : List ℕ) → Within n cs → IsOpened cs mark rest → Within n rest
opened-within n cs mark rest within (inl (closes, e)) = within-tail n 123 rest (subst (Within n) e within)
opened-within n cs mark rest within (inr (closes, e)) = within-tail n 40 rest (subst (Within n) e within)

body-takes : (n : ℕ) (kind : At (List ℕ)) (cs : List ℕ) (p : Item × List ℕ) → Within n cs → item_of_kind_at n kind cs ≡ Ok p → BodyRead n kind cs p
body-takes n kind cs p within e = by_comment (is_named kind.v (codes "comment")) refl e
  where
    by_word : is_named kind.v (codes "comment") ≡ false → (bracket : Bracket) (a : List ℕ) → Opens cs (bracket, a) → (x y : Bool) → is_named kind.v (codes "preamble") ≡ x → is_named kind.v (codes "string") ≡ y
        → cond x (preamble_at n bracket a >>= λ rest. Ok (nothing, rest)) (cond y (definitions_at n bracket a >>= λ fs. Ok (definitions fs.0, fs.1)) (entry_at n kind bracket a >>= λ e. Ok (an_entry e.0, e.1))) ≡ Ok p
        → BodyRead n kind cs p
    by_word other bracket a o true y is another d =
        let read = bind_ok (preamble_at n bracket a) (λ rest. Ok (nothing, rest)) p d in
        let preamble = preamble-takes n bracket a read.0 (opened-within n cs (closing bracket) a within o.is) read.1 in
        given (BodyRead n kind cs) nothing read.0 p read.2
        (record { is = inr (named-word kind.v (codes "preamble") preamble_ascii is, (a, closing bracket, o.is, preamble.is)); within = preamble.within })
    by_word other bracket a o false true another is d =
        let read = bind_ok (definitions_at n bracket a) (λ fs. Ok (definitions fs.0, fs.1)) p d in
        let fields = definitions-takes n bracket a read.0 (opened-within n cs (closing bracket) a within o.is) read.1 in
        given (BodyRead n kind cs) (definitions read.0.0) read.0.1 p read.2
        (record { is = (named-word kind.v (codes "string") string_ascii is, (a, closing bracket, o.is, fields.are)); within = fields.within })
    by_word other bracket a o false false another third d =
        let read = bind_ok (entry_at n kind bracket a) (λ e. Ok (an_entry e.0, e.1)) p d in
        let entry = entry-takes n kind bracket o.usual a read.0 (opened-within n cs (closing bracket) a within o.is) read.1 in
        given (BodyRead n kind cs) (an_entry read.0.0) read.0.1 p read.2
        (record {
          is = (
            (named-other kind.v (codes "comment") comment_ascii other, named-other kind.v (codes "preamble") preamble_ascii another, named-other kind.v (codes "string") string_ascii third),
            entry.same,
            (a, closing bracket, o.is, entry.is),
          );
          within = entry.within;
        })

    by_comment : (b : Bool) → is_named kind.v (codes "comment") ≡ b → cond b (remark_at cs >>= λ rest. Ok (nothing, rest)) (opening_at cs >>= λ opened. body_at n kind opened.0 opened.1) ≡ Ok p → BodyRead n kind cs p
    by_comment true is d =
        let read = bind_ok (remark_at cs) (λ rest. Ok (nothing, rest)) p d in
        given (BodyRead n kind cs) nothing read.0 p read.2
        (record { is = inl (named-word kind.v (codes "comment") comment_ascii is, remark-takes cs read.0 read.1); within = remark-within n cs read.0 within read.1 })
    by_comment false other d =
        let read = bind_ok (opening_at cs) (λ opened. body_at n kind opened.0 opened.1) p d in
        by_word other read.0.0 read.0.1 (opening-takes cs read.0 read.1) (is_named kind.v (codes "preamble")) (is_named kind.v (codes "string")) refl refl read.2

-- ---- items

pub item-again : (n : ℕ) (cs a rest : List ℕ) (i : At Item) → IsOutside cs a → IsItem n a i rest → next_item_at n cs ≡ Ok (Some i, rest)
unfolding next_item_at item_at
item-again n cs a rest i skipped (b, c, d, e, kind, sign, gap, name, gap_after, body, at) =
    let name_is : identifier_at n (after_blanks b) ≡ Ok (kind, d) = ap (identifier_at n) (gap-again b c gap) ∙ identifier-again n c d kind name in
    let body_is : item_of_kind_at n kind (after_blanks d) ≡ Ok (i.v, rest) = ap (item_of_kind_at n kind) (gap-again d e gap_after) ∙ body-again n kind i.v e rest body in
    let item_is : item_at n b ≡ Ok (i.v, rest) = rw name_is body_is in
    ap (item_or_end_at n) (outside-again cs a skipped ∙ sign)
    ∙ rw item_is (λ j. Ok (Some (record { v = i.v; start = (ap (offset n) (sym sign) ∙ offset-again n i.start a at.0) j; end = offset-again n i.end rest at.1 j }), rest))

-- texts that skipped text leads to one place are read on from there
pub next-same : (n : ℕ) (cs ds rest : List ℕ) → IsOutside cs rest → IsOutside ds rest → next_item_at n cs ≡ next_item_at n ds
unfolding next_item_at
next-same n cs ds rest skipped too = ap (item_or_end_at n) (outside-again cs rest skipped ∙ sym (outside-again ds rest too))

end-again : (n : ℕ) (cs : List ℕ) → IsOutside cs [] → next_item_at n cs ≡ Ok (None, [])
unfolding next_item_at
end-again n cs skipped = ap (item_or_end_at n) (outside-again cs [] skipped)

pub items-again : (n : ℕ) (is : List (At Item)) (cs : List ℕ) → AreItems n cs is → each (next_item_at n) cs ≡ Ok (is, [])
items-again n [] cs skipped = each-none (next_item_at n) cs [] (end-again n cs skipped)
items-again n (i ∷ is) cs (a, b, skipped, item, more) =
    each-some (next_item_at n) (items_shorten n) cs b i (item-again n cs a b i skipped item)
    ∙ ap (λ (r : Result (List (At Item) × List ℕ) Refusal). r >>= λ q. Ok (i ∷ q.0, q.1)) (items-again n is b more)

-- skipped text ends before an at sign
parts-end : (test : ℕ → Bool) (ps : List Part) (cs rest : List ℕ) → AreParts test cs ps rest → Bars (begins_part test) rest
parts-end test [] cs rest (e, bars) = bars
parts-end test (p ∷ ps) cs rest (a, is, more) = parts-end test ps a rest more

sign_is : (c : ℕ) → begins_part is_skipped c ≡ false → c ≡ 64
sign_is c bars = by_test (eqb c 64) (eqb c 37) refl bars
  where
    by_test : (a b : Bool) → eqb c 64 ≡ a → b || not (a || b) ≡ false → c ≡ 64
    by_test true b is h = eqb-true c 64 is
    by_test false true other h = absurd (true≢false h)
    by_test false false other h = absurd (true≢false h)

outside-ends : (cs : List ℕ) (c : ℕ) (ds : List ℕ) → after outside cs ≡ c ∷ ds → c ≡ 64
outside-ends cs c ds e =
    let skipped : IsOutside cs (c ∷ ds) = subst (IsOutside cs) e (outside-takes cs) in
    sign_is c (parts-end is_skipped skipped.0 cs (c ∷ ds) skipped.1)

-- an item, or the end
abbrev ItemOrEnd : ℕ → List ℕ → Option (At Item) × List ℕ → Type 0
ItemOrEnd n cs (None, rest) = IsOutside cs []
ItemOrEnd n cs (Some i, rest) = (a : List ℕ) × IsOutside cs a × IsItem n a i rest

item-takes : (n : ℕ) (cs : List ℕ) (p : Option (At Item) × List ℕ) → Within n cs → next_item_at n cs ≡ Ok p → ItemOrEnd n cs p
unfolding next_item_at item_at
item-takes n cs p within e = by_rest (after outside cs) refl e
  where
    by_rest : (ds : List ℕ) → after outside cs ≡ ds → item_or_end_at n ds ≡ Ok p → ItemOrEnd n cs p
    by_rest [] at d = given (ItemOrEnd n cs) None [] p d (subst (IsOutside cs) at (outside-takes cs))
    by_rest (c ∷ ds) at d =
        let inside : Within n (c ∷ ds) = subst (Within n) at (within-after n outside cs within) in
        let within_kind : Within n (after_blanks ds) = within-after n blank ds (within-tail n c ds inside) in
        let item = bind_ok (item_at n ds) (λ i. Ok (Some (record { v = i.0; start = offset n (c ∷ ds); end = offset n i.1 }), i.1)) p d in
        let kind = bind_ok (identifier_at n (after_blanks ds)) (λ kind. item_of_kind_at n kind.0 (after_blanks kind.1)) item.0 item.1 in
        let name : IsIdentifier n (after_blanks ds) kind.0.0 kind.0.1 = identifier-takes n (after_blanks ds) kind.0 within_kind kind.1 in
        let within_name : Within n kind.0.1 = within-offset n kind.0.0.end kind.0.1 name.2.1 in
        let body : BodyRead n kind.0.0 (after_blanks kind.0.1) item.0 = body-takes n kind.0.0 (after_blanks kind.0.1) item.0 (within-after n blank kind.0.1 within_name) kind.2 in
        given (ItemOrEnd n cs) (Some (record { v = item.0.0; start = offset n (c ∷ ds); end = offset n item.0.1 })) item.0.1 p item.2 (
          c ∷ ds,
          subst (IsOutside cs) at (outside-takes cs),
          (
            ds,
            after_blanks ds,
            kind.0.1,
            after_blanks kind.0.1,
            kind.0.0,
            ap (λ (x : ℕ). x ∷ ds) (outside-ends cs c ds at),
            gap-takes ds,
            name,
            gap-takes kind.0.1,
            body.is,
            (offset-takes n (c ∷ ds) inside, offset-takes n item.0.1 body.within),
          ),
        )

item-within : (n : ℕ) (cs rest : List ℕ) (i : At Item) → IsItem n cs i rest → Within n rest
item-within n cs rest i (a, b, c, d, kind, sign, gap, name, gap_after, body, at) = within-offset n i.end rest at.1

items_steps : (n : ℕ) → Steps (Within n) (λ cs is rest. AreItems n cs is) (next_item_at n)
items_steps n = record {
  shorter = items_shorten n;
  none = λ cs rest within e. item-takes n cs (None, rest) within e;
  within = λ cs a i within e. let item = item-takes n cs (Some i, a) within e in item-within n item.0 a i item.2;
  one = λ cs a i within e is rest more. let item = item-takes n cs (Some i, a) within e in (item.0, a, item.1, item.2, more);
}

pub items-takes : (n : ℕ) (cs : List ℕ) (p : List (At Item) × List ℕ) → Within n cs → each (next_item_at n) cs ≡ Ok p → AreItems n cs p.0
items-takes n cs p within e = each-takes (Within n) (λ ds is rest. AreItems n ds is) (next_item_at n) (items_steps n) cs p within e
