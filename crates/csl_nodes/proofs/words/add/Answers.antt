use Rattle.std.proofs.Common.{rules, ◌≡◌, true, false, Some, is_some, map, string_bytes, sym, ap, ◌∙◌}
use Rattle.std.proofs.lemmas.Map.Text.{btree_map_updates_text}
use Rattle.csl_nodes.specs.Words.{is_one_of, ArePlaces}
use Rattle.csl_nodes.proofs.Places.{place_some, word_there, word_added, places_more}
use Rattle.csl_nodes.proofs.words.add.Goals as goal

pub returns-then-contains_key-clause-words : goal.returns-then-contains_key-clause-words
returns-then-contains_key-clause-words c =
    let words = map string_bytes c.args.words.now.items in
    let known : ArePlaces c.args.places.now words = search rules in
    let there : is_one_of words c.args.word.now ≡ true = sym (place_some words c.args.word.now) ∙ (ap is_some (sym (known c.args.word.now)) ∙ (sym c.contains_key.ensures ∙ c.if-contains_key.true)) in
    word_there words c.args.word.now there

pub returns-clause-words : goal.returns-clause-words
returns-clause-words c =
    let words = map string_bytes c.args.words.now.items in
    let known : ArePlaces c.args.places.now words = search rules in
    let free : is_one_of words c.args.word.now ≡ false = sym (place_some words c.args.word.now) ∙ (ap is_some (sym (known c.args.word.now)) ∙ (sym c.contains_key.ensures ∙ c.if-contains_key.false)) in
    word_added c.args.words.now.items c.push.new.self.items c.in_ok-owned-2.field-0 c.args.word.now free c.in_ok-owned-2.ensures.bytes c.in_ok-push.ensures.items

pub returns-clause-places : goal.returns-clause-places
returns-clause-places c =
    let words = map string_bytes c.args.words.now.items in
    let known : ArePlaces c.args.places.now words = search rules in
    let free : is_one_of words c.args.word.now ≡ false = sym (place_some words c.args.word.now) ∙ (ap is_some (sym (known c.args.word.now)) ∙ (sym c.contains_key.ensures ∙ c.if-contains_key.false)) in
    let key = string_bytes c.in_ok-owned.field-0 in
    places_more c.args.places.now c.insert.new.self c.args.words.now.items c.push.new.self.items c.in_ok-owned-2.field-0 key c.args.word.now c.len.result known free c.in_ok-owned.ensures.bytes (c.len.ensures ∙ c.args.words.now.ok.0)
    (btree_map_updates_text key c.args.places.now c.insert.new.self (Some c.len.result) c.in_ok-insert.ensures.updates) c.in_ok-owned-2.ensures.bytes c.in_ok-push.ensures.items
