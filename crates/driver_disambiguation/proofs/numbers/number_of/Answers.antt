use Rattle.std.proofs.Common.{◌≡◌, None, string_bytes, sym, ap, ◌∙◌, rules}
use Rattle.std.specs.BTreeMap.{btree_map_len}
use Rattle.std.specs.Option.{option_copied}
use Rattle.driver_disambiguation.specs.Numbered.{number_under}
use Rattle.driver_disambiguation.proofs.Numbering.{looked_up, next_number, own_number, put_len, put_text, same_numbers, same_still, still_number}
use Rattle.driver_disambiguation.proofs.numbers.number_of.Goals as goal

pub returns-in-Some-clause-number : goal.returns-in-Some-clause-number
returns-in-Some-clause-number c =
    let key = c.new-text.result in
    let is : string_bytes key.text ≡ c.args.text.now = c.new-text.ensures ∙ c.in_ok-from_str.ensures.ok in
    sym (looked_up c.args.texts.now key ∙ ap (number_under c.args.texts.now) is) ∙ sym c.get.ensures.value ∙ ap option_copied c.in-Some.is

pub returns-in_err-insert-clause-texts : goal.returns-in_err-insert-clause-texts
returns-in_err-insert-clause-texts c = same_numbers c.args.texts.now c.insert.new.self c.in_err-insert.ensures.err c.requires

pub returns-in_err-insert-clause-still : goal.returns-in_err-insert-clause-still
returns-in_err-insert-clause-still c = same_still c.args.texts.now c.insert.new.self c.in_err-insert.ensures.err

pub returns-clause-texts : goal.returns-clause-texts
returns-clause-texts c =
    let old = c.args.texts.now in
    let key = c.new-text.result in
    let is : string_bytes key.text ≡ c.args.text.now = c.new-text.ensures ∙ c.in_ok-from_str.ensures.ok in
    let absent : number_under old c.args.text.now ≡ None = sym (looked_up old key ∙ ap (number_under old) is) ∙ sym c.get.ensures.value ∙ ap option_copied c.in_default.is in
    let len : c.len-number.result ≡ btree_map_len old = search rules in
    let after = put_text old c.insert.new.self key c.args.text.now c.len-number.result is c.in_ok-insert.ensures.entries in
    next_number old c.insert.new.self c.args.text.now c.len-number.result len
    (put_len old c.insert.new.self key c.args.text.now c.len-number.result c.in_ok-insert.field-0 is len absent c.in_ok-insert.ensures.old c.in_ok-insert.ensures.len) after c.requires

pub returns-clause-still : goal.returns-clause-still
returns-clause-still c =
    let old = c.args.texts.now in
    let key = c.new-text.result in
    let is : string_bytes key.text ≡ c.args.text.now = c.new-text.ensures ∙ c.in_ok-from_str.ensures.ok in
    let absent : number_under old c.args.text.now ≡ None = sym (looked_up old key ∙ ap (number_under old) is) ∙ sym c.get.ensures.value ∙ ap option_copied c.in_default.is in
    still_number old c.insert.new.self c.args.text.now c.len-number.result absent (put_text old c.insert.new.self key c.args.text.now c.len-number.result is c.in_ok-insert.ensures.entries)

pub returns-clause-number : goal.returns-clause-number
returns-clause-number c =
    let key = c.new-text.result in
    let is : string_bytes key.text ≡ c.args.text.now = c.new-text.ensures ∙ c.in_ok-from_str.ensures.ok in
    own_number c.args.texts.now c.insert.new.self c.args.text.now c.len-number.result (put_text c.args.texts.now c.insert.new.self key c.args.text.now c.len-number.result is c.in_ok-insert.ensures.entries)
