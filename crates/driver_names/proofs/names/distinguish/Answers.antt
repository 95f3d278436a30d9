use Rattle.std.proofs.Common.{◌≡◌, ◌-◌, length, ap, ◌∙◌, arith}
use Rattle.std.specs.Prelude.{fold}
use Rattle.std.specs.List.{range_with_len}
use Rattle.std.proofs.lemmas.List.{length-map}
use Rattle.driver_names.specs.Names.{distinguished_by}
use Rattle.driver_names.specs.NamesViews.{member_view, members_view}
use Rattle.driver_names.proofs.FormsShared.{forms_at, forms_still, share_first, share_next}
use Rattle.driver_names.proofs.NamesDistinguished.{distinguished_more}
use Rattle.driver_names.proofs.SharedStill.{shared_still}
use Rattle.driver_names.proofs.names.distinguish.Goals as goal

pub loop-index-init : goal.loop-index-init
loop-index-init c = record {
  folded = ap (λ n. fold distinguished_by (members_view c.args.members.now.items) (range_with_len 0 n)) (let all : c.args.compared - 0 ≡ c.args.compared = omega arith in all);
  shared = c.requires.shared;
  forms = c.requires.forms;
  share_before = share_first c.args.compared (members_view c.args.members.now.items);
}

pub distinguish_by-requires-clause-len : goal.distinguish_by-requires-clause-len
distinguish_by-requires-clause-len c = ap length c.loop-index.invariant.shared ∙ length-map (members_view c.loop-index.members.items) _ ∙ length-map c.loop-index.members.items member_view

pub distinguish_by-requires-clause-shared : goal.distinguish_by-requires-clause-shared
distinguish_by-requires-clause-shared c = (c.args.compared, c.loop-index-test.true, c.loop-index.invariant.shared)

pub distinguish_by-requires-clause-form_len : goal.distinguish_by-requires-clause-form_len
distinguish_by-requires-clause-form_len c = ap length c.loop-index.invariant.forms ∙ length-map (members_view c.loop-index.members.items) _ ∙ length-map c.loop-index.members.items member_view

pub distinguish_by-requires-clause-forms : goal.distinguish_by-requires-clause-forms
distinguish_by-requires-clause-forms c =
    forms_at c.args.compared c.loop-index.index (members_view c.loop-index.members.items) c.args.forms.now c.loop-index-test.true c.loop-index.invariant.share_before c.loop-index.invariant.forms

pub loop-index-preserved : goal.loop-index-preserved
loop-index-preserved c =
    let old = members_view c.loop-index.members.items in
    let new = members_view c.distinguish_by.new.members.items in
    let most = c.args.compared in
    let index = c.loop-index.index in
    let low = c.loop-index-test.true in
    let distinction_of = c.in_ok-distinguish_by.ensures in
    let before = c.loop-index.invariant in
    record {
      folded = distinguished_more old new (members_view c.args.members.now.items) index most low before.folded distinction_of;
      shared = shared_still most index old new c.args.shared.now before.shared distinction_of;
      forms = forms_still most index old new c.args.forms.now before.forms distinction_of;
      share_before = share_next most index old new low distinction_of;
    }
