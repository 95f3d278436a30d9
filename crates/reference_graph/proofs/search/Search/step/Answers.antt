use Rattle.std.proofs.Common.{ℕ, List, length, ap, ◌∙◌, arith}
use Rattle.reference_graph.specs.References.{lists}
use Rattle.reference_graph.specs.Search.{search_view, visit_of, unread_of}
use Rattle.reference_graph.proofs.SearchLists.{read_index}
use Rattle.reference_graph.proofs.SearchFollowing.{is_last, unread_stays}
use Rattle.reference_graph.proofs.SearchVisits.{path_below}
use Rattle.reference_graph.proofs.SearchStepping.{read_step}
use Rattle.reference_graph.proofs.SearchVectors.{lists_long}
use Rattle.reference_graph.proofs.search.Search.step.Goals as goal

pub index-number-requires : goal.index-number-requires
index-number-requires c =
    let l = is_last (lists c.args.references.now) (search_view c.args.self.now) c.args.index c.requires.holds c.requires.some c.requires.last in
    let inside = l.inside in
    omega (arith, c.args.self.now.path.ok.0)

pub index-unread-requires : goal.index-unread-requires
index-unread-requires c =
    let R = lists c.args.references.now in
    let s = search_view c.args.self.now in
    let l = is_last R s c.args.index c.requires.holds c.requires.some c.requires.last in
    let is = read_index s.path c.args.index c.index-number.result.now l.inside c.index-number.ensures in
    let b = path_below R s c.requires.holds c.args.index l.inside in
    let u = c.requires.holds.unread_long in
    omega (arith, c.args.self.now.unread.ok.0)

pub leave-requires-clause-whole : goal.leave-requires-clause-whole
leave-requires-clause-whole c =
    let R = lists c.args.references.now in
    let s = search_view c.args.self.now in
    let l = is_last R s c.args.index c.requires.holds c.requires.some c.requires.last in
    let is = read_index s.path c.args.index c.index-number.result.now l.inside c.index-number.ensures in
    let b = path_below R s c.requires.holds c.args.index l.inside in
    let u = c.requires.holds.unread_long in
    let e = read_index s.unread c.index-number.result.now c.index-unread.result.now (omega arith) c.index-unread.ensures in
    ap (λ (v : ℕ). unread_of s v) is ∙ (e ∙ c.if-unread-eq0.true)

pub reference_at-requires-clause-there : goal.reference_at-requires-clause-there
reference_at-requires-clause-there c =
    let R = lists c.args.references.now in
    let s = search_view c.args.self.now in
    let l = is_last R s c.args.index c.requires.holds c.requires.some c.requires.last in
    let is = read_index s.path c.args.index c.index-number.result.now l.inside c.index-number.ensures in
    let b = path_below R s c.requires.holds c.args.index l.inside in
    let n = lists_long c.args.references.now in
    omega arith

pub reference_at-requires-clause-some : goal.reference_at-requires-clause-some
reference_at-requires-clause-some c =
    let R = lists c.args.references.now in
    let s = search_view c.args.self.now in
    let l = is_last R s c.args.index c.requires.holds c.requires.some c.requires.last in
    let is = read_index s.path c.args.index c.index-number.result.now l.inside c.index-number.ensures in
    let b = path_below R s c.requires.holds c.args.index l.inside in
    let u = c.requires.holds.unread_long in
    let e = read_index s.unread c.index-number.result.now c.index-unread.result.now (omega arith) c.index-unread.ensures in
    let w = c.requires.holds.within c.index-number.result.now in
    let some = c.if-unread-eq0.false in
    omega arith

pub index_mut-requires : goal.index_mut-requires
index_mut-requires c =
    let R = lists c.args.references.now in
    let s = search_view c.args.self.now in
    let l = is_last R s c.args.index c.requires.holds c.requires.some c.requires.last in
    let is = read_index s.path c.args.index c.index-number.result.now l.inside c.index-number.ensures in
    let b = path_below R s c.requires.holds c.args.index l.inside in
    let u = c.requires.holds.unread_long in
    let e = unread_stays s (search_view c.follow.new.self) c.reference_at.result (visit_of s c.reference_at.result) c.in_ok-follow.ensures in
    let n = ap (λ (xs : List ℕ). length xs) e in
    omega (arith, c.follow.new.self.unread.ok.0)

pub returns : goal.returns
returns c =
    let R = lists c.args.references.now in
    let s = search_view c.args.self.now in
    let l = is_last R s c.args.index c.requires.holds c.requires.some c.requires.last in
    let is = read_index s.path c.args.index c.index-number.result.now l.inside c.index-number.ensures in
    let b = path_below R s c.requires.holds c.args.index l.inside in
    let u = c.requires.holds.unread_long in
    let e = read_index s.unread c.index-number.result.now c.index-unread.result.now (omega arith) c.index-unread.ensures in
    let some = c.if-unread-eq0.false in
    read_step R s (search_view c.follow.new.self) c.args.index c.index-number.result.now c.index-unread.result.now c.reference_at.result l is e (omega arith) c.reference_at.ensures c.in_ok-follow.ensures
