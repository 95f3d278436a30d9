use Rattle.std.proofs.Common.{◌≡◌, ◌<◌, [], ◌∷◌, ◌++◌, List, map, Ok, Err, sym, ap, subst, ◌∙◌}
use Rattle.std.specs.Str.{chars}
use Rattle.biblatex_content.specs.Spans.{spanned_so_far}
use Rattle.biblatex_fields.specs.Abbreviations.{pieces_at}
use Rattle.biblatex_fields.specs.Refusals.{Refusal}
use Rattle.biblatex_fields.specs.Openings.{Resolved, resolved_piece_view, resolved_read, resolved_sense}
use Rattle.biblatex_fields.specs.Value.{text_read, in_order, read}
use Rattle.biblatex_fields.specs.Views.{sense_view}
use Rattle.biblatex_fields.proofs.ValueStack.{stack_read, nothing_left, next_refused, next_spelled, next_opened, one_frame}
use Rattle.biblatex_fields.proofs.OpeningsEffort.{left, less_frames, less_pieces, opened_pieces}
use Rattle.std.proofs.lemmas.Result.{err_from_is_err_and}
use Rattle.biblatex_fields.proofs.ValueRefused.{refused}
use Rattle.biblatex_fields.proofs.ViewsFrames.{Frame, frame, frame_last, frame_split, frame_empty}
use Rattle.biblatex_fields.proofs.abbreviations.Abbreviations.push_definition.Goals as goal

pub loop-frame-smaller-in_default-split_first : goal.loop-frame-smaller-in_default-split_first
loop-frame-smaller-in_default-split_first c =
    let h = c.in_default-split_first.ensures.cases in
    let frames = frame_empty c.loop-frame.frames.items c.pop.new.self.items c.in-Some.frame c.in-Some.ensures.items h in
    subst (λ (fs : List (List Resolved)). left c.args.self.now (map frame c.pop.new.self.items) < left c.args.self.now fs) (sym frames) (less_frames c.args.self.now (map frame c.pop.new.self.items))

pub loop-frame-preserved-in_default-split_first : goal.loop-frame-preserved-in_default-split_first
loop-frame-preserved-in_default-split_first c =
    let each = resolved_read c.args.self.now c.args.is_verbatim in
    let frames = frame_empty c.loop-frame.frames.items c.pop.new.self.items c.in-Some.frame c.in-Some.ensures.items c.in_default-split_first.ensures.cases in
    sym (nothing_left each (map frame c.pop.new.self.items) (spanned_so_far c.loop-frame.contents))
    ∙ (ap (λ (fs : List (List Resolved)). stack_read each fs (spanned_so_far c.loop-frame.contents)) (sym frames) ∙ c.loop-frame.invariant)

pub returns-in_err-text : goal.returns-in_err-text
returns-in_err-text c =
    let p = err_from_is_err_and c.from_residual-in_err-text.result c.from_residual-in_err-text.ensures.1 in
    let g = c.args.self.now in
    let each = resolved_read g c.args.is_verbatim in
    let fs = map frame c.pop.new.self.items in
    let next = resolved_piece_view c.in-Some-split_first.next.now in
    let ps = frame c.in-Some-split_first.rest in
    let before = frame_split c.loop-frame.frames.items c.pop.new.self.items c.in-Some.frame c.in-Some-split_first.rest c.in-Some-split_first.next.now c.in-Some.ensures.items c.in-Some-split_first.ensures.cases.0 in
    let done = spanned_so_far c.loop-frame.contents in
    let whole = in_order (read g c.args.is_verbatim) (pieces_at g.definitions c.args.index) (spanned_so_far c.args.contents) in
    let more : (f : Refusal) → resolved_sense g next ≡ Err f → whole ≡ Err f = λ f e. sym c.loop-frame.invariant
    ∙ (ap (λ (x : List (List Resolved)). stack_read each x done) before ∙ next_refused g c.args.is_verbatim fs next ps done f e) in
    rw (p.1, p.2) (refused (sense_view g.definitions) spanned_so_far c.in_err-text.field-0.0 (resolved_sense g next) whole c.in_err-text.ensures more)

pub returns-in_err-contents-in-Spelled : goal.returns-in_err-contents-in-Spelled
returns-in_err-contents-in-Spelled c =
    let p = err_from_is_err_and c.from_residual-in_err-contents-in-Spelled.result c.from_residual-in_err-contents-in-Spelled.ensures.1 in
    let g = c.args.self.now in
    let each = resolved_read g c.args.is_verbatim in
    let next = resolved_piece_view c.in-Some-split_first.next.now in
    let ps = frame c.in-Some-split_first.rest in
    let before = frame_split c.loop-frame.frames.items c.pop.new.self.items c.in-Some.frame c.in-Some-split_first.rest c.in-Some-split_first.next.now c.in-Some.ensures.items c.in-Some-split_first.ensures.cases.0 in
    let done = spanned_so_far c.loop-frame.contents in
    let whole = in_order (read g c.args.is_verbatim) (pieces_at g.definitions c.args.index) (spanned_so_far c.args.contents) in
    let is = rw c.in-Spelled.is at c.in_ok-text.ensures in
    let text = text_read c.args.is_verbatim next.raw.start next.raw.end (chars c.in-Spelled.text.now) done in
    let more : (f : Refusal) → text ≡ Err f → whole ≡ Err f = λ f e. sym c.loop-frame.invariant
    ∙ (ap (λ (x : List (List Resolved)). stack_read each x done) before ∙ next_spelled g c.args.is_verbatim (map frame c.pop.new.self.items) next ps done (chars c.in-Spelled.text.now) (Err f) is e) in
    rw (p.1, p.2) (refused spanned_so_far spanned_so_far c.in_err-contents-in-Spelled.field-0.0 text whole c.in_err-contents-in-Spelled.ensures more)

pub loop-frame-smaller-in-Spelled : goal.loop-frame-smaller-in-Spelled
loop-frame-smaller-in-Spelled c =
    let before = frame_split c.loop-frame.frames.items c.pop.new.self.items c.in-Some.frame c.in-Some-split_first.rest c.in-Some-split_first.next.now c.in-Some.ensures.items c.in-Some-split_first.ensures.cases.0 in
    let after = frame_last c.push-in-Some.new.self.items c.pop.new.self.items c.in-Some-split_first.rest c.in_ok-push-2.ensures.items in
    rw (before, after) (less_pieces c.args.self.now (map frame c.pop.new.self.items) (resolved_piece_view c.in-Some-split_first.next.now) (frame c.in-Some-split_first.rest))

pub loop-frame-preserved-in-Spelled : goal.loop-frame-preserved-in-Spelled
loop-frame-preserved-in-Spelled c =
    let g = c.args.self.now in
    let each = resolved_read g c.args.is_verbatim in
    let fs = map frame c.pop.new.self.items in
    let p = resolved_piece_view c.in-Some-split_first.next.now in
    let ps = frame c.in-Some-split_first.rest in
    let before = frame_split c.loop-frame.frames.items c.pop.new.self.items c.in-Some.frame c.in-Some-split_first.rest c.in-Some-split_first.next.now c.in-Some.ensures.items c.in-Some-split_first.ensures.cases.0 in
    let after = frame_last c.push-in-Some.new.self.items c.pop.new.self.items c.in-Some-split_first.rest c.in_ok-push-2.ensures.items in
    let is = rw c.in-Spelled.is at c.in_ok-text.ensures in
    let done = spanned_so_far c.loop-frame.contents in
    let step = next_spelled g c.args.is_verbatim fs p ps done (chars c.in-Spelled.text.now) (Ok (spanned_so_far c.in_ok-contents-in-Spelled.contents)) is c.in_ok-contents-in-Spelled.ensures in
    ap (λ (x : List (List Resolved)). stack_read each x (spanned_so_far c.in_ok-contents-in-Spelled.contents)) after
    ∙ (sym step ∙ (ap (λ (x : List (List Resolved)). stack_read each x done) (sym before) ∙ c.loop-frame.invariant))

pub loop-frame-smaller : goal.loop-frame-smaller
loop-frame-smaller c =
    let g = c.args.self.now in
    let fs = map frame c.pop.new.self.items in
    let p = resolved_piece_view c.in-Some-split_first.next.now in
    let ps = frame c.in-Some-split_first.rest in
    let before = frame_split c.loop-frame.frames.items c.pop.new.self.items c.in-Some.frame c.in-Some-split_first.rest c.in-Some-split_first.next.now c.in-Some.ensures.items c.in-Some-split_first.ensures.cases.0 in
    let rest = frame_last c.push-in-Some.new.self.items c.pop.new.self.items c.in-Some-split_first.rest c.in_ok-push-2.ensures.items in
    let after = frame_last c.push-in-Defined.new.self.items c.push-in-Some.new.self.items c.pieces-in-Defined.result c.in_ok-push-in-Defined.ensures.items in
    let is = rw c.in-Defined.is at c.in_ok-text.ensures in
    rw (before, after, rest) (opened_pieces g c.args.is_verbatim c.pieces.ensures.flags fs p ps (frame c.pieces-in-Defined.result) c.in-Defined.index is c.pieces-in-Defined.ensures.replaced)

pub loop-frame-preserved : goal.loop-frame-preserved
loop-frame-preserved c =
    let g = c.args.self.now in
    let each = resolved_read g c.args.is_verbatim in
    let fs = map frame c.pop.new.self.items in
    let p = resolved_piece_view c.in-Some-split_first.next.now in
    let ps = frame c.in-Some-split_first.rest in
    let qs = frame c.pieces-in-Defined.result in
    let before = frame_split c.loop-frame.frames.items c.pop.new.self.items c.in-Some.frame c.in-Some-split_first.rest c.in-Some-split_first.next.now c.in-Some.ensures.items c.in-Some-split_first.ensures.cases.0 in
    let rest = frame_last c.push-in-Some.new.self.items c.pop.new.self.items c.in-Some-split_first.rest c.in_ok-push-2.ensures.items in
    let after = frame_last c.push-in-Defined.new.self.items c.push-in-Some.new.self.items c.pieces-in-Defined.result c.in_ok-push-in-Defined.ensures.items in
    let is = rw c.in-Defined.is at c.in_ok-text.ensures in
    let done = spanned_so_far c.loop-frame.contents in
    let step = next_opened g c.args.is_verbatim c.pieces.ensures.flags fs p ps qs c.in-Defined.index done is c.pieces-in-Defined.ensures.replaced in
    ap (λ (x : List (List Resolved)). stack_read each x done) (after ∙ ap (λ (x : List (List Resolved)). x ++ qs ∷ []) rest)
    ∙ (sym step ∙ (ap (λ (x : List (List Resolved)). stack_read each x done) (sym before) ∙ c.loop-frame.invariant))

pub loop-frame-init : goal.loop-frame-init
loop-frame-init c =
    let g = c.args.self.now in
    let frames : map frame c.push.new.self.items ≡ frame c.pieces.result ∷ [] = ap (map frame) (c.in_ok-push.ensures.items ∙ ap (λ (x : List Frame). x ++ c.pieces.result ∷ []) c.in_ok-frames.ensures.items) in
    ap (λ (x : List (List Resolved)). stack_read (resolved_read g c.args.is_verbatim) x (spanned_so_far c.args.contents)) frames
    ∙ one_frame g c.args.is_verbatim c.pieces.ensures.flags (frame c.pieces.result) c.args.index (spanned_so_far c.args.contents) c.pieces.ensures.replaced
