-- `open_reverse` meets its contract: the complement in the local letters, and then the calls.
use Rattle.std.proofs.Common.{arith, refl, sym, ap, ◌∙◌, ◌≤◌, length}
use Rattle.std.specs.Prelude.{ℕ, List}
use mathlib.Core.Path.{subst}
use Rattle.strands.proofs.Laws.{length_complement}
use Rattle.list_open.specs.Opening.{Opens}
use Rattle.list_sessions.proofs.Complement.{complemented, all_written, front}
use Rattle.list_sessions.proofs.open_reverse.Goals as goal

pub unwrap-n-requires : goal.unwrap-n-requires
unwrap-n-requires c =
    let room : length c.args.read.now ≤ length c.copies-letters.result = omega (arith, c.requires, c.copies-letters.ensures.len) in
    rw (complemented _ _ _ room _ c.reverse_complement.ensures.result_value c.reverse_complement.ensures.out_after) refl

pub slice_bounds-letters-end : goal.slice_bounds-letters-end
slice_bounds-letters-end c =
    let room : length c.args.read.now ≤ length c.copies-letters.result = omega (arith, c.requires, c.copies-letters.ensures.len) in
    let n =
    all_written _ _ _ room _ c.reverse_complement.ensures.result_value c.reverse_complement.ensures.out_after _ c.unwrap-n.ensures in
    omega (arith, room, n, c.reverse_complement.auto.out)

pub slice_bounds-open-end : goal.slice_bounds-open-end
slice_bounds-open-end c =
    let room : length c.args.read.now ≤ length c.copies-letters.result = omega (arith, c.requires, c.copies-letters.ensures.len) in
    let made = c.reverse_complement.ensures in
    all_written _ _ _ room _ made.result_value made.out_after _ c.unwrap-n.ensures
    ∙ sym (ap length (front _ _ _ room _ made.result_value made.out_after _ c.unwrap-n.ensures) ∙ length_complement c.args.read.now)

pub returns : goal.returns
returns c =
    let room : length c.args.read.now ≤ length c.copies-letters.result = omega (arith, c.requires, c.copies-letters.ensures.len) in
    let made = c.reverse_complement.ensures in
    subst
    (λ (l : List ℕ). Opens c.args.settings c.args.text.now l c.args.positions.now c.args.work.now c.«open».result
    c.«open».new.positions c.«open».new.work)
    (front _ _ _ room _ made.result_value made.out_after _ c.unwrap-n.ensures) c.«open».ensures
