-- `walk::walk`: each way out answers what the whole walk does.
use Rattle.std.proofs.Common.{◌≡◌, ◌-◌, sym, ap, ◌∙◌, arith}
use Rattle.mapper.specs.Spots.{spot}
use Rattle.mapper.specs.Walking.{Place, settled_words, settled, Walk, spent_walk, finished_walk, found_walk}
use Rattle.mapper.proofs.Walking.{walk_from, Stops, update_stops, spent_rest, less_left, walk_finished, walk_spent, walk_found, walk_on_lem}
use Rattle.mapper.proofs.walk.walk.Goals as goal
use Rattle.mapper.proofs.walk.walk.Goals.{After-update-p}

-- where the column's update has stopped
stops : (c : After-update-p) → Stops c.loop-place.place.columns c.loop-place.place.row c.loop-place.left c.update-p.result
stops c = update_stops c.args.small.terms _ _ _ _ _ _ _ c.loop-place-test.true c.loop-place.place.row_within c.update-p.ensures.value

pub returns-then-left-eq0 : goal.returns-then-left-eq0
unfolding spent_walk
returns-then-left-eq0 c =
    let e =
    sym c.loop-place.invariant.same_walk
    ∙ walk_spent c.args.small.terms c.args.budget _ _ _ _ _ _ c.loop-place-test.true c.if-left-eq0.true in
    record {
      value = ap (λ (w : Walk). w.answer) (sym e);
      work_after = c.save.ensures ∙ ap (λ (w : Walk). w.words) (sym e);
    }

pub overflow_sub-left : goal.overflow_sub-left
overflow_sub-left c = (stops (goal.at.overflow_sub-left c).After-update-p).from

pub overflow_sub-left-in-loop-place : goal.overflow_sub-left-in-loop-place
overflow_sub-left-in-loop-place c = (stops (goal.at.overflow_sub-left-in-loop-place c).After-update-p).spends

pub found-requires : goal.found-requires
found-requires c =
    let s = stops (goal.at.found-requires c).After-update-p in
    let moved = s.moved c.if-p.true in
    (c.loop-place-test.true, omega arith, s.within, omega arith)

pub returns-then-p : goal.returns-then-p
returns-then-p c =
    let u = c.update-p in
    let columns = c.loop-place.place.columns in
    let cells = c.args.budget - (c.loop-place.left - (u.result.row - c.loop-place.place.row)) in
    let settles : found_walk c.args.small.terms c.settle-place.new.work columns u.result (spot c.settle-place.result) cells
    ≡ found_walk c.args.small.terms (settled_words u.new.work columns u.result) columns u.result (settled u.new.work columns u.result) cells =
    λ i. found_walk c.args.small.terms (c.settle-place.ensures.work_after i) columns u.result (c.settle-place.ensures.value i) cells in
    let e =
    settles
    ∙ sym (walk_found c.args.small.terms c.args.budget _ _ _ _ _ _ c.loop-place-test.true c.if-left-eq0.false u.result u.new.work u.ensures.value
    u.ensures.work_after c.if-p.true)
    ∙ c.loop-place.invariant.same_walk in
    record {
      value = c.found.ensures.value ∙ ap (λ (w : Walk). w.answer) e;
      work_after = c.found.ensures.work_after ∙ ap (λ (w : Walk). w.words) e;
    }

pub loop-place-smaller : goal.loop-place-smaller
loop-place-smaller c =
    let s = stops (goal.at.loop-place-smaller c).After-update-p in
    let u = c.update-p in
    let place = c.loop-place.place in
    let less = less_left place.columns place.row c.loop-place.left u.result s c.if-p.false u.new.work c.loop-place-test.true c.if-left-eq0.false in
    let columns_are = ap (λ (q : Place). q.columns) c.settle-place.ensures.value in
    omega (arith, less, columns_are)

pub loop-place-preserved : goal.loop-place-preserved
loop-place-preserved c =
    let s = stops (goal.at.loop-place-preserved c).After-update-p in
    let u = c.update-p in
    let place = c.loop-place.place in
    let rest = c.loop-place.left - (u.result.row - place.row) in
    let goes =
    walk_on_lem c.args.small.terms c.args.budget _ _ _ _ _ _ c.loop-place-test.true c.if-left-eq0.false u.result u.new.work u.ensures.value
    u.ensures.work_after c.if-p.false c.loop-place.invariant.left_within
    (spent_rest place.columns place.row c.loop-place.left u.result s c.if-p.false) in
    let settles : walk_from c.args.small.terms c.args.budget (spot c.settle-place.result) rest c.settle-place.new.work
    ≡ walk_from c.args.small.terms c.args.budget (settled u.new.work place.columns u.result) rest (settled_words u.new.work place.columns u.result) =
    λ i. walk_from c.args.small.terms c.args.budget (c.settle-place.ensures.value i) rest (c.settle-place.ensures.work_after i) in
    record {
      number = omega arith;
      left_within = omega arith;
      same_walk = settles ∙ sym goes ∙ c.loop-place.invariant.same_walk;
    }

pub returns : goal.returns
unfolding finished_walk
returns c =
    let none : c.loop-place.place.columns ≡ 0 = omega arith in
    let e = sym c.loop-place.invariant.same_walk ∙ walk_finished c.args.small.terms c.args.budget _ _ _ _ _ _ none in
    record {
      value = ap (λ (w : Walk). w.answer) (sym e);
      work_after = c.save-2.ensures ∙ ap (λ (w : Walk). w.words) (sym e);
    }
