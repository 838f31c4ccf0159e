-- `begin` meets its contract: the words lent on are a copy of the pattern in order, and what is noted of the hits is the task's.
use Rattle.std.proofs.Common.{◌≤◌, length, refl, arith}
use Rattle.mappings.specs.Score.{task_with}
use Rattle.session_start.proofs.Starting.{sorted_front, number_is, index_are, slots_begin, backs_are, reply_hits, reply_many}
use Rattle.session_start.proofs.begin.Goals as goal

pub invariant_of-sorted : goal.invariant_of-sorted
invariant_of-sorted c =
    let copy = sorted_front c.args.pattern.now c.copies-words.result c.sort_words.new.sorted c.sort_words.ensures.sorted_after c.requires.1
    (omega (arith, c.copies-words.ensures.len)) in
    record { in_order = copy.in_order; few = omega (arith, copy.same_length) }

pub returns-then-h-gt-HIT_LIMIT-clause-result_value : goal.returns-then-h-gt-HIT_LIMIT-clause-result_value
returns-then-h-gt-HIT_LIMIT-clause-result_value c =
    let copy = sorted_front c.args.pattern.now c.copies-words.result c.sort_words.new.sorted c.sort_words.ensures.sorted_after c.requires.1
    (omega (arith, c.copies-words.ensures.len)) in
    let task = task_with c.args.text.now c.args.pattern.now c.args.allowed.scoring in
    reply_many task c.collect-h.result
    (number_is task _ c.collect-h.new.index c.collect-h.new.slots c.collect-h.result copy c.collect-h.ensures) c.if-h-gt-HIT_LIMIT.true

pub put_session-requires-clause-begin : goal.put_session-requires-clause-begin
put_session-requires-clause-begin c =
    let copy = sorted_front c.args.pattern.now c.copies-words.result c.sort_words.new.sorted c.sort_words.ensures.sorted_after c.requires.1
    (omega (arith, c.copies-words.ensures.len)) in
    slots_begin (task_with c.args.text.now c.args.pattern.now c.args.allowed.scoring) _ c.collect-h.new.index c.collect-h.new.slots
    c.collect-h.result copy c.collect-h.ensures (omega (arith, c.copies-index.ensures.len)) (omega (arith, c.copies-slots.ensures.len))

pub returns-clause-result_value : goal.returns-clause-result_value
returns-clause-result_value c =
    let copy = sorted_front c.args.pattern.now c.copies-words.result c.sort_words.new.sorted c.sort_words.ensures.sorted_after c.requires.1
    (omega (arith, c.copies-words.ensures.len)) in
    let task = task_with c.args.text.now c.args.pattern.now c.args.allowed.scoring in
    reply_hits task c.collect-h.result
    (number_is task _ c.collect-h.new.index c.collect-h.new.slots c.collect-h.result copy c.collect-h.ensures) c.if-h-gt-HIT_LIMIT.false

pub returns-clause-work_after : goal.returns-clause-work_after
returns-clause-work_after c =
    let copy = sorted_front c.args.pattern.now c.copies-words.result c.sort_words.new.sorted c.sort_words.ensures.sorted_after c.requires.1
    (omega (arith, c.copies-words.ensures.len)) in
    let task = task_with c.args.text.now c.args.pattern.now c.args.allowed.scoring in
    let index = c.collect-h.new.index in
    let slots = c.collect-h.new.slots in
    let h = c.collect-h.result in
    let room : h ≤ length index = omega (arith, c.copies-index.ensures.len) in
    let space : h ≤ length slots = omega (arith, c.copies-slots.ensures.len) in
    c.put_session.ensures task
    (record {
      scoring_is = refl;
      size_is = copy.same_length;
      index_is = index_are task _ index slots h copy c.collect-h.ensures room space;
      backs_are = backs_are task _ index slots h copy c.collect-h.ensures room space;
    })
