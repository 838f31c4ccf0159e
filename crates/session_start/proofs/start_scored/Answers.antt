-- `start_scored` meets its contract: each way out has the tests that it took.
use Rattle.std.proofs.Common.{◌≡◌, false, [], length, sym, ◌∙◌}
use Rattle.std.proofs.lemmas.Result.{err_from_is_err_and}
use Rattle.base.specs.Replies.{refused}
use Rattle.base.specs.Refusals.{reply_of, refused_by}
use Rattle.mappings.specs.Score.{task_with}
use Rattle.session_start.specs.Noting.{bad_scoring}
use Rattle.session_start.proofs.Replies.{words_of, chunk_words, bad_numbers, long_text, bad_pattern, few_words, hits_left}
use Rattle.session_start.proofs.start_scored.Goals as goal

pub returns-in_err-allowed-clause-result_value : goal.returns-in_err-allowed-clause-result_value
returns-in_err-allowed-clause-result_value c =
    let task = task_with c.args.text.now c.args.pattern.now c.args.scoring in
    let refusal = err_from_is_err_and c.from_residual.result c.from_residual.ensures.1 in
    rw (refusal.1, refusal.2) (bad_numbers task (length c.args.work.now) _ c.in_err-allowed.ensures)

pub returns-in_err-allowed-clause-work_after : goal.returns-in_err-allowed-clause-work_after
returns-in_err-allowed-clause-work_after c =
    let task = task_with c.args.text.now c.args.pattern.now c.args.scoring in
    words_of task c.args.work.now (refused_by c.in_err-allowed.field-0.0) (bad_numbers task (length c.args.work.now) _ c.in_err-allowed.ensures)

pub returns-then-text-gt-TEXT_LIMIT-clause-result_value : goal.returns-then-text-gt-TEXT_LIMIT-clause-result_value
returns-then-text-gt-TEXT_LIMIT-clause-result_value c =
    let task = task_with c.args.text.now c.args.pattern.now c.args.scoring in
    let good : bad_scoring task.scoring ≡ false = cc (c.in_ok-allowed.ensures, c.in_ok-allowed.allowed.in_limits) in
    long_text task (length c.args.work.now) good c.if-text-gt-TEXT_LIMIT.true

pub returns-then-text-gt-TEXT_LIMIT-clause-work_after : goal.returns-then-text-gt-TEXT_LIMIT-clause-work_after
returns-then-text-gt-TEXT_LIMIT-clause-work_after c = words_of _ _ (refused 8 []) (returns-then-text-gt-TEXT_LIMIT-clause-result_value c)

pub returns-then-is_empty-clause-result_value : goal.returns-then-is_empty-clause-result_value
returns-then-is_empty-clause-result_value c =
    let task = task_with c.args.text.now c.args.pattern.now c.args.scoring in
    let good : bad_scoring task.scoring ≡ false = cc (c.in_ok-allowed.ensures, c.in_ok-allowed.allowed.in_limits) in
    bad_pattern task (length c.args.work.now) good c.if-text-gt-TEXT_LIMIT.false (rw c.is_empty.ensures at c.then-is_empty.either)

pub returns-then-is_empty-clause-work_after : goal.returns-then-is_empty-clause-work_after
returns-then-is_empty-clause-work_after c = words_of _ _ (refused 9 []) (returns-then-is_empty-clause-result_value c)

pub returns-in_default-clause-result_value : goal.returns-in_default-clause-result_value
returns-in_default-clause-result_value c =
    let task = task_with c.args.text.now c.args.pattern.now c.args.scoring in
    let good : bad_scoring task.scoring ≡ false = cc (c.in_ok-allowed.ensures, c.in_ok-allowed.allowed.in_limits) in
    few_words task (length c.args.work.now) good c.if-text-gt-TEXT_LIMIT.false (sym c.is_empty.ensures ∙ c.if-is_empty.false)
    c.if-pattern-gt-PATTERN_LIMIT.false c.in_default.ensures.cases

pub returns-in_default-clause-work_after : goal.returns-in_default-clause-work_after
returns-in_default-clause-work_after c = words_of _ _ (refused 10 []) (returns-in_default-clause-result_value c)

pub returns-clause-result_value : goal.returns-clause-result_value
returns-clause-result_value c =
    let task = task_with c.args.text.now c.args.pattern.now c.args.scoring in
    let good : bad_scoring task.scoring ≡ false = cc (c.in_ok-allowed.ensures, c.in_ok-allowed.allowed.in_limits) in
    rw c.in_ok-allowed.ensures at c.begin.ensures.result_value
    ∙ hits_left task (length c.args.work.now) good c.if-text-gt-TEXT_LIMIT.false (sym c.is_empty.ensures ∙ c.if-is_empty.false)
    c.if-pattern-gt-PATTERN_LIMIT.false c.in-Some.ensures.cases.enough

pub returns-clause-work_after : goal.returns-clause-work_after
returns-clause-work_after c =
    chunk_words (task_with c.args.text.now c.args.pattern.now c.args.scoring) c.args.work.now c.in-Some.words.now c.begin.new.work
    (reply_of c.begin.result) (rw c.in_ok-allowed.ensures at c.begin.ensures.result_value) (returns-clause-result_value c)
    c.in-Some.ensures.cases.enough c.in-Some.ensures.cases.same (rw c.in_ok-allowed.ensures at c.begin.ensures.work_after)
