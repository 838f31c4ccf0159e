-- `session::step`: each way out keeps the promise for the first words, and so for all.
use Rattle.std.proofs.Common.{◌≡◌, ◌≤◌, List, ℕ, ◌++◌, Result, length, get_or, drop, sym, ap, ◌∙◌, false, inl, inr, arith}
use Rattle.base.specs.Limits.{work_words}
use Rattle.base.specs.declared.refusal.Refusal.{Refusal}
use Rattle.session_words.specs.Layout.{columns_at, row_at, m_at, highest_at}
use Rattle.mapper.specs.declared.answer.Stepped.{Stepped}
use Rattle.mapper.specs.Promise.{StepPromise}
use Rattle.mapper.specs.Spots.{spot}
use Rattle.mapper.specs.Step.{bad_words}
use Rattle.mapper.specs.Walking.{Place, Walk, place_of, terms_in}
use Rattle.mapper.specs.declared.terms.Terms.{Terms}
use Rattle.mapper.proofs.Deciding.{SmallRates}
use Rattle.mapper.proofs.StepPromise.{few_promise, bad_promise, lost_promise, walk_promise, one_promise, kept_as, with_rest, first_long}
use Rattle.mapper.proofs.StepTests.{GoodWords, good_words, one_inside}
use Rattle.mapper.proofs.Walking.{small_terms, walk_from, one_from}
use Rattle.mapper.proofs.session.step.Goals as goal
use Rattle.mapper.proofs.session.step.Goals.{In-Some, Else-bad_words}

-- the place that stands in the words
abbrev place_read : List ℕ → Place
place_read work = place_of (get_or work columns_at 0) (get_or work row_at 0) (get_or work m_at 0) (get_or work highest_at 0)

-- what is promised of the first of the words lent holds of all
whole : (c : In-Some) {answer : Result Stepped Refusal} {after : List ℕ} → StepPromise c.in-Some.words.now c.args.budget answer after
    → StepPromise c.args.work.now c.args.budget answer (after ++ drop work_words c.args.work.now)
whole c = with_rest c.args.work.now c.args.budget c.in-Some.ensures.cases.enough c.in-Some.words.now c.in-Some.ensures.cases.same

-- the first words are enough
long : (c : In-Some) → work_words ≤ length c.in-Some.words.now
long c = first_long c.args.work.now c.args.budget c.in-Some.ensures.cases.enough c.in-Some.words.now c.in-Some.ensures.cases.same

not_bad : (c : Else-bad_words) → bad_words c.in-Some.words.now ≡ false
not_bad c = sym c.bad_words.ensures ∙ c.if-bad_words.false

good : (c : Else-bad_words) → GoodWords c.in-Some.words.now
good c = good_words c.in-Some.words.now (not_bad c)

pub returns-in_default : goal.returns-in_default
returns-in_default c = few_promise c.args.work.now c.args.budget c.in_default.ensures.cases

pub returns-then-bad_words : goal.returns-then-bad_words
returns-then-bad_words c =
    let s = (goal.at.returns-then-bad_words c).In-Some in
    whole s (bad_promise c.in-Some.words.now c.args.budget (long s) (sym c.bad_words.ensures ∙ c.if-bad_words.true))

pub returns-then-words-columns : goal.returns-then-words-columns
returns-then-words-columns c =
    let s = (goal.at.returns-then-words-columns c).In-Some in
    let g = (goal.at.returns-then-words-columns c).Else-bad_words in
    whole s (lost_promise c.in-Some.words.now c.args.budget (long s) (not_bad g) (inl c.if-words-columns.true))

-- the numbers of the scoring are small
small : (c : Else-bad_words) (terms : Terms) → terms ≡ terms_in c.in-Some.words.now → SmallRates terms.scoring
small c terms e = small_terms c.in-Some.words.now terms e (good c).small

pub invariant_of-small : goal.invariant_of-small
invariant_of-small c =
    let rates = small (goal.at.invariant_of-small c).Else-bad_words c.terms_of.result c.terms_of.ensures in
    record { small_loss = rates.0; small_gain = rates.1 }

pub invariant_of-small-2 : goal.invariant_of-small-2
invariant_of-small-2 c =
    let rates = small (goal.at.invariant_of-small-2 c).Else-bad_words c.terms_of.result c.terms_of.ensures in
    record { small_loss = rates.0; small_gain = rates.1 }

pub place_at-cell-requires : goal.place_at-cell-requires
place_at-cell-requires c =
    let g = (goal.at.place_at-cell-requires c).Else-bad_words in
    let inside = one_inside c.args.budget _ _ (sym c.one_inside.ensures ∙ c.if-one_inside.true) in
    (omega (arith, (good g).few_hits), omega (arith, inside.1))

pub walk_one-requires : goal.walk_one-requires
walk_one-requires c =
    let inside = one_inside c.args.budget _ _ (sym c.one_inside.ensures ∙ c.if-one_inside.true) in
    let columns = ap (λ (p : Place). p.columns) c.place_at-cell.ensures in
    let row = ap (λ (p : Place). p.row) c.place_at-cell.ensures in
    omega (arith, inside.1, columns, row)

pub returns-then-one_inside : goal.returns-then-one_inside
returns-then-one_inside c =
    let s = (goal.at.returns-then-one_inside c).In-Some in
    let g = (goal.at.returns-then-one_inside c).Else-bad_words in
    let words = c.in-Some.words.now in
    let terms = c.terms_of.ensures in
    let inside = one_inside c.args.budget _ _ (sym c.one_inside.ensures ∙ c.if-one_inside.true) in
    let read : one_from c.terms_of.result (spot c.place_at-cell.result) words ≡ one_from (terms_in words) (place_read words) words =
    λ i. one_from (terms i) (c.place_at-cell.ensures i) words in
    whole s
    (kept_as words c.args.budget _ _ _ (c.walk_one.ensures.value ∙ ap (λ (w : Walk). w.answer) read)
    (c.walk_one.ensures.work_after ∙ ap (λ (w : Walk). w.words) read) (one_promise words c.args.budget (long s) (not_bad g) inside.0 inside.1))

pub returns-then-columns-row : goal.returns-then-columns-row
returns-then-columns-row c =
    let s = (goal.at.returns-then-columns-row c).In-Some in
    let g = (goal.at.returns-then-columns-row c).Else-bad_words in
    whole s (lost_promise c.in-Some.words.now c.args.budget (long s) (not_bad g) (inr c.if-columns-row.true))

pub place_at-place-requires : goal.place_at-place-requires
place_at-place-requires c =
    let g = (goal.at.place_at-place-requires c).Else-bad_words in
    (omega (arith, (good g).few_hits), c.if-columns-row.false)

pub returns : goal.returns
returns c =
    let s = (goal.at.returns c).In-Some in
    let g = (goal.at.returns c).Else-bad_words in
    let words = c.in-Some.words.now in
    let terms = c.terms_of.ensures in
    let read : walk_from c.terms_of.result c.args.budget (spot c.place_at-place.result) c.args.budget words
    ≡ walk_from (terms_in words) c.args.budget (place_read words) c.args.budget words =
    λ i. walk_from (terms i) c.args.budget (c.place_at-place.ensures i) c.args.budget words in
    whole s
    (kept_as words c.args.budget _ _ _ (c.walk.ensures.value ∙ ap (λ (w : Walk). w.answer) read)
    (c.walk.ensures.work_after ∙ ap (λ (w : Walk). w.words) read) (walk_promise words c.args.budget (long s) (not_bad g)))
