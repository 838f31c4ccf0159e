-- What start's acceptance says of the task and of the work words.
use Prim.Native.Nat.{ℕ, ◌≤◌}
use mathlib.Core.Path.{◌≡◌, sym, ◌∙◌}
use mathlib.Core.Bool.{false, ◌||◌}
use mathlib.Core.List.{List, [], ◌∷◌}
use lib.Dec.{ltb, eqb}
use lib.ListN.{length}
use borrow.Author.Tests.{le-ltb, ltb-false}
use Rattle.base.specs.Limits.{outside, text_limit, pattern_limit, weight_limit, divisor_limit, hit_limit, work_words}
use Rattle.base.specs.Replies.{Reply, accepted}
use Rattle.base.proofs.Lists.{or_neither}
use Rattle.base.proofs.Replies.{not_refused}
use Rattle.mappings.specs.declared.Scoring.{Scoring}
use Rattle.mappings.specs.declared.Scoring.TheVariants.{Linear, Jaccard}
use Rattle.mappings.specs.Score.{Task}
use Rattle.mappings.specs.Cells.{hit_count}
use Rattle.mappings.proofs.Range.{SmallNumbers, Limited}
use Rattle.session_start.specs.Numbers.{first_number, second_number, kind_number}
use Rattle.session_start.specs.Start.{bad_weights, bad_fraction, judged, start_reply}
use Rattle.mapper.specs.Step.{bad_scoring}
use Rattle.mapper.specs.Promise.{Accepts}

-- the numbers of a scoring are within their limits, and its words are such as step accepts
pub record Judged (scoring : Scoring) : Type 0 where
  pub small_numbers : SmallNumbers scoring
  pub good_words : bad_scoring (kind_number scoring) (first_number scoring) (second_number scoring) ≡ false

not_judged : (scoring : Scoring) (next : Reply) (values : List ℕ) → judged scoring next ≡ accepted values → Judged scoring × (next ≡ accepted values)
unfolding bad_weights bad_fraction
not_judged (Linear u v threshold) next values e =
    let a = not_refused (bad_weights u v) 7 [] next values e in
    let both = or_neither (outside 1 weight_limit u) (outside 1 weight_limit v) a.0 in (
      record {
        small_numbers = (
          ltb-false weight_limit u (or_neither (ltb u 1) (ltb weight_limit u) both.0).1,
          ltb-false weight_limit v (or_neither (ltb v 1) (ltb weight_limit v) both.1).1,
        );
        good_words = a.0;
      },
      a.1,
    )
not_judged (Jaccard f g) next values e =
    let a = not_refused (bad_fraction f g) 17 [] next values e in
    let both = or_neither (outside 1 divisor_limit g) (ltb g f) a.0 in
    let ends = or_neither (ltb g 1) (ltb divisor_limit g) both.0 in (
      record {
        small_numbers = (ltb-false g f both.1, ltb-false g 1 ends.0, ltb-false divisor_limit g ends.1);
        good_words = a.0;
      },
      a.1,
    )

-- the scoring's numbers, text and pattern, the work words and h are within their limits, and h is answered
pub record Admitted (task : Task) (lent : ℕ) (values : List ℕ) : Type 0 where
  pub limited : Limited task
  pub good_scoring : bad_scoring (kind_number task.scoring) (first_number task.scoring) (second_number task.scoring) ≡ false
  pub few_hits : hit_count task ≤ hit_limit
  pub many_words : work_words ≤ lent
  pub answered : values ≡ hit_count task ∷ []

pub admitted : (task : Task) (lent : ℕ) (values : List ℕ) → start_reply task lent ≡ accepted values → Admitted task lent values
unfolding start_reply
admitted task lent values e =
    let size = length task.pattern in
    let a = not_judged task.scoring _ values e in
    let b = not_refused (ltb text_limit (length task.text)) 8 [] _ values a.1 in
    let c = not_refused (eqb size 0 || ltb pattern_limit size) 9 [] _ values b.1 in
    let d = not_refused (ltb lent work_words) 10 [] _ values c.1 in
    let f = not_refused (ltb hit_limit (hit_count task)) 11 (hit_count task ∷ []) _ values d.1 in
    record {
      limited = record {
        small_numbers = a.0.small_numbers;
        short_text = ltb-false text_limit (length task.text) b.0;
        short_pattern = ltb-false pattern_limit size (or_neither (eqb size 0) (ltb pattern_limit size) c.0).1;
      };
      good_scoring = a.0.good_words;
      few_hits = ltb-false hit_limit (hit_count task) f.0;
      many_words = ltb-false lent work_words d.0;
      answered = let g : accepted (hit_count task ∷ []) ≡ accepted values = f.1 in (cc);
    }

-- start accepts with any other words too, where they are enough
pub accepts_in : (task : Task) (before : List ℕ) → Accepts task before → (other : List ℕ) → work_words ≤ length other → Accepts task other
unfolding start_reply
accepts_in task before a other l =
    let d = admitted task (length before) (hit_count task ∷ []) a.accepts in
    let e : ltb (length other) work_words ≡ ltb (length before) work_words =
    le-ltb (length other) work_words l ∙ sym (le-ltb (length before) work_words d.many_words) in
    record { accepts = rw e a.accepts; threshold_fits = a.threshold_fits }
