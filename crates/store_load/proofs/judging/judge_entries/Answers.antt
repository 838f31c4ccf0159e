-- What judging finds from this turn's words on, it finds in all words.
use Rattle.std.proofs.Common.{ℕ, suc, ◌≡◌, ◌+◌, ◌*◌, ◌^◌, ◌≤◌, ◌<◌, min, Bool, ◌&&◌, List, [], ◌∷◌, length, drop, get_or, ap, sym, ◌∙◌, add-one, arith}
use Rattle.std.proofs.Common.{drop_of_length-le}
use Rattle.std.proofs.Math.Seq.{drop-cons}
use lib.Dec.{eqb, ltb}
use Rattle.base.specs.Limits.{k_limit}
use Rattle.base.specs.Replies.{Reply, refused}
use Rattle.base.proofs.Lists.{and_right}
use Rattle.store.specs.Words.{kind, content, is_position, is_code_word}
use Rattle.store.specs.Load.{Judged, judge_from}
use Rattle.store.proofs.WordLaws.{is_code_limit, is_position_range}
use Rattle.store.proofs.Judging.{judge_last_lem, judge_first, judge_half, judge_second, judge_entry}
use Rattle.store_load.specs.Counted.{counted}
use Rattle.store_load.proofs.Counted.{counted_entry}
use Rattle.store_load.proofs.judging.judge_entries.Goals as goal

module _ (k index n low : ℕ) (ws : List ℕ) {j : Judged} {r : Reply} (same : counted n (judge_from k index n low (drop index ws)) ≡ r) where
  found : index < length ws → judge_from k index n low (get_or ws index 0 ∷ drop (suc index) ws) ≡ j → counted n j ≡ r
  found h e = ap (counted n) (sym (ap (judge_from k index n low) (drop-cons ws index 0 h) ∙ e)) ∙ same

  found_alone : index < length ws → length ws ≤ suc index → judge_from k index n low (get_or ws index 0 ∷ []) ≡ j → counted n j ≡ r
  found_alone h end e = found h (ap (λ (rest : List ℕ). judge_from k index n low (get_or ws index 0 ∷ rest)) (drop_of_length-le ws end) ∙ e)

  found_both :
      suc index < length ws →
      judge_from k index n low (get_or ws index 0 ∷ get_or ws (suc index) 0 ∷ drop (suc (suc index)) ws) ≡ j →
      counted n j ≡ r
  found_both h e =
      found (omega arith) (ap (λ (rest : List ℕ). judge_from k index n low (get_or ws index 0 ∷ rest)) (drop-cons ws (suc index) 0 h) ∙ e)

-- the test of a code's word, against the limit that was computed
code_test : (k limit x : ℕ) {b : Bool} → k ≤ k_limit → limit ≡ 4 ^ min k k_limit → b ≡ (eqb (kind x) 1 && ltb (content x) limit) → is_code_word k x ≡ b
code_test k limit x h e t = ap (λ (b : Bool). eqb (kind x) 1 && b) (is_code_limit k limit (content x) h e) ∙ sym t

pub returns-then-is_end_word : goal.returns-then-is_end_word
returns-then-is_end_word c =
    let k = c.args.k in
    let n = c.loop-n.n in
    let ws = c.args.words.now in
    let at = 2 * n + 1 in
    c.judge_last.ensures
    ∙ found k at n c.loop-n.low ws c.loop-n.invariant.same_answer (omega arith)
    (judge_last_lem k at n c.loop-n.low (get_or ws at 0) (drop (suc at) ws) (sym c.is_end_word.ensures ∙ c.if-is_end_word.true))

pub returns-then-not-is_code_word : goal.returns-then-not-is_code_word
returns-then-not-is_code_word c =
    let k = c.args.k in
    let n = c.loop-n.n in
    let ws = c.args.words.now in
    let at = 2 * n + 1 in
    let x = get_or ws at 0 in
    let no_code = code_test k c.code_limit-limit.result x c.requires.1 c.code_limit-limit.ensures c.is_code_word.ensures ∙ c.if-not-is_code_word.true in
    found k at n c.loop-n.low ws c.loop-n.invariant.same_answer (omega arith)
    (judge_first k at n c.loop-n.low x (drop (suc at) ws) (sym c.is_end_word.ensures ∙ c.if-is_end_word.false) no_code)

pub returns-then-words-next : goal.returns-then-words-next
returns-then-words-next c =
    let k = c.args.k in
    let n = c.loop-n.n in
    let ws = c.args.words.now in
    let at = 2 * n + 1 in
    let x = get_or ws at 0 in
    let code = code_test k c.code_limit-limit.result x c.requires.1 c.code_limit-limit.ensures c.is_code_word.ensures ∙ c.if-not-is_code_word.false in
    ap (λ (i : ℕ). refused 14 (i ∷ [])) (add-one at)
    ∙ found_alone k at n c.loop-n.low ws c.loop-n.invariant.same_answer (omega arith) (omega arith) (judge_half k at n c.loop-n.low x code)

pub returns-then-not-is_position_word : goal.returns-then-not-is_position_word
returns-then-not-is_position_word c =
    let k = c.args.k in
    let n = c.loop-n.n in
    let ws = c.args.words.now in
    let at = 2 * n + 1 in
    let x = get_or ws at 0 in
    let code = code_test k c.code_limit-limit.result x c.requires.1 c.code_limit-limit.ensures c.is_code_word.ensures ∙ c.if-not-is_code_word.false in
    let no_position = rw (add-one at) at (sym c.is_position_word.ensures ∙ c.if-not-is_position_word.true) in
    ap (λ (i : ℕ). refused 13 (i ∷ [])) (add-one at)
    ∙ found_both k at n c.loop-n.low ws c.loop-n.invariant.same_answer (omega arith)
    (judge_second k at n c.loop-n.low x (get_or ws (suc at) 0) (drop (suc (suc at)) ws) code no_position)

pub overflow_add-low : goal.overflow_add-low
overflow_add-low c =
    let y = get_or c.args.words.now (2 * c.loop-n.n + 1 + 1) 0 in
    let position = sym c.is_position_word.ensures ∙ c.if-not-is_position_word.false in
    let low = and_right (eqb (kind y) 2) (is_position c.loop-n.low (content y)) position in
    omega (arith, c.content-low.ensures, is_position_range c.loop-n.low (content y) low)

pub loop-n-preserved : goal.loop-n-preserved
loop-n-preserved c =
    let k = c.args.k in
    let n = c.loop-n.n in
    let ws = c.args.words.now in
    let at = 2 * n + 1 in
    let x = get_or ws at 0 in
    let y = get_or ws (suc at) 0 in
    let code = code_test k c.code_limit-limit.result x c.requires.1 c.code_limit-limit.ensures c.is_code_word.ensures ∙ c.if-not-is_code_word.false in
    let position = rw (add-one at) at (sym c.is_position_word.ensures ∙ c.if-not-is_position_word.false) in
    let next : 2 * (n + 1) + 1 ≡ suc (suc at) = omega arith in
    let low : c.content-low.result + 1 ≡ suc (content y) = rw (add-one c.content-low.result, ← add-one at) (ap suc c.content-low.ensures) in
    record {
      in_words = omega arith;
      same_answer =
          rw (next, low, add-one n)
          (counted_entry n (record { code = content x; position = content y }) (judge_from k (suc (suc at)) (suc n) (suc (content y)) (drop (suc (suc at)) ws))
          ∙ found_both k at n c.loop-n.low ws c.loop-n.invariant.same_answer (omega arith)
          (judge_entry k at n c.loop-n.low x y (drop (suc (suc at)) ws) code position));
    }

pub returns : goal.returns
unfolding judge_from
returns c =
    let n = c.loop-n.n in
    let ws = c.args.words.now in
    let at = 2 * n + 1 in
    let end : length ws ≡ at = omega arith in
    let none : length ws ≤ at = omega arith in
    ap (λ (i : ℕ). refused 14 (i ∷ [])) end
    ∙ ap (λ (rest : List ℕ). counted n (judge_from c.args.k at n c.loop-n.low rest)) (sym (drop_of_length-le ws none))
    ∙ c.loop-n.invariant.same_answer
