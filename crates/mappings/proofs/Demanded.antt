-- What `Demanded` says of the answers of a list of steps, from the statement alone: each field is put to its use, so that none can say
-- less than it should.
use Prim.Native.Nat.{ℕ, zero, suc, ◌+◌, ◌≤◌, ◌<◌}
use native.Mathlib.Nat.{le_of_suc-le-suc, not-suc-le-zero, zero-lt-suc, suc_inj}
use native.Mathlib.Omega.{arith}
use mathlib.Core.Path.{◌≡◌, refl, sym, ap, ap₂, ◌∙◌, subst}
use mathlib.Core.List.{List, [], ◌∷◌, ◌++◌, Memᴰ}
use lib.ListN.{length, get_or, take, drop, replicate, length-take, take-append-drop}
use Rattle.base.specs.Lists.{keep}
use Rattle.base.specs.Limits.{work_words}
use Rattle.mappings.specs.Score.{Task}
use Rattle.mappings.specs.Definition1.{Final}
use Rattle.mappings.specs.Cells.{Cell, Mapping, mapping_of, cells, cells_of, hit_count}
use Rattle.mappings.specs.Rule.{Answer, found, finished, spent, refused, reported, Step, is_accepted, passed, handed_out}
use Rattle.mappings.specs.Steps.{step_answer, answers}
use Rattle.mappings.specs.Demand.{FinalsAmong, no_cells, with_final, without, EachOnce, Found, Finished, HasFinished, Among, step_at, answer_at}
use Rattle.mappings.specs.Demand.{passed_before, is_ample, Demanded}
use Rattle.mappings.proofs.Cells.{length_cells}
use Rattle.mappings.proofs.Rule.{total, finals_of}
use Rattle.mappings.proofs.Steps.{Lent, enough, too_few, lent, accepted_answer, refused_answer, passed_suc}
use Rattle.mappings.proofs.Demand.{take_all_cells}
use Rattle.mappings.proofs.Finals.{finals_list}

-- ---- lists

-- answers that each follow from their step and the q before it are those of the rule
by_steps : (task : Task) (q : ℕ) (steps : List Step) (given : List Answer) → length given ≡ length steps
    → ((n : ℕ) → n < length steps → answer_at given n ≡ step_answer task (q + passed_before given n) (step_at steps n))
    → given ≡ answers task q steps
unfolding answers
by_steps task q [] [] e each = refl
by_steps task q [] (answer ∷ given) e each = absurd (omega arith)
by_steps task q (step ∷ steps) [] e each = absurd (omega arith)
by_steps task q (step ∷ steps) (answer ∷ given) e each =
    let none : q + 0 ≡ q = omega arith in
    let one : answer ≡ step_answer task q step = each 0 (zero-lt-suc (length steps)) ∙ ap (λ (k : ℕ). step_answer task k step) none in
    ap₂ (λ (x : Answer) (xs : List Answer). x ∷ xs) one
    (by_steps task (q + reported (step_answer task q step)) steps given (suc_inj e)
    (λ n h.
    (let further : q + (reported answer + passed_before given n) ≡ q + reported (step_answer task q step) + passed_before given n = rw one (omega arith) in
    each (suc n) (omega arith) ∙ ap (λ (k : ℕ). step_answer task k (step_at steps n)) further)))

handed_append : (one other : List Answer) → handed_out (one ++ other) ≡ handed_out one ++ handed_out other
handed_append [] other = refl
handed_append (found mapping n ∷ rest) other = ap (λ (l : List Mapping). mapping ∷ l) (handed_append rest other)
handed_append (finished n ∷ rest) other = handed_append rest other
handed_append (spent n ∷ rest) other = handed_append rest other
handed_append (refused n ∷ rest) other = handed_append rest other

-- a mapping of these has the ends of no later one
once_apart : (one other : List Mapping) → EachOnce (one ++ other) → (mapping : Mapping) → Memᴰ mapping other
    → ¬ Among one mapping.a mapping.b
once_apart [] other once mapping m (x, in_one, ea, eb) = elim in_one [ ]
once_apart (first ∷ rest) other once mapping m (x, mathlib.Core.List.Memᴰ.head e, ea, eb) =
    once.0 mapping (mathlib.Core.List.Memᴰ.append_right rest m) (ap (λ (y : Mapping). y.a) (sym e) ∙ ea, ap (λ (y : Mapping). y.b) (sym e) ∙ eb)
once_apart (first ∷ rest) other once mapping m (x, mathlib.Core.List.Memᴰ.tail t, ea, eb) = once_apart rest other once.1 mapping m (x, t, ea, eb)

-- by their places in the list
abbrev pub mapping_at : Mapping → List Mapping → ℕ → Mapping
mapping_at default mappings n = get_or mappings n default

mem_at : (default : Mapping) (mappings : List Mapping) (n : ℕ) → n < length mappings → Memᴰ (mapping_at default mappings n) mappings
mem_at default [] n h = absurd (not-suc-le-zero h)
mem_at default (mapping ∷ rest) zero h = mathlib.Core.List.Memᴰ.head refl
mem_at default (mapping ∷ rest) (suc n) h = mathlib.Core.List.Memᴰ.tail (mem_at default rest n (le_of_suc-le-suc h))

once_at : (default : Mapping) (mappings : List Mapping) → EachOnce mappings → (i j : ℕ) → i < j → j < length mappings
    → ¬ (((mapping_at default mappings i).a ≡ (mapping_at default mappings j).a) × ((mapping_at default mappings i).b ≡ (mapping_at default mappings j).b))
once_at default [] once i j l h = absurd (not-suc-le-zero h)
once_at default (mapping ∷ rest) once i zero l h = absurd (not-suc-le-zero l)
once_at default (mapping ∷ rest) once zero (suc j) l h = once.0 (mapping_at default rest j) (mem_at default rest j (le_of_suc-le-suc h))
once_at default (mapping ∷ rest) once (suc i) (suc j) l h = once_at default rest once.1 i j (le_of_suc-le-suc l) (le_of_suc-le-suc h)

-- each of the final mappings among these cells is final
among_final : (task : Task) {cells : List Cell} {mappings : List Mapping} → FinalsAmong task cells mappings → (mapping : Mapping)
    → Memᴰ mapping mappings
    → Final task mapping.a mapping.b
unfolding mapping_of
among_final task no_cells mapping m = elim m [ ]
among_final task (with_final f rest) mapping (mathlib.Core.List.Memᴰ.head e) = rw e f
among_final task (with_final f rest) mapping (mathlib.Core.List.Memᴰ.tail t) = among_final task rest mapping t
among_final task (without n rest) mapping m = among_final task rest mapping m

-- an accepted step of one cell, and so many of them
abbrev pub one_cell : Step
one_cell = record { budget = 1; lent = work_words }

all_ample : (n : ℕ) → length (keep is_ample (replicate n one_cell)) ≡ n
unfolding is_ample is_accepted
all_ample zero = refl
all_ample (suc n) = ap suc (all_ample n)

-- ---- what is demanded

module _ (task : Task) {steps : List Step} {given : List Answer} (demanded : Demanded task steps given) where
  -- each answer is the step's own, from the q before it
  answer_is : (n : ℕ) → n < length steps → answer_at given n ≡ step_answer task (passed_before given n) (step_at steps n)
  answer_is n h = go (lent (step_at steps n))
    where
      go : Lent (step_at steps n) → answer_at given n ≡ step_answer task (passed_before given n) (step_at steps n)
      go (enough l) = demanded.by_rule n h l ∙ sym (accepted_answer task (passed_before given n) (step_at steps n) l)
      go (too_few l) = (demanded.refusals n h).1 l ∙ sym (refused_answer task (passed_before given n) (step_at steps n) l)

  -- the answers are those of the rule, one by one
  pub demanded_answers : given ≡ answers task 0 steps
  demanded_answers =
      by_steps task 0 steps given demanded.answered
      (λ n h. (let none : passed_before given n ≡ 0 + passed_before given n = omega arith in answer_is n h
      ∙ ap (λ (k : ℕ). step_answer task k (step_at steps n)) none))

  -- the q after a step: a refused one leaves it as it was
  pub demanded_next : (n : ℕ) → n < length steps
      → passed_before given (suc n) ≡ passed_before given n + reported (step_answer task (passed_before given n) (step_at steps n))
  demanded_next n h = go (lent (step_at steps n))
    where
      go : Lent (step_at steps n) → passed_before given (suc n) ≡ passed_before given n + reported (step_answer task (passed_before given n) (step_at steps n))
      go (enough l) = passed_suc given n (rw demanded.answered h) ∙ ap (λ (answer : Answer). passed_before given n + reported answer) (answer_is n h)
      go (too_few l) = demanded.unmoved n h l ∙ rw (refused_answer task (passed_before given n) (step_at steps n) l) (omega arith)

  -- a refused step was lent too few words
  pub demanded_refused : (n : ℕ) → n < length steps → answer_at given n ≡ refused 10 → (step_at steps n).lent < work_words
  demanded_refused n h e = (demanded.refusals n h).0 e

  -- as many cells as were reported have been looked at
  pub demanded_counted : length (take (passed given) (cells_of task)) ≡ passed given
  unfolding cells_of
  demanded_counted = rw (length-take (passed given) (cells (hit_count task)), length_cells (hit_count task)) (omega (arith, demanded.within))

  -- the mappings handed out, by the test
  pub demanded_list : handed_out given ≡ finals_of task (take (passed given) (cells_of task))
  demanded_list = finals_list task demanded.exact

  -- at q = h(h + 1)/2 they are all of them
  pub demanded_all : passed given ≡ total task → handed_out given ≡ finals_of task (cells_of task)
  demanded_all e = demanded_list ∙ rw (e, take_all_cells task)

  -- lists of steps that come to the same q have handed out the same
  pub demanded_same : {others : List Step} {given' : List Answer} → Demanded task others given' → passed given ≡ passed given'
      → handed_out given ≡ handed_out given'
  demanded_same demanded' e = demanded_list ∙ rw e (sym (finals_list task demanded'.exact))

  -- no two of them have the same ends
  pub demanded_once : (default : Mapping) (i j : ℕ) → i < j → j < length (handed_out given)
      → ¬ (((mapping_at default (handed_out given) i).a ≡ (mapping_at default (handed_out given) j).a)
      × ((mapping_at default (handed_out given) i).b ≡ (mapping_at default (handed_out given) j).b))
  demanded_once default = once_at default (handed_out given) demanded.once

  -- finished stands where all cells are passed, and an accepted step that finds nothing and passes the last cell answers it
  pub demanded_last : (n : ℕ) → n < length steps → Finished (answer_at given n) → passed_before given (suc n) ≡ total task
  demanded_last n h f = ((demanded.finishes n h).0 f).2

  pub demanded_finished : (n : ℕ) → n < length steps → work_words ≤ (step_at steps n).lent → ¬ Found (answer_at given n)
      → passed_before given (suc n) ≡ total task
      → Finished (answer_at given n)
  demanded_finished n h l f e = (demanded.finishes n h).1 (l, f, e)

  -- behind a step that answered finished nothing more is handed out
  pub demanded_none_later : (n : ℕ) → n < length steps → Finished (answer_at given n) → handed_out (drop (suc n) given) ≡ []
  demanded_none_later n h f = go (handed_out (drop (suc n) given)) refl
    where
      parts : handed_out given ≡ handed_out (take (suc n) given) ++ handed_out (drop (suc n) given)
      parts = ap handed_out (sym (take-append-drop (suc n) given)) ∙ handed_append (take (suc n) given) (drop (suc n) given)

      go : (later : List Mapping) → handed_out (drop (suc n) given) ≡ later → later ≡ []
      go [] e = refl
      go (mapping ∷ rest) e =
          let is : handed_out given ≡ handed_out (take (suc n) given) ++ (mapping ∷ rest) =
          parts ∙ ap (λ (l : List Mapping). handed_out (take (suc n) given) ++ l) e in
          let m : Memᴰ mapping (handed_out given) =
          subst (Memᴰ mapping) (sym is) (mathlib.Core.List.Memᴰ.append_right (handed_out (take (suc n) given)) (mathlib.Core.List.Memᴰ.head refl)) in
          let once : EachOnce (handed_out (take (suc n) given) ++ (mapping ∷ rest)) = subst EachOnce is demanded.once in
          absurd
          (once_apart (handed_out (take (suc n) given)) (mapping ∷ rest) once mapping (mathlib.Core.List.Memᴰ.head refl)
          (demanded.complete n h f mapping.a mapping.b (among_final task demanded.exact mapping m)))

  -- h(h + 1)/2 + 1 steps of one cell come to the end
  pub demanded_ends : steps ≡ replicate (suc (total task)) one_cell → HasFinished steps given
  demanded_ends e = demanded.ends (rw (e, all_ample (suc (total task))) (omega arith))
