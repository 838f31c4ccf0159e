-- What a step hands out, the mappings that are left after it, and that the numbers of their lines hold them.
use Prim.Native.Nat.{ℕ, suc, ◌+◌, ◌≤◌, ◌<◌}
use native.Mathlib.Omega.{arith}
use mathlib.Core.Path.{◌≡◌, refl, sym, ap, ◌∙◌, subst}
use mathlib.Core.Bool.{Bool, true, false}
use mathlib.Core.List.{List, [], ◌∷◌, ◌++◌, map}
use lib.ListN.{length, take, drop, take-append-drop}
use lib.Seq.{drop-drop}
use Rattle.base.specs.Limits.{text_limit, pattern_limit}
use Rattle.base.specs.Lists.{keep}
use Rattle.base.proofs.Lists.{keep_append, map_append}
use Rattle.mappings.specs.Score.{Task, length_of}
use Rattle.mappings.specs.Definition1.{Final}
use Rattle.mappings.specs.Cells.{Cell, Mapping, cells, cells_of, hit_count, mapping_of, left_end, right_end}
use Rattle.mappings.specs.FinalTest.{is_final_cell}
use Rattle.mappings.specs.Rule.{Answer, found, finished, spent, refused, reported, rule_answer, handed_out}
use Rattle.mappings.proofs.Cells.{drop_all_cells}
use Rattle.mappings.proofs.Definition1.{test_final}
use Rattle.mappings.proofs.Range.{Limited, shared_le_len, shared_le_size}
use Rattle.mappings.proofs.Rule.{total, finals_of, passing, passing_list, Outcome, as_found, as_finished, as_spent, outcome}
use Rattle.list_lines.specs.Pieces.{Holds, finals_after, Belongs}

-- ---- the mappings that a step leaves

module _ (task : Task) where
  finals_split : (q n : ℕ) → finals_after task q ≡ finals_of task (take n (drop q (cells_of task))) ++ finals_after task (q + n)
  finals_split q n =
      let first : List Cell = take n (drop q (cells_of task)) in
      let apart : drop q (cells_of task) ≡ first ++ drop (q + n) (cells_of task) =
      sym (take-append-drop n (drop q (cells_of task))) ∙ ap (λ (l : List Cell). first ++ l) (drop-drop n q (cells_of task)) in
      ap (λ (l : List Cell). map (mapping_of task) (keep (is_final_cell task) l)) apart
      ∙ ap (map (mapping_of task)) (keep_append (is_final_cell task) first (drop (q + n) (cells_of task)))
      ∙ map_append (mapping_of task) (keep (is_final_cell task) first) (keep (is_final_cell task) (drop (q + n) (cells_of task)))

  -- no mapping is left after the last cell
  pub all_passed : finals_after task (total task) ≡ []
  unfolding cells_of
  all_passed = ap (λ (l : List Cell). map (mapping_of task) (keep (is_final_cell task) l)) (drop_all_cells (hit_count task))

  module _ (q B : ℕ) (among : q ≤ total task) where
    handed : {answer : Answer} → rule_answer task q B ≡ answer
        → handed_out (answer ∷ []) ≡ finals_of task (take (reported answer) (drop q (cells_of task)))
    handed e = subst (λ (a : Answer). handed_out (a ∷ []) ≡ finals_of task (take (reported a) (drop q (cells_of task)))) e
        (passing_list task (passing task q B among))

    came : {answer : Answer} → rule_answer task q B ≡ answer → Outcome task q B answer
    came e = subst (Outcome task q B) e (outcome task (passing task q B among))

    -- found: one mapping less is left
    pub found_next : (mapping : Mapping) (n : ℕ) → rule_answer task q B ≡ found mapping n → finals_after task q ≡ mapping ∷ finals_after task (q + n)
    found_next mapping n e = finals_split q n ∙ ap (λ (l : List Mapping). l ++ finals_after task (q + n)) (sym (handed e))

    pub found_within : (mapping : Mapping) (n : ℕ) → rule_answer task q B ≡ found mapping n → (0 < n) × (q + n ≤ total task)
    found_within mapping n e = go (came e)
      where
        go : Outcome task q B (found mapping n) → (0 < n) × (q + n ≤ total task)
        go (as_found _ _ p h k) = (p, k)

    -- finished: none is left
    pub finished_next : (n : ℕ) → rule_answer task q B ≡ finished n
        → (finals_after task q ≡ []) × (q + n ≡ total task) × (finals_after task (q + n) ≡ [])
    unfolding cells_of
    finished_next n e = go (came e)
      where
        go : Outcome task q B (finished n) → (finals_after task q ≡ []) × (q + n ≡ total task) × (finals_after task (q + n) ≡ [])
        go (as_finished _ h t) =
            let none : finals_after task (q + n) ≡ [] = ap (finals_after task) t ∙ all_passed in
            (finals_split q n ∙ ap (λ (l : List Mapping). l ++ finals_after task (q + n)) (sym (handed e)) ∙ none, t, none)

    -- a budget of more cells than there are is never spent, and no step of a session is refused
    pub never_spent : (n : ℕ) → total task ≤ B → rule_answer task q B ≡ spent n → ⊥
    never_spent n h e = go (came e)
      where
        go : Outcome task q B (spent n) → ⊥
        go (as_spent _ s t) = omega arith

    pub never_refused : (n : ℕ) → rule_answer task q B ≡ refused n → ⊥
    never_refused n e = go (came refl) e
      where
        go : {answer : Answer} → Outcome task q B answer → answer ≡ refused n → ⊥
        go (as_found mapping cells p h k) r = let z : ◌≡◌ {A = ℕ} 0 1 = cc in omega arith
        go (as_finished cells h t) r = let z : ◌≡◌ {A = ℕ} 0 1 = cc in omega arith
        go (as_spent cells s t) r = let z : ◌≡◌ {A = ℕ} 0 1 = cc in omega arith

  -- the first of the mappings of some cells is that of a final one
  final_of : (l : List Cell) (mapping : Mapping) (rest : List Mapping) → mapping ∷ rest ≡ finals_of task l
      → (cell : Cell) × (mapping ≡ mapping_of task cell) × (is_final_cell task cell ≡ true)
  final_of [] mapping rest e = absurd (let z : ◌≡◌ {A = ℕ} 0 (suc (length rest)) = ap length (sym e) in omega arith)
  final_of (cell ∷ l) mapping rest e = go (final_of l mapping rest) (is_final_cell task cell) refl
    where
      go : (mapping ∷ rest ≡ finals_of task l → (cell : Cell) × (mapping ≡ mapping_of task cell) × (is_final_cell task cell ≡ true)) → (b : Bool)
          → is_final_cell task cell ≡ b → (cell : Cell) × (mapping ≡ mapping_of task cell) × (is_final_cell task cell ≡ true)
      go rec true t = let f : mapping ∷ rest ≡ mapping_of task cell ∷ finals_of task l = rw t at e in (cell, (cc), t)
      go rec false t = rec (rw t at e)

  pub left_final : (q : ℕ) (mapping : Mapping) (rest : List Mapping) → finals_after task q ≡ mapping ∷ rest
      → (cell : Cell) × (mapping ≡ mapping_of task cell) × (is_final_cell task cell ≡ true)
  left_final q mapping rest e = final_of (drop q (cells_of task)) mapping rest (sym e)

  -- ---- the lines

  module _ (places : List ℕ) (k size : ℕ) where
    -- the numbers of a found mapping's line hold it
    pub record Fitting (mapping : Mapping) : Type 0 where
      pub holds : Holds places k size mapping.a mapping.b
      pub in_length : mapping.m ≤ length_of mapping.a mapping.b
      pub in_size : mapping.m ≤ size

    pub fitting_final : Limited task → Belongs task places k size → (cell : Cell) → is_final_cell task cell ≡ true → Fitting (mapping_of task cell)
    unfolding is_final_cell mapping_of
    fitting_final limited belongs cell t =
        let f : Final task (left_end task cell) (right_end task cell) = test_final task (left_end task cell) (right_end task cell) t in
        let short : length task.text ≤ text_limit = limited.short_text in
        let small : length task.pattern ≤ pattern_limit = limited.short_pattern in
        record {
          holds = record {
            ordered = f.ordered;
            known = omega (arith, f.within, belongs.enough);
            short = omega (arith, f.within);
            pattern_small = omega (arith, belongs.size_is);
            some = omega (arith, belongs.k_some);
            last_small = belongs.last_small (right_end task cell) f.within;
          };
          in_length = shared_le_len task (left_end task cell) (right_end task cell) f.within;
          in_size = omega (arith, belongs.size_is, shared_le_size task (left_end task cell) (right_end task cell));
        }
