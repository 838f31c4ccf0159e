-- One turn takes a code and its position off the entries that are left.
use Rattle.std.proofs.Common.{ℕ, suc, refl, ◌≡◌, ◌+◌, Bool, true, false, ◌&&◌, List, ◌∷◌, length, ap, sym, ◌∙◌, add-one, arith}
use Rattle.std.proofs.lemmas.Slice.Zip.{Zip-more}
use borrow.Author.Tests.{lt-ltb, le-ltb}
use Rattle.kmers.specs.Kmers.{entries}
use Rattle.store.specs.Words.{is_code, is_position}
use Rattle.store.specs.Save.{storable}
use Rattle.store.proofs.WordLaws.{is_code_limit, is_position_range}
use Rattle.store_save.proofs.entries.are_storable.Goals as goal
use Rattle.store_save.proofs.entries.are_storable.Goals.{then-limit-code-via-then-limit-code, then-limit-code-via-else-limit-code+then-not-is_position}

module _ (k low code position : ℕ) (cs ps : List ℕ) where
  passed : is_code k code ≡ true → is_position low position ≡ true
      → storable k low (entries (code ∷ cs) (position ∷ ps)) ≡ storable k (position + 1) (entries cs ps)
  passed c p = rw (c, p, add-one)

  bad_code : is_code k code ≡ false → storable k low (entries (code ∷ cs) (position ∷ ps)) ≡ false
  bad_code c = rw c

  bad_position : is_position low position ≡ false → storable k low (entries (code ∷ cs) (position ∷ ps)) ≡ false
  bad_position p = go (is_code k code)
    where
      go : (b : Bool) → (b && is_position low position && storable k (suc position) (entries cs ps)) ≡ false
      go true = rw p
      go false = refl

pub returns-then-limit-code : goal.returns-then-limit-code
returns-then-limit-code c =
    let rest = Zip-more c.loop-code.code-iterator c.next.new.self c.next.result (c.in-Some.code, c.in-Some.position) c.in-Some.is c.next.ensures.steps in
    let code = is_code_limit c.args.k c.code_limit-limit.result c.in-Some.code.now c.requires.0 c.code_limit-limit.ensures in
    let same = rw (rest.0, rest.1) at c.loop-code.invariant.same_answer in
    elim c.then-limit-code.branch [
      | then-limit-code-via-then-limit-code w ↦ sym (bad_code _ _ _ _ _ _ (code ∙ le-ltb _ _ w.if-limit-code.true)) ∙ same
      | then-limit-code-via-else-limit-code+then-not-is_position w ↦
          sym (bad_position _ _ _ _ _ _ (sym w.is_position.ensures ∙ w.if-not-is_position.true)) ∙ same
    ]

pub overflow_add-low : goal.overflow_add-low
overflow_add-low c = omega (arith, is_position_range c.loop-code.low c.in-Some.position.now (sym c.is_position.ensures ∙ c.if-not-is_position.false))

pub loop-code-preserved : goal.loop-code-preserved
loop-code-preserved c =
    let rest = Zip-more c.loop-code.code-iterator c.next.new.self c.next.result (c.in-Some.code, c.in-Some.position) c.in-Some.is c.next.ensures.steps in
    let code = is_code_limit c.args.k c.code_limit-limit.result c.in-Some.code.now c.requires.0 c.code_limit-limit.ensures in
    let same = rw (rest.0, rest.1) at c.loop-code.invariant.same_answer in
    record {
      same_length = omega (arith, ap length rest.0, ap length rest.1);
      same_answer =
          sym (passed _ _ _ _ _ _ (code ∙ lt-ltb _ _ c.if-limit-code.false) (sym c.is_position.ensures ∙ c.if-not-is_position.false)) ∙ same;
    }
