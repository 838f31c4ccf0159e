-- A word is kept where its slot is crowded.
use Rattle.std.proofs.Common.{ℕ, ◌≡◌, ltb, get_or, ap, ◌∙◌, arith}
use Rattle.base.specs.Lists.{bit}
use Rattle.marking.specs.Slots.{in_slot, crowds, suspects_of}
use Rattle.marking.proofs.Filter.{collected_more, collected_all}
use Rattle.marking.proofs.Deciding.collect.Goals as goal

pub loop-word-preserved : goal.loop-word-preserved
loop-word-preserved c =
    let words = c.args.self.words.now in
    let step : c.crowded-at.result ≡ bit (crowds words c.args.self.limit (get_or words c.loop-word.word-index 0)) =
    c.crowded-at.ensures.value
    ∙ ap (λ (n : ℕ). bit (ltb c.args.self.limit n)) (c.requires.counted _ c.slot.ensures.bound ∙ ap (in_slot words) c.slot.ensures.value)
    in
    collected_more _ _ _ _ _ _ c.loop-word.invariant c.loop-word-test.true (omega arith) step c.crowded-at.ensures.bound

pub returns-clause-out_after : goal.returns-clause-out_after
unfolding suspects_of
returns-clause-out_after c = collected_all _ _ _ _ _ c.loop-word.invariant c.loop-word-test.false
