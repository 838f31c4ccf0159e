-- `per_hit::link` meets its contract.
use Rattle.std.proofs.Common.{◌≡◌, ◌<◌, length, arith, refl, ◌∙◌, length-set}
use Rattle.base.proofs.Writing.{written_more, written_all}
use Rattle.session_start.specs.Noting.{words_at, backs as backs_of}
use Rattle.session_start.proofs.Linking.{length_words_at, place_in, finds_back, links_more}
use Rattle.session_start.proofs.Reaching.{length_backs}
use Rattle.session_start.proofs.per_hit.link.Goals as goal

pub bounds-ring-place : goal.bounds-ring-place
bounds-ring-place c =
    omega (
      arith,
      place_in c.args.sorted.words.now c.args.slots.now c.requires.begin c.loop-j.turns c.loop-j.ring c.loop-j.j _ _ c.loop-j.invariant.linked
          c.loop-j-test.true refl refl,
    )

pub bounds-ring-place-in-loop-j : goal.bounds-ring-place-in-loop-j
bounds-ring-place-in-loop-j c =
    omega (
      arith,
      place_in c.args.sorted.words.now c.args.slots.now c.requires.begin c.loop-j.turns c.loop-j.ring c.loop-j.j _ _ c.loop-j.invariant.linked
          c.loop-j-test.true refl refl,
    )

pub overflow_add-turns : goal.overflow_add-turns
overflow_add-turns c =
    omega (
      arith,
      place_in c.args.sorted.words.now c.args.slots.now c.requires.begin c.loop-j.turns c.loop-j.ring c.loop-j.j _ _ c.loop-j.invariant.linked
          c.loop-j-test.true refl refl,
    )

pub loop-j-preserved : goal.loop-j-preserved
loop-j-preserved c =
    let sorted = c.args.sorted.words.now in
    let slots = c.args.slots.now in
    let at = c.loop-j in
    let h : at.j < length slots = c.loop-j-test.true in
    let n : length (backs_of sorted (words_at sorted slots)) ≡ length slots = length_backs sorted (words_at sorted slots) ∙ length_words_at sorted slots in
    record {
      turns_len = simp length-set at.invariant.turns_len;
      ring_len = simp length-set at.invariant.ring_len;
      linked =
          links_more sorted slots c.requires.begin at.turns at.ring at.j _ _ at.invariant.linked h refl refl c.one_at.result c.one_at.ensures.0
          at.invariant.turns_len at.invariant.ring_len;
      written =
          written_more (backs_of sorted (words_at sorted slots)) c.args.backs.now at.j at.backs _ at.invariant.written (omega arith) (omega arith)
          (finds_back sorted slots c.requires.begin at.turns at.ring at.j _ _ at.invariant.linked h refl refl);
    }

pub returns : goal.returns
returns c =
    let sorted = c.args.sorted.words.now in
    let slots = c.args.slots.now in
    let n : length (backs_of sorted (words_at sorted slots)) ≡ length slots = length_backs sorted (words_at sorted slots) ∙ length_words_at sorted slots in
    written_all (backs_of sorted (words_at sorted slots)) c.args.backs.now c.loop-j.j c.loop-j.backs c.loop-j.invariant.written (omega arith) (omega arith)
