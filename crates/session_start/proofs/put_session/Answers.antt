-- `put_session` meets its contract.
use Rattle.std.proofs.Common.{length, drop, arith}
use Rattle.std.proofs.Math.Seq.{take_at, length-take-le}
use Rattle.session_start.specs.Noting.{words_at}
use Rattle.session_start.proofs.Linking.{words_in}
use Rattle.session_start.proofs.Starting.{backs_within}
use Rattle.session_start.proofs.put_session.Goals as goal

pub put_words-requires-clause-backs_below : goal.put_words-requires-clause-backs_below
put_words-requires-clause-backs_below c =
    let part = length-take-le (length c.args.slots.now) c.copies-backs.result (omega (arith, c.copies-backs.ensures.len)) in
    let front = take_at c.put_back.new.backs (drop (length c.args.slots.now) c.copies-backs.result) (length c.args.slots.now) (omega arith) in
    rw (front, c.put_back.ensures)
    (backs_within c.args.sorted.words.now (words_at c.args.sorted.words.now c.args.slots.now)
    (words_in c.args.sorted.words.now c.args.slots.now c.requires.begin))
