-- A word behind the last is the first bad one.
use Rattle.std.proofs.Common.{suc, ◌<◌, length, add-one, arith, eq-eqb}
use Rattle.std.proofs.Math.Seq.{drop-cons}
use Rattle.store.specs.Load.{last_word}
use Rattle.store_load.proofs.judging.judge_last.Goals as goal

pub returns-then-next-words : goal.returns-then-next-words
unfolding last_word
returns-then-next-words c =
    let more : suc c.args.index < length c.args.words.now = omega arith in
    simp (← c.content.ensures, eq-eqb c.content.result c.args.n c.if-content-n.false, drop-cons c.args.words.now (suc c.args.index) 0 more, add-one)
