-- `put_words` meets its contract: the tables stand one after the other in their places.
use Rattle.std.proofs.Common.{rules, arith}
use Rattle.mappings.specs.HitCodes.{hit_codes}
use Rattle.session_start.proofs.Putting.{stores_session}
use Rattle.session_start.proofs.Tables.{hit_codes_in}
use Rattle.session_start.proofs.put_words.Goals as goal

pub returns : goal.returns
returns c =
    λ task ready.
    stores_session task c.args.allowed.scoring c.args.size c.put_starts-shared.result c.args.index.now c.args.backs.now c.args.work.now
    c.copy_from_slice.new.self c.copy_from_slice-2.new.self c.put_pairs.new.reach c.put_starts-shared.new.work c.fill.new.self c.fill-2.new.self
    c.put_heading.new.work
    (record {
      ready = ready;
      back_table = c.copy_from_slice.ensures.after;
      index_table = c.copy_from_slice-2.ensures.after;
      reach_table = c.put_pairs.ensures task.pattern (hit_codes task) (hit_codes_in task) ready.backs_are;
      starts_table = c.put_starts-shared.ensures;
      best_table = c.fill.ensures.after (search rules);
      tops_table = rw (← c.block_count.ensures) (c.fill-2.ensures.after (search rules));
      heading_table = rw (← c.block_count.ensures) c.put_heading.ensures;
    })
    c.requires.lengths.0 (omega arith)
