-- `Block::digit_at` meets its contract: the block says it of each of its positions.
use Rattle.winnowing.proofs.Steps.{digit_below}
use lib.ListN.{get_or}
use Rattle.winnowing.proofs.blocks.Block.digit_at.Goals as goal

pub returns-else-v-eq-FOREIGN : goal.returns-else-v-eq-FOREIGN
returns-else-v-eq-FOREIGN c =
    let at = c.args.at in
    let known = c.args.self.now.is_block.known at c.requires.1 c.requires.2 c.requires.3 in
    rw c.requires.0 (known, digit_below (get_or c.args.self.now.letters.now at 0) _ known (rw c.requires.0 at c.if-v-eq-FOREIGN.false))
