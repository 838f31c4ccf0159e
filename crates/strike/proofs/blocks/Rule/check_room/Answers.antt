-- No more entries are kept than there are.
use Rattle.std.proofs.Common.{arith}
use Rattle.strike.proofs.Behind.{kept_few}
use Rattle.strike.proofs.blocks.Rule.check_room.Goals as goal

pub returns-then-codes-room : goal.returns-then-codes-room
returns-then-codes-room c = omega (arith, kept_few c.args.self.deciding.now c.args.self.limit c.args.codes.now, c.if-codes-room.true)
