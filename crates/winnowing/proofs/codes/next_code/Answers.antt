-- `codes::next_code` meets its contract: the mask is 4 to the number of digits, less one.
use Prim.Native.Nat.{suc, ◌+◌, ◌*◌}
use native.Mathlib.Nat.{one-le-pow}
use native.Mathlib.Omega.{arith}
use mathlib.Core.Path.{◌≡◌}
use lib.Dec.{lit<}
use Rattle.kmers.proofs.Codes.{shifted_four, masked}
use Rattle.winnowing.proofs.codes.next_code.Goals as goal

pub overflow_sub-mask : goal.overflow_sub-mask
overflow_sub-mask c = rw (shifted_four c.args.last c.requires.0) (one-le-pow (suc c.args.last) 4 (lit< tt))

pub returns : goal.returns
returns c =
    let digits : c.args.code * 4 + c.args.digit ≡ 4 * c.args.code + c.args.digit = omega arith in
    rw (masked (c.args.code * 4 + c.args.digit) c.args.last c.requires.0, digits)
