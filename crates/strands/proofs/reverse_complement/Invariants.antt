-- The letters still to come are the first of the read, and the reverse complement's first ones stand at the start of `out`.
use Rattle.std.proofs.Common.{◌≡◌, ◌-◌, ◌≤◌, length, take}
use Rattle.std.specs.Iterator.Adapters.{enumerate_source, enumerate_count, rev_source}
use Rattle.std.specs.Slice.Iter.{iter_rest}
use Rattle.base.proofs.Writing.{Written}
use Rattle.strands.specs.Complement.{reverse_complement}
use Rattle.strands.proofs.reverse_complement.Given as goal

abbrev pub invariant-loop-i : goal.invariant-loop-i
invariant-loop-i l =
    record {
      within : enumerate_count l.i-iterator ≤ length l.read;
      left : iter_rest (rev_source (enumerate_source l.i-iterator)) ≡ take (length l.read - enumerate_count l.i-iterator) l.read;
      written : Written (reverse_complement l.read) l.initial.out (enumerate_count l.i-iterator) l.out;
    }
