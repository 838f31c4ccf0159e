-- The marks of the words passed are written.
use Rattle.base.proofs.Writing.{Written}
use Rattle.marking.specs.Marks.{marks_of}
use Rattle.marking.proofs.lookup.Lookup.mark_all.Given as goal

abbrev pub invariant-loop-i : goal.invariant-loop-i
invariant-loop-i l = Written (marks_of l.self.list.now 0 l.words) l.initial.marks l.i l.marks
