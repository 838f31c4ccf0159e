-- The read as each strand has it.
use Rattle.std.specs.Prelude.{ℕ, List}
use Rattle.strands.specs.declared.Strand.{Strand}
use Rattle.strands.specs.declared.Strand.TheVariants.{Forward, Reverse}
use Rattle.strands.specs.Complement.{reverse_complement}

-- what is mapped on a strand: the read itself on the forward strand, its reverse complement on the other
abbrev pub read_on : Strand → List ℕ → List ℕ
read_on Forward read = read
read_on Reverse read = reverse_complement read
