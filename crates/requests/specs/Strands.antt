-- The task of each strand.
use Rattle.std.specs.Prelude.{ℕ, List}
use Rattle.strands.specs.declared.Strand.{Strand}
use Rattle.strands.specs.Strands.{read_on}
use Rattle.mappings.specs.Score.{Task}
use Rattle.requests.specs.declared.Settings.{Settings}
use Rattle.requests.specs.Requests.{task_of}

-- what is mapped on a strand: the read itself on the forward strand, its reverse complement on the other
abbrev pub task_on : Settings → List ℕ → List ℕ → Strand → Task
task_on s text read strand = task_of s text (read_on strand read)
