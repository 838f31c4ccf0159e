-- The task that the settings of a run (k, w, c and the scoring) make of the letters of text and read.
use Rattle.std.specs.Prelude.{ℕ, List}
use Rattle.kmers.specs.Kmers.{Entry, codes}
use Rattle.minimizers.specs.Sketch.{sketch}
use Rattle.strike.specs.Strike.{strike, struck}
use Rattle.requests.specs.declared.Settings.{Settings}
use Rattle.mappings.specs.Score.{Task, task_with}

-- the text's sketch, struck
unfoldable pub text_of : Settings → List ℕ → List Entry
text_of s text = struck s.c (sketch s.k s.w text)

-- the pattern: the read's sketch, struck by the counts of the text's sketch, which is not struck
unfoldable pub pattern_of : Settings → List ℕ → List ℕ → List Entry
pattern_of s text read = strike (codes (sketch s.k s.w text)) s.c (sketch s.k s.w read)

-- what is mapped: the codes of both, scored as the settings say
unfoldable pub task_of : Settings → List ℕ → List ℕ → Task
task_of s text read = task_with (codes (text_of s text)) (codes (pattern_of s text read)) s.scoring
