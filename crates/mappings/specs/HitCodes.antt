-- The codes of a task's hits: what a session keeps its tables of.
use Rattle.std.specs.Prelude.{ℕ, List, ltb}
use Rattle.base.specs.Lists.{keep}
use Rattle.base.specs.Counts.{occ}
use Rattle.mappings.specs.Score.{Task}

-- the codes of the hits, in their order
unfoldable pub hit_codes : Task → List ℕ
hit_codes task = keep (λ (x : ℕ). ltb 0 (occ x task.pattern)) task.text
