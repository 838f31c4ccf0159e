-- Demand 3 of a two-strand run, and what its list is when both sessions have finished.
use Prim.Native.Nat.{ℕ, zero, suc, ◌≤◌, zero-le}
use native.Mathlib.Omega.{arith}
use mathlib.Core.Path.{◌≡◌, refl, sym, ◌∙◌, subst}
use mathlib.Core.List.{List, [], ◌∷◌}
use lib.ListN.{take}
use Rattle.mappings.specs.Score.{Task}
use Rattle.mappings.specs.Cells.{cells_of}
use Rattle.mappings.specs.Rule.{Answer, Step, passed, handed_out}
use Rattle.mappings.specs.Demand.{FinalsAmong, HasFinished, Demanded}
use Rattle.mappings.proofs.Rule.{total}
use Rattle.mappings.proofs.Finals.{finals_among, finals_list}
use Rattle.mappings.proofs.Demanded.{demanded_all, demanded_last}
use Rattle.strands.specs.declared.Strand.{Strand}
use Rattle.strands.specs.Strands.{read_on}
use Rattle.requests.specs.declared.Settings.{Settings}
use Rattle.requests.specs.Strands.{task_on}
use Rattle.mapper.proofs.Demand3.{demand3}
use Rattle.two_strands.specs.TwoStrands.{StrandSession, RunsBoth, Demand3Both, Listed, forward_first, run_list, ListsFinals}

-- for every accepted text and read, k, w, c and scoring, and any two lists of steps, one for each strand's session
pub demand3_both : (settings : Settings) (text read : List ℕ) (sessions : Strand → StrandSession) → RunsBoth settings text read sessions
    → Demand3Both settings text read sessions
demand3_both settings text read sessions runs strand =
    let x = sessions strand in
    demand3 settings text (read_on strand read) x.lent x.text_entries x.read_entries x.text_kept x.read_kept x.hits
    (runs strand).accepts (runs strand).ran

-- ---- the list

passed_front : (n : ℕ) (given : List Answer) → passed (take n given) ≤ passed given
passed_front zero given = zero-le
passed_front (suc n) [] = zero-le
passed_front (suc n) (answer ∷ given) = let rest : passed (take n given) ≤ passed given = passed_front n given in omega arith

-- a list of steps that has finished has handed out the final mappings among all cells
all_handed : (task : Task) {steps : List Step} {given : List Answer} → Demanded task steps given → HasFinished steps given
    → FinalsAmong task (cells_of task) (handed_out given)
all_handed task {steps} {given} demanded (n, inside, finished) =
    let last : passed (take (suc n) given) ≡ total task = demanded_last task demanded n inside finished in
    let front : passed (take (suc n) given) ≤ passed given = passed_front (suc n) given in
    let within : passed given ≤ total task = demanded.within in
    let all : passed given ≡ total task = omega arith in
    subst (FinalsAmong task (cells_of task)) (sym (demanded_all task demanded all)) (finals_among task (cells_of task))

-- when both strands have finished, the list of the run is that of exactly the final mappings of both, the forward read's first
pub lists_finals : (settings : Settings) (text read : List ℕ) (sessions : Strand → StrandSession) → RunsBoth settings text read sessions
    → ((strand : Strand) → HasFinished (sessions strand).steps (sessions strand).answers) → ListsFinals settings text read (run_list sessions)
lists_finals settings text read sessions runs finished =
    record {
      mappings = λ strand. handed_out (sessions strand).answers;
      exact =
          λ strand. all_handed (task_on settings text read strand) (demand3_both settings text read sessions runs strand).demanded (finished strand);
      listed = refl;
    }

-- the statement leaves one list alone
pub one_list : (settings : Settings) (text read : List ℕ) {one other : List Listed} → ListsFinals settings text read one
    → ListsFinals settings text read other → one ≡ other
one_list settings text read p q =
    let same : (strand : Strand) → p.mappings strand ≡ q.mappings strand =
    λ strand.
    finals_list (task_on settings text read strand) (p.exact strand) ∙ sym (finals_list (task_on settings text read strand) (q.exact strand))
    in
    p.listed ∙ (λ i. forward_first (λ strand. same strand i)) ∙ sym q.listed
