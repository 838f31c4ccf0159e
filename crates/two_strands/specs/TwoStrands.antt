-- A run on both strands: a session for the read and one for its reverse complement, each with its own list of steps; what is asked of both, and
-- the list of the run.
use Rattle.std.specs.Prelude.{ℕ, ◌≡◌, List, ◌++◌, map}
use Rattle.mappings.specs.Cells.{Mapping, cells_of}
use Rattle.mappings.specs.Rule.{Answer, Step, handed_out}
use Rattle.mappings.specs.Demand.{FinalsAmong}
use Rattle.strands.specs.declared.Strand.{Strand}
use Rattle.strands.specs.declared.Strand.TheVariants.{Forward, Reverse}
use Rattle.strands.specs.Strands.{read_on}
use Rattle.requests.specs.declared.Settings.{Settings}
use Rattle.requests.specs.Strands.{task_on}
use Rattle.session_start.specs.Start.{start_words}
use Rattle.mapper.specs.Sessions.{Lent, start_task, AllAccept, Ran, Demand3}

-- a strand's session: what its lent buffers held before; what its calls answered, the entries of both sketches, those of them that are kept, and the
-- hits; its steps, their answers, and the work words after each
pub record StrandSession : Type 0 where
  pub lent : Lent
  pub text_entries : ℕ
  pub read_entries : ℕ
  pub text_kept : ℕ
  pub read_kept : ℕ
  pub hits : ℕ
  pub steps : List Step
  pub answers : List Answer
  pub states : List (List ℕ)

-- the work words of the fresh session, as start leaves them for this read
abbrev pub fresh : Settings → List ℕ → List ℕ → StrandSession → List ℕ
fresh settings text read x =
    start_words (start_task settings text read x.lent x.text_entries x.read_entries x.text_kept x.read_kept) x.lent.work

-- sketch, both strikes and start accept this read, and each step keeps its promise on the words of the fresh session or of the step before it
pub record RunsOn (settings : Settings) (text read : List ℕ) (x : StrandSession) : Type 0 where
  pub accepts : AllAccept settings text read x.lent x.text_entries x.read_entries x.text_kept x.read_kept x.hits
  pub ran : Ran (fresh settings text read x) x.steps x.answers x.states

-- a two-strand run: the session of each strand runs on the read as that strand has it
abbrev pub RunsBoth : Settings → List ℕ → List ℕ → (Strand → StrandSession) → Type 0
RunsBoth settings text read sessions = (strand : Strand) → RunsOn settings text (read_on strand read) (sessions strand)

-- demand 3 of both: over the sketches of the read and of its complement, each struck by the counts of the text's
abbrev pub Demand3Both : Settings → List ℕ → List ℕ → (Strand → StrandSession) → Type 0
Demand3Both settings text read sessions =
    (strand : Strand)
    → Demand3 (task_on settings text read strand) (fresh settings text (read_on strand read) (sessions strand)) (sessions strand).steps
    (sessions strand).answers (sessions strand).states

-- a mapping of the run's list, with its strand
pub record Listed : Type 0 where
  pub strand : Strand
  pub mapping : Mapping

-- the forward read's mappings first, then those of the complement, each list in its own order
abbrev pub forward_first : (Strand → List Mapping) → List Listed
forward_first mappings =
    map (λ (mapping : Mapping). record { strand = Forward; mapping = mapping }) (mappings Forward)
    ++ map (λ (mapping : Mapping). record { strand = Reverse; mapping = mapping }) (mappings Reverse)

-- the list of a run: the mappings handed out
abbrev pub run_list : (Strand → StrandSession) → List Listed
run_list sessions = forward_first (λ (strand : Strand). handed_out (sessions strand).answers)

-- the list is that of exactly the final mappings of both strands, in the order of each strand's cells
pub record ListsFinals (settings : Settings) (text read : List ℕ) (list : List Listed) : Type 0 where
  pub mappings : Strand → List Mapping
  pub exact : (strand : Strand) → FinalsAmong (task_on settings text read strand) (cells_of (task_on settings text read strand)) (mappings strand)
  pub listed : list ≡ forward_first mappings
