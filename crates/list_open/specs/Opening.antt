-- What the calls up to start answer and leave, given the settings, the text and the read.
use Rattle.std.specs.Prelude.{ℕ, ◌≡◌, List, [], ◌∷◌, length, Result}
use Rattle.mappings.specs.Score.{Task, task_with}
use Rattle.base.specs.Replies.{Reply, accepted, refused, after}
use Rattle.base.specs.Refusals.{reply_of}
use Rattle.base.specs.declared.refusal.Refusal.{Refusal}
use Rattle.kmers.specs.Kmers.{codes, positions, entries}
use Rattle.strike.specs.Strike.{strike, strike_reply}
use Rattle.session_start.specs.Start.{start_reply, start_words}
use Rattle.requests.specs.declared.Settings.{Settings}
use Rattle.requests.specs.Requests.{text_of, pattern_of, task_of}
use Rattle.base.specs.Limits.{line_limit}
use Rattle.list_open.specs.Calls.{and_then, striking_reply, pattern_reply, calls_reply}

-- a session with the number of entries of the pattern; or the refusal of the first call that refuses
abbrev pub opened_by : Reply → ℕ → Reply
opened_by (accepted values) size = accepted (size ∷ [])
opened_by (refused number values) size = refused number values

-- the task of a struck text's codes and of a read's sketch, given the codes that decide
abbrev pub pattern_task : List ℕ → List ℕ → List ℕ → List ℕ → Settings → Task
pattern_task cs text rcs rps s = task_with text (codes (strike cs s.c (entries rcs rps))) s.scoring

-- the task of two sketches, both struck
abbrev pub struck_task : List ℕ → List ℕ → List ℕ → List ℕ → Settings → Task
struck_task cs ps rcs rps s = pattern_task cs (codes (strike cs s.c (entries cs ps))) rcs rps s

unfoldable pub opened_of : Settings → List ℕ → List ℕ → ℕ → ℕ → Reply
opened_of s text read room lent = opened_by (calls_reply s text read room lent) (length (pattern_of s text read))

-- the lent positions afterwards: those of the struck text, where the calls up to strike accept
unfoldable pub positions_after : Settings → List ℕ → List ℕ → List ℕ → List ℕ
positions_after s text read places = after (striking_reply s text read (length places)) (positions (text_of s text)) places

abbrev pub where_accepted : Reply → List ℕ → List ℕ → List ℕ
where_accepted (accepted values) new old = new
where_accepted (refused number values) new old = old

-- the work words afterwards: as start leaves them, where the calls up to the strike of the read accept
unfoldable pub work_after : Settings → List ℕ → List ℕ → ℕ → List ℕ → List ℕ
work_after s text read room work = where_accepted (pattern_reply s text read room) (start_words (task_of s text read) work) work

-- what the calls answer and leave, given the lent positions and work words
pub record Opens (s : Settings) (text read places work : List ℕ) (r : Result ℕ Refusal) (places' work' : List ℕ) : Type 0 where
  pub answer : reply_of r ≡ opened_of s text read (length places) (length work)
  pub positions_after : places' ≡ positions_after s text read places
  pub work_after : work' ≡ work_after s text read (length places) work

-- the same from strike on, given the sketches of text and read
pub record OpensSketches (cs ps rcs rps : List ℕ) (s : Settings) (places work : List ℕ) (r : Result ℕ Refusal) (places' work' : List ℕ) : Type 0 where
  pub answer : reply_of r ≡ opened_by
      (and_then (and_then (strike_reply cs cs ps s.c line_limit (length places)) (strike_reply cs rcs rps s.c line_limit line_limit))
      (start_reply (struck_task cs ps rcs rps s) (length work))) (length (strike cs s.c (entries rcs rps)))
  pub positions_after : places'
      ≡ after (strike_reply cs cs ps s.c line_limit (length places)) (positions (strike cs s.c (entries cs ps))) places
  pub work_after : work'
      ≡ where_accepted (and_then (strike_reply cs cs ps s.c line_limit (length places)) (strike_reply cs rcs rps s.c line_limit line_limit))
      (start_words (struck_task cs ps rcs rps s) work) work

-- the same from the strike of the read on, given the codes that decide and those of the struck text
pub record OpensPattern (cs text rcs rps : List ℕ) (s : Settings) (work : List ℕ) (r : Result ℕ Refusal) (work' : List ℕ) : Type 0 where
  pub answer : reply_of r ≡ opened_by
      (and_then (strike_reply cs rcs rps s.c line_limit line_limit) (start_reply (pattern_task cs text rcs rps s) (length work)))
      (length (strike cs s.c (entries rcs rps)))
  pub work_after : work' ≡ where_accepted (strike_reply cs rcs rps s.c line_limit line_limit) (start_words (pattern_task cs text rcs rps s) work) work
