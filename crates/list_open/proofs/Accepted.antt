-- What accepted calls of one strand say: each call before the last has accepted too.
use Prim.Native.Nat.{ℕ, ◌≤◌}
use native.Mathlib.Omega.{arith}
use mathlib.Core.Path.{◌≡◌, refl}
use mathlib.Core.List.{List}
use lib.ListN.{length}
use Rattle.base.specs.Limits.{k_limit, letter_limit, line_limit}
use Rattle.base.specs.Replies.{Reply, accepted, refused}
use Rattle.kmers.specs.Kmers.{Entry}
use Rattle.minimizers.specs.Sketch.{sketch}
use Rattle.sketch.specs.Replies.{sketch_reply}
use Rattle.sketch.proofs.Accepted.{sketch_limits}
use Rattle.session_start.specs.Start.{start_reply}
use Rattle.requests.specs.declared.Settings.{Settings}
use Rattle.requests.specs.Requests.{task_of}
use Rattle.list_open.specs.Calls.{and_then, striking_of, sketches_reply, striking_reply, pattern_reply, calls_reply}

pub and_accepted : (first next : Reply) (values : List ℕ) → and_then first next ≡ accepted values
    → ((ns : List ℕ) × (first ≡ accepted ns)) × (next ≡ accepted values)
and_accepted (accepted ns) next values e = ((ns, refl), e)
and_accepted (refused number ns) next values e = absurd (let z : ◌≡◌ {A = ℕ} 0 1 = cc in omega arith)

module _ (s : Settings) (text read : List ℕ) (room lent : ℕ) (values : List ℕ) (accepts : calls_reply s text read room lent ≡ accepted values) where
  abbrev text_sketch : List Entry
  text_sketch = sketch s.k s.w text

  calls : ((ns : List ℕ) × (pattern_reply s text read room ≡ accepted ns)) × (start_reply (task_of s text read) lent ≡ accepted values)
  unfolding calls_reply
  calls = and_accepted (pattern_reply s text read room) (start_reply (task_of s text read) lent) values accepts

  pub pattern_accepts : (ns : List ℕ) × (pattern_reply s text read room ≡ accepted ns)
  pattern_accepts = calls.0

  pub starts : start_reply (task_of s text read) lent ≡ accepted values
  starts = calls.1

  pub strike_accepts : (ns : List ℕ) × (striking_reply s text read room ≡ accepted ns)
  unfolding pattern_reply
  strike_accepts =
      (and_accepted (striking_reply s text read room) (striking_of text_sketch (sketch s.k s.w read) s.c line_limit) calls.0.0 calls.0.1).0

  pub call_limits : (1 ≤ s.k) × (s.k ≤ k_limit) × (length text ≤ letter_limit)
  unfolding striking_reply sketches_reply
  call_limits =
      let both = and_accepted (sketches_reply s text read) (striking_of text_sketch text_sketch s.c room) strike_accepts.0 strike_accepts.1 in
      let first =
      and_accepted (sketch_reply s.k s.w text line_limit line_limit) (sketch_reply s.k s.w read line_limit line_limit) both.0.0 both.0.1
      in
      sketch_limits s.k s.w text line_limit line_limit first.0.0 first.0.1
