-- What the functions that scan letters keep from letter to letter, and what they have still to do.
use Rattle.std.specs.Prelude.{ℕ, suc, ◌+◌, ◌-◌, ◌%◌, ◌^◌, ◌≤◌, ◌<◌, ◌≡◌, List, [], ◌++◌, length, get_or, Option, MatchOption}
use Rattle.base.specs.Limits.{k_limit}
use Rattle.kmers.specs.Kmers.{Entry}
use Rattle.kmers.specs.Ranks.{unrank}
use Rattle.kmers.specs.Places.{code_at, rank_at, run_end}
use Rattle.minimizers.specs.Places.{picked_from, IsLowest, sketch_from}
use Rattle.winnowing.specs.Winnowed.{placed, written}
use Rattle.winnowing.specs.Blocks.{block_size, back_size, ranks_size, slot_of}

-- ---- letters and k-mers

-- the positions from `from` up to `to` are of the block that begins at `base`
pub record InBlock (base from to : ℕ) : Type 0 where
  pub begins : base ≤ from
  pub ends : to ≤ base + block_size

-- the letters from `from` up to position `at` are read, of `last` letters at most: `code` is theirs, and where they are fewer the
-- run ends at `at`
pub record Begun (letters : List ℕ) (from last at code : ℕ) : Type 0 where
  pub start : from ≤ at
  pub most : at ≤ from + last
  pub within : at ≤ run_end letters from
  pub ended : at < from + last → at ≡ run_end letters from
  pub code_there : code ≡ code_at (at - from) letters from

-- the code in hand ends in the `last` letters from position `at` on
pub record InHand (last : ℕ) (letters : List ℕ) (at code : ℕ) : Type 0 where
  pub code_there : code % 4 ^ last ≡ code_at last letters at
  pub code_below : code < 4 ^ k_limit

-- the k-mers up to position `at`, of last + 1 letters each, are read: the ranks from position `first` on stand in their slots
pub record Scanned (last base : ℕ) (letters ranks : List ℕ) (first at code : ℕ) : Type 0 where
  pub sized : length ranks ≡ ranks_size
  pub reaches : base ≤ first + last + back_size
  pub ranked : (x : ℕ) → first ≤ x → x < at → get_or ranks (slot_of last base x) 0 ≡ rank_at (suc last) letters x
  pub small : (x : ℕ) → first ≤ x → x < at → code_at (suc last) letters x < 4 ^ k_limit
  pub in_hand : InHand last letters at code

-- the k-mers of a run's first window are read, or all of the run where they are fewer
pub record Filled (last base w : ℕ) (letters ranks : List ℕ) (from at code : ℕ) : Type 0 where
  pub start : from ≤ at
  pub most : at ≤ from + w
  pub within : at + last ≤ run_end letters from
  pub ended : at < from + w → at + last ≡ run_end letters from
  pub scanned : Scanned last base letters ranks from at code

-- the k-mers from position `from` up to position `at` are of one run, and have ranks above low
pub record Above (last : ℕ) (letters : List ℕ) (low from at : ℕ) : Type 0 where
  pub start : from ≤ at
  pub within : at + last ≤ run_end letters from
  pub above : (x : ℕ) → from ≤ x → x < at → low < rank_at (suc last) letters x

-- whatever ranks stood in their slots when the code in hand was that at position `from`, all up to position `at` now do
abbrev pub ReadOn : ℕ → ℕ → List ℕ → List ℕ → ℕ → ℕ → List ℕ → ℕ → ℕ → Type 0
ReadOn last base letters ranks from code ranks' at code' =
    (first : ℕ) → Scanned last base letters ranks first from code → Scanned last base letters ranks' first at code'

-- the k-mer at position `at` is read, and is the first whose rank is not above low
pub record FoundLow (last base : ℕ) (letters ranks ranks' : List ℕ) (low from code stop at code' rank : ℕ) : Type 0 where
  pub before : at < stop
  pub within : at + last < run_end letters from
  pub low_enough : rank ≤ low
  pub rank_there : rank ≡ rank_at (suc last) letters at
  pub code_there : code' ≡ code_at (suc last) letters at
  pub read : ReadOn last base letters ranks from code ranks' (at + 1) code'

-- none is found up to position `stop`, or up to the end of the run
pub record FoundNone (last base : ℕ) (letters ranks ranks' : List ℕ) (from code stop at code' : ℕ) : Type 0 where
  pub ended : at < stop → at + last ≡ run_end letters from
  pub read : ReadOn last base letters ranks from code ranks' at code'

-- k-mers are read from position `from` on, up to the one at position `at`, the first whose rank is not above low, or where there is none
-- up to position `stop` or the end of the run
pub record ReadAbove (last base : ℕ) (letters ranks ranks' : List ℕ) (low from code stop at code' : ℕ) (rank : Option ℕ) : Type 0 where
  pub passed : Above last letters low from at
  pub most : at ≤ stop
  pub found : MatchOption rank (FoundNone last base letters ranks ranks' from code stop at code')
      (λ (r : ℕ). FoundLow last base letters ranks ranks' low from code stop at code' r)

-- ---- buffers

-- the buffers have this room
pub record HasRoom (room : ℕ) (cs ps : List ℕ) : Type 0 where
  pub for_codes : room ≤ length cs
  pub for_positions : room ≤ length ps

-- the entry is put: n and the buffers cs and ps have become n', cs' and ps'
pub record IsPut (room n code position n' : ℕ) (cs ps cs' ps' : List ℕ) : Type 0 where
  pub counted : n' ≡ suc n
  pub codes_after : cs' ≡ placed room n code cs
  pub positions_after : ps' ≡ placed room n position ps

-- the lowest of the slots from `from` to `to` is put: `to` is the slot of position `behind`, and `at` the position of the lowest
pub record PutsLowest (room : ℕ) (ranks : List ℕ) (from to behind n at rank n' : ℕ) (cs ps cs' ps' : List ℕ) : Type 0 where
  pub near : behind ≤ to + at
  pub lowest : IsLowest (λ (i : ℕ). get_or ranks i 0) from to (to - (behind - at))
  pub rank_there : rank ≡ get_or ranks (to - (behind - at)) 0
  pub put : IsPut room n (unrank rank) at n' cs ps cs' ps'

-- n entries in the buffers cs and ps, with those of `left` still to come, are as far as n₀ entries in cs₀ and ps₀ with those of
-- `all`: whatever comes after, the same stands at the end
abbrev pub SameEnd : ℕ → ℕ → List ℕ → List ℕ → List Entry → ℕ → List ℕ → List ℕ → List Entry → Type 0
SameEnd room n cs ps left n₀ cs₀ ps₀ all = (es : List Entry) → written room n cs ps (left ++ es) ≡ written room n₀ cs₀ ps₀ (all ++ es)

-- ---- windows of a run

-- of the run that holds position `from`, what the windows from i on pick from position m on
abbrev pub to_pick : ℕ → ℕ → List ℕ → ℕ → ℕ → ℕ → List Entry
to_pick last w letters from i m = picked_from (suc last) w letters (run_end letters from - last) i m

-- the scan has come to position `at` of the run that holds position `from`, with n entries put
pub record Standing (last room : ℕ) (letters : List ℕ) (from : ℕ) (cs ps : List ℕ) (at n : ℕ) : Type 0 where
  pub start : from ≤ at
  pub within : at + last ≤ run_end letters from
  pub counted : n ≤ at
  pub has_room : HasRoom room cs ps

-- the window that ends before position `at` has its lowest at low_at, with this rank, and the ranks behind that one stand in their slots
pub record Picking (last base w : ℕ) (letters ranks : List ℕ) (at code low_at low : ℕ) : Type 0 where
  pub scanned : Scanned last base letters ranks (suc low_at) at code
  pub is_lowest : IsLowest (rank_at (suc last) letters) (at - w) at low_at
  pub is_rank : low ≡ rank_at (suc last) letters low_at

-- the k-mers up to the end of the block are passed, or up to the end of the run where that is in it
pub record PassesBlock (last base : ℕ) (letters : List ℕ) (from at : ℕ) : Type 0 where
  pub most : at + last ≤ base + block_size
  pub ended : at + last < base + block_size → at + last ≡ run_end letters from

-- the run that holds position `from` is passed to its end, all of these are put, and the block at hand begins no later
pub record Passes (room : ℕ) (letters : List ℕ) (from before at base entries : ℕ) (cs ps cs' ps' : List ℕ) (all : List Entry) : Type 0 where
  pub begins : base ≤ at
  pub ended : at ≡ run_end letters from
  pub counted : entries ≤ at
  pub put : SameEnd room entries cs' ps' [] before cs ps all

-- ---- the next run

-- the runs from position `from` on up to the one that begins at `at` have no letters
pub record RunAt (letters : List ℕ) (from at : ℕ) : Type 0 where
  pub start : from ≤ at
  pub within : at < length letters
  pub same : (k w : ℕ) → 1 ≤ k → 1 ≤ w → sketch_from k w letters at ≡ sketch_from k w letters from

-- the next run with letters begins there, if there is one
abbrev pub NextRun : List ℕ → ℕ → Option ℕ → Type 0
NextRun letters from next = MatchOption next ((k w : ℕ) → 1 ≤ k → 1 ≤ w → sketch_from k w letters from ≡ []) (RunAt letters from)
