-- What the loops keep from turn to turn.
use Prim.Native.Nat.{ℕ, suc, ◌+◌, ◌-◌, ◌≤◌, ◌<◌}
use mathlib.Core.Path.{◌≡◌}
use mathlib.Core.List.{List, []}
use lib.ListN.{length, get_or}
use Rattle.std.specs.Prelude.{Option, Some, None, MatchOption}
use Rattle.kmers.specs.Places.{code_at, run_end}
use Rattle.minimizers.specs.Places.{IsLowest, sketch_from}
use Rattle.winnowing.specs.Winnowed.{written}
use Rattle.winnowing.specs.Scan.{InHand, Scanned, Above, ReadOn, HasRoom, SameEnd, to_pick, Standing, Picking, PassesBlock}

-- the lowest of the slots from `from` up to i, and its rank
pub record LowestSoFar (ranks : List ℕ) (from i low_at low : ℕ) : Type 0 where
  pub lowest : IsLowest (λ (x : ℕ). get_or ranks x 0) from i low_at
  pub rank_there : low ≡ get_or ranks low_at 0

-- the letters from `from` up to position `at` are of one run, and `code` is theirs
pub record LettersRead (letters : List ℕ) (from at code : ℕ) : Type 0 where
  pub within : at ≤ run_end letters from
  pub code_there : code ≡ code_at (at - from) letters from

-- the k-mers from `from` up to position `at` are of one run, and their ranks stand in their slots
pub record KmersRead (last base : ℕ) (letters ranks : List ℕ) (from at code : ℕ) : Type 0 where
  pub within : at + last ≤ run_end letters from
  pub scanned : Scanned last base letters ranks from at code

-- the k-mers from `from` up to position `at` have ranks above low, which stand in their slots
pub record AboveRead (last base : ℕ) (letters ranks₀ ranks : List ℕ) (low from code₀ at code : ℕ) : Type 0 where
  pub passed : Above last letters low from at
  pub read : ReadOn last base letters ranks₀ from code₀ ranks at code

-- the k-mers up to position `at` are put one by one: what is put and what is still to pick make up all there was to pick
pub record KmersPut (last room : ℕ) (letters : List ℕ) (from n₀ : ℕ) (cs₀ ps₀ : List ℕ) (at code n : ℕ) (cs ps : List ℕ) : Type 0 where
  pub standing : Standing last room letters from cs ps at n
  pub in_hand : InHand last letters at code
  pub put : SameEnd room n cs ps (to_pick last 1 letters from at at) n₀ cs₀ ps₀ (to_pick last 1 letters from from from)

-- the windows up to the one that ends before position `at` are passed: what is put and what is still to pick make up all there was to pick
pub record WindowsPut (last base w room : ℕ) (letters : List ℕ) (from low_at₀ n₀ : ℕ) (cs₀ ps₀ : List ℕ) (ranks : List ℕ)
    (at code low_at low n : ℕ) (cs ps : List ℕ) : Type 0 where
  pub standing : Standing last room letters from cs ps at n
  pub picking : Picking last base w letters ranks at code low_at low
  pub put : SameEnd room n cs ps (to_pick last w letters from (suc (at - w)) (suc low_at))
      n₀ cs₀ ps₀ (to_pick last w letters from (suc (from - w)) (suc low_at₀))

-- the blocks up to the one that begins at `base` are passed, each as far as the run goes
pub record BlocksPassed (last : ℕ) (letters letters' : List ℕ) (base from at : ℕ) : Type 0 where
  pub same : letters' ≡ letters
  pub begins : base ≤ at + last
  pub passed : PassesBlock last base letters from at

-- the runs in front of position `from` are passed: what is put and the sketch of the letters from there on end as the whole sketch does
pub record RunsPut (k w room : ℕ) (letters letters' : List ℕ) (base from n : ℕ) (cs₀ ps₀ cs ps : List ℕ) : Type 0 where
  pub same : letters' ≡ letters
  pub begins : base ≤ from
  pub counted : n ≤ from
  pub within : from ≤ suc (length letters)
  pub has_room : HasRoom room cs ps
  pub put : written room n cs ps (sketch_from k w letters from) ≡ written room 0 cs₀ ps₀ (sketch_from k w letters 0)

-- the runs in front of the next one are passed, or all runs where there is none
abbrev pub NextPut : ℕ → ℕ → ℕ → List ℕ → List ℕ → ℕ → Option ℕ → ℕ → List ℕ → List ℕ → List ℕ → List ℕ → Type 0
NextPut k w room letters letters' base next n cs₀ ps₀ cs ps = MatchOption next
    (written room n cs ps [] ≡ written room 0 cs₀ ps₀ (sketch_from k w letters 0))
    (λ (at : ℕ). (at < length letters) × RunsPut k w room letters letters' base at n cs₀ ps₀ cs ps)

-- how many positions there are from the next run on
abbrev pub left : ℕ → Option ℕ → ℕ
left size None = 0
left size (Some at) = suc size - at
