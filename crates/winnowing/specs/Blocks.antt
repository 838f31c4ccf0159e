-- Blocks of letters: their values, read ahead of the scan, and the ranks of the k-mers that end in them.
use Rattle.std.specs.Prelude.{ℕ, ◌+◌, ◌-◌, ◌≤◌, ◌<◌, ◌≡◌, List, length, get_or}
use Rattle.base.specs.Limits.{w_limit}
use Rattle.kmers.specs.Letters.{value}

-- how many letters a block has
abbrev pub block_size : ℕ
block_size = 512

-- how many ranks are kept of the block before: those of the widest window
abbrev pub back_size : ℕ
back_size = w_limit

-- how many ranks there are room for
abbrev pub ranks_size : ℕ
ranks_size = back_size + block_size

-- the values of the letters from `base` on; where the letters end in the block, what stands past the last one is no letter of the eight
pub record IsBlock (letters values : List ℕ) (base : ℕ) : Type 0 where
  pub sized : length values ≡ block_size
  pub known : (at : ℕ) → base ≤ at → at < base + block_size → at ≤ length letters → get_or values (at - base) 0 ≡ value (get_or letters at 0)

-- where the rank of the k-mer of last + 1 letters at this position stands
abbrev pub slot_of : ℕ → ℕ → ℕ → ℕ
slot_of last base position = position + last + back_size - base

-- the last ranks of a block have been taken to the front
pub record IsCarried (ranks ranks' : List ℕ) : Type 0 where
  pub sized : length ranks' ≡ ranks_size
  pub carried : (i : ℕ) → i < back_size → get_or ranks' i 0 ≡ get_or ranks (block_size + i) 0
