-- Sums and orders of the positions of a scan, over plain numbers: beside a place of the code `omega` would read all that is known there.
use Prim.Native.Nat.{ℕ, suc, ◌+◌, ◌-◌, ◌≤◌, ◌<◌, min}
use native.Mathlib.Omega.{arith}
use mathlib.Core.Path.{◌≡◌, refl}
use mathlib.Core.Bool.{Bool, true, false}
use lib.Dec.{ltb}
use borrow.Author.Tests.{ltb-true, ltb-false}
use mir.Syntax.{w64}
use mir.Val.{Fits}
use Rattle.base.specs.Limits.{letter_limit}
use Rattle.winnowing.specs.Blocks.{block_size, back_size}

-- ---- within a run

-- a position in front of another of the run
pub shorter : {x at end : ℕ} (last : ℕ) → x ≤ at → at + last ≤ end → x + last ≤ end
shorter last h within = omega arith

-- behind the begin of the block
pub further : {base p at : ℕ} (last : ℕ) → base ≤ p + last → p ≤ at → base ≤ at + last
further last begins start = omega arith

-- a position of the run is within the limit on letters
pub in_letters : {at end size : ℕ} (last : ℕ) → at + last ≤ end → end ≤ size → size ≤ letter_limit → at ≤ letter_limit
in_letters last within ends few = omega arith

-- and below it where a k-mer of the run begins there
pub below_letters : {at end size : ℕ} (last : ℕ) → at + last < end → end ≤ size → size ≤ letter_limit → at < letter_limit
below_letters last within ends few = omega arith

pub run_within : {end : ℕ} (at last : ℕ) → at + last ≤ end → at ≤ end - last
run_within at last within = omega arith

-- the end of a run, and how many k-mers it has
pub run_to : {end : ℕ} (at last : ℕ) → at + last ≡ end → at ≡ end - last
run_to at last ended = omega arith

pub fewer : {at end bound : ℕ} (last : ℕ) → at + last ≡ end → at < bound → end - last < bound
fewer last ended h = omega arith

-- where a run has no k-mer it ends in front of where the first would begin
pub no_kmer : {at from end : ℕ} (last : ℕ) → at ≤ from → at + last ≡ end → end - last ≤ from
no_kmer last none ended = omega arith

-- a run that ends in front of its first k-mer's last letter has no k-mer
pub no_last : {at end bound : ℕ} (last : ℕ) → at ≡ end → at < bound + last → end - last ≤ bound
no_last last ended h = omega arith

-- the letters in front of the first k-mer's last one
pub begun_all : {at : ℕ} (from last : ℕ) → at ≤ from + last → from + last ≤ at → at - from ≡ last
begun_all from last most least = omega arith

-- one more is counted further on
pub one_more : {n n' p at : ℕ} → n' ≡ suc n → n ≤ p → p < at → n' ≤ at
one_more one counted h = omega arith

-- ---- one position more

-- the next position, from what is known of one
pub next_in : {at stop bound : ℕ} (last : ℕ) → at < stop → stop + last ≤ bound → at + 1 + last ≤ bound
next_in last h ends = omega arith

pub next_within : {end : ℕ} (at last : ℕ) → at + last < end → at + 1 + last ≤ end
next_within at last more = omega arith

pub next_start : {from p at : ℕ} → from ≤ p → p ≤ at → from ≤ at + 1
next_start start h = omega arith

pub next_counted : {n n' p at : ℕ} → n' ≡ suc n → n ≤ p → p ≤ at → n' ≤ at + 1
next_counted one counted h = omega arith

-- ---- windows

-- up to where k-mers are read: up to where the lowest leaves, or the block ends
pub stop_at : {p leaves stop : ℕ} (base last : ℕ) → p ≤ leaves → p + last ≤ base + block_size → stop ≡ min (leaves + 1) (base + block_size - last)
    → (p ≤ stop) × (stop ≤ leaves + 1) × (stop + last ≤ base + block_size) × (stop < leaves + 1 → stop + last ≡ base + block_size)
stop_at base last h most least = (omega arith, omega arith, omega arith, λ l. omega arith)

-- where nothing is found in front of it, and neither the block nor the lowest ends what is read, the run does
pub before_stop : {at stop leaves bound : ℕ} (last : ℕ) → stop ≤ leaves → (stop < leaves → stop + last ≡ bound) → at < leaves → at + last < bound
    → at < stop
before_stop {at} {stop} {leaves} last most ends h within = go (ltb stop leaves) refl
  where
    go : (b : Bool) → ltb stop leaves ≡ b → at < stop
    go true e = let l = ends (ltb-true stop leaves e) in omega arith
    go false e = let l = ltb-false stop leaves e in omega arith

-- a position in front of where the lowest leaves
pub stays_to : {at stop leaves : ℕ} → at < stop → stop ≤ leaves + 1 → at ≤ leaves
stays_to h most = omega arith

-- the lowest has left where the block has not ended
pub left_at : {at stop leaves : ℕ} → leaves ≤ at → at ≤ stop → stop ≤ leaves → at ≡ leaves
left_at h most stops = omega arith

-- the window behind the lowest
pub behind : {at : ℕ} (low_at w : ℕ) → at ≡ low_at + w + 1
    → (suc (low_at + w - w) ≡ at - w) × (suc low_at ≡ at - w) × (low_at + w ≤ at) × (suc low_at + w ≤ at)
behind low_at w left = (omega arith, omega arith, omega arith, omega arith)

pub behind_left : {p leaves at : ℕ} → p ≤ leaves → at ≡ leaves + 1 → p < at
behind_left h left = omega arith

-- what stands behind the lowest stands behind the next one
pub first_behind : {low_at first at : ℕ} → suc low_at ≡ first → first ≤ at → suc low_at ≤ suc at
first_behind same h = omega arith

-- a window of the run
pub window_of : {at end : ℕ} (w last : ℕ) → w ≤ at → at + last ≤ end → (at - w + w ≡ at) × (at ≤ end - last)
window_of w last wide within = (omega arith, omega arith)

-- a window that has not begun is not full
pub before_full : {at from w : ℕ} → at ≤ from → 1 ≤ w → at < from + w
before_full none some = omega arith

-- a full window ends w k-mers behind where it began
pub full_first : {at : ℕ} (from w : ℕ) → at ≡ from + w → (at - w ≡ from) × (w ≤ at)
full_first from w full = (omega arith, omega arith)

-- the k-mers of a first window
pub first_kmers : {from at w : ℕ} → from ≤ at → at ≤ from + w → w ≤ back_size
    → (at - (at - from) ≡ from) × (at - from ≤ back_size) × (from + (at - from) ≤ at)
first_kmers start most small = (omega arith, omega arith, omega arith)

-- ---- what a word holds

-- a k-mer's last letter, and the end of a window
pub sum_fits : {x size : ℕ} → x ≤ size → size ≤ letter_limit → Fits w64 x
sum_fits within few = omega arith

pub block_fits : {base x size : ℕ} → base ≤ x → x ≤ size → size ≤ letter_limit → Fits w64 (base + block_size)
block_fits begins within few = omega arith

-- ---- from block to block

-- the block that begins in front of a position holds the k-mers of the window behind it
pub in_block : {base from at : ℕ} (last w : ℕ) → base ≤ from → from ≤ at → at ≤ from + w → from + last + w ≤ base + block_size
    → (base ≤ at + last) × (at + last ≤ base + block_size)
in_block last w begins start most ends = (omega arith, omega arith)

pub block_falls : {x size : ℕ} (base : ℕ) → base + block_size ≤ x → x ≤ size → suc size - x < suc size - base
block_falls base h within = omega arith

-- behind the last window of a run there is none
pub no_window : {at w end : ℕ} (last : ℕ) → w ≤ at → at + last ≡ end → end - last < suc (at - w) + w
no_window last wide ended = omega arith

-- ---- from run to run

pub run_ended : {p at end size : ℕ} → at ≡ end → p ≤ end → end ≤ size → (p ≤ at) × (at ≤ size)
run_ended ended start within = (omega arith, omega arith)

pub next_at : {at size : ℕ} → at ≤ size → at + 1 ≤ suc size
next_at within = omega arith
