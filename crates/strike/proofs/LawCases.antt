-- The laws of striking at work on a text and a read: each statement here is taken from a law, and a weaker law would not give it.
use Prim.Native.Nat.{ℕ, zero, suc, ◌≤◌, ◌<◌}
use native.Mathlib.Omega.{arith}
use mathlib.Core.Path.{◌≡◌, refl}
use mathlib.Core.List.{List, [], ◌∷◌, Memᴰ}
use lib.ListN.{length, get_or}
use Rattle.base.specs.Counts.{occ}
use Rattle.kmers.specs.Kmers.{Entry, codes, positions, entries}
use Rattle.strike.specs.Strike.{strike}
use Rattle.strike.proofs.Compute.{strike_computes}
use Rattle.strike.proofs.Laws.{StrictlyRising, strike_length, strike_rising, strike_mem, mem_strike, read_keeps, read_strikes}

-- 7 occurs three times in the text, and 5 and 9 once
abbrev text : List Entry
text = entries (7 ∷ 5 ∷ 7 ∷ 9 ∷ 7 ∷ []) (0 ∷ 1 ∷ 4 ∷ 6 ∷ 8 ∷ [])

-- the read has 7 and 9 once, and 3, which the text lacks, twice
abbrev read : List Entry
read = entries (3 ∷ 7 ∷ 9 ∷ 3 ∷ []) (0 ∷ 2 ∷ 5 ∷ 6 ∷ [])

-- the read struck by the text's counts, with c 2
abbrev pattern : List Entry
pattern = strike (codes text) 2 read

abbrev entry : ℕ → ℕ → Entry
entry c p = record { code = c; position = p }

rising_pair : (p q : ℕ) → p < q → StrictlyRising (p ∷ q ∷ [])
rising_pair p q h zero zero a b = absurd (omega arith)
rising_pair p q h zero (suc zero) a b = h
rising_pair p q h zero (suc (suc j)) a b = absurd (omega arith)
rising_pair p q h (suc i) zero a b = absurd (omega arith)
rising_pair p q h (suc i) (suc j) a b = absurd (omega arith)

pub record LawCases : Type 0 where
  -- 7 leaves the read as it leaves the text; 9 and 3 stay, as often
  pub leaves : occ 7 (codes pattern) ≡ 0
  pub stays : occ 9 (codes pattern) ≡ 1
  pub lacked : occ 3 (codes pattern) ≡ 2
  -- an entry is kept with its position, and struck with it
  pub kept : Memᴰ (entry 9 5) pattern
  pub dropped : Memᴰ (entry 7 2) pattern → ⊥
  pub invented : (p : ℕ) → Memᴰ (entry 9 p) pattern → Memᴰ (entry 9 p) read
  pub fewer : length pattern ≤ 4
  -- positions keep their order
  pub rises : (p q : ℕ) → p < q → get_or (positions (strike (codes text) 2 (entries (5 ∷ 9 ∷ []) (p ∷ q ∷ [])))) 0 0 < q

pub law_cases : LawCases
unfolding strike_computes
law_cases =
    record {
      leaves = read_strikes 2 text read 7 (omega arith);
      stays = read_keeps 2 text read 9 refl;
      lacked = read_keeps 2 text read 3 refl;
      kept = mem_strike (codes text) 2 read (Memᴰ.tail (Memᴰ.tail (Memᴰ.head refl))) (omega arith);
      dropped = λ m. let few : 3 ≤ 2 = (strike_mem (codes text) 2 read m).1 in absurd (omega arith);
      invented = λ p m. (strike_mem (codes text) 2 read m).0;
      fewer = strike_length (codes text) 2 read;
      rises = λ p q h. strike_rising (codes text) 2 (entries (5 ∷ 9 ∷ []) (p ∷ q ∷ [])) (rising_pair p q h) 0 1 (omega arith) (omega arith);
    }
