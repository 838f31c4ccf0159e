-- m at the first row of each block of rows, in the last column, from reach of each hit: what the loop that writes it keeps.
use Prim.Native.Nat.{ℕ, zero, suc, ◌+◌, ◌*◌, ◌/◌, ◌≤◌, ◌<◌, zero-le}
use native.Mathlib.Omega.{arith}
use mathlib.Core.Path.{◌≡◌, refl, sym, ap, ◌∙◌}
use mathlib.Core.Logic.{◌⊎◌, inl, inr}
use mathlib.Core.List.{List}
use mathlib.Core.Bool.{Bool, true, false}
use mir.Val.{bool_byte}
use lib.Dec.{ltb, leb, eqb}
use lib.ListN.{length, get_or, take, set, length-set, length-take, drop_of_length-le}
use lib.Seq.{get_or-set_same, get_or-set_other, sets}
use borrow.Author.Tests.{lt-ltb, le-ltb, eq-eqb, ne_eqb}
use Rattle.base.specs.Limits.{hit_limit, work_words}
use Rattle.base.specs.Lists.{bit}
use Rattle.base.specs.Counts.{occ}
use Rattle.base.proofs.Lists.{eq_or_ne, bit_le_one}
use Rattle.mappings.specs.Score.{interval, shared}
use Rattle.mappings.proofs.Shared.{shared_left_end, shared_nil}
use Rattle.session_words.specs.Layout.{reach_from, block_rows, block_count, starts_from}
use Rattle.session_start.specs.Tables.{reach, start_of}
use Rattle.session_start.specs.Noting.{HoldsReach, starts}
use Rattle.session_start.proofs.Tables.{reach_within, reach_test}
use Rattle.session_start.proofs.WorkWords.{Outside, length_table, get_d_table}
use Rattle.session_start.proofs.Storing.{Put, put_is}

pub length_starts : (p g : List ℕ) → length (starts p g) ≡ suc (block_count (length g))
unfolding starts
length_starts p g = length_table (start_of p g (length g)) (suc (block_count (length g)))

pub get_d_starts : (p g : List ℕ) (b : ℕ) → b ≤ block_count (length g) → get_or (starts p g) b 0 ≡ start_of p g (length g) b
unfolding starts
get_d_starts p g b h = get_d_table (start_of p g (length g)) (suc (block_count (length g))) b (let l : b < suc (block_count (length g)) = omega arith in l)

-- ---- m at a row of the last of n columns

abbrev shared_at : List ℕ → List ℕ → ℕ → ℕ → ℕ
shared_at p g zero i = 0
shared_at p g (suc j) i = shared p (interval g i j)

start_is : (p g : List ℕ) (n b : ℕ) → shared_at p g n (b * block_rows) ≡ start_of p g n b
start_is p g zero b = refl
start_is p g (suc j) b = refl

-- 0 behind the column
shared_behind : (p g : List ℕ) (n i : ℕ) → n ≤ i → shared_at p g n i ≡ 0
unfolding interval
shared_behind p g zero i h = refl
shared_behind p g (suc j) i h = ap (shared p) (drop_of_length-le (take (suc j) g) {i = i} (omega (arith, length-take (suc j) g))) ∙ shared_nil p

-- a number of at most suc j is above j where it is suc j
above_is : (j r : ℕ) → r ≤ suc j → ltb j r ≡ eqb r (suc j)
above_is j r h = go (eq_or_ne r (suc j))
  where
    go : (r ≡ suc j) ⊎ (r ≡ suc j → ⊥) → ltb j r ≡ eqb r (suc j)
    go (inl e) = lt-ltb j r (omega arith) ∙ sym (eq-eqb r (suc j) e)
    go (inr d) = le-ltb j r (omega arith) ∙ sym (ne_eqb r (suc j) d)

-- from a row to the row before it m grows by one where that row's hit reaches to the end
shared_before : (p g : List ℕ) (n i : ℕ) → length g ≡ n → i < n → shared_at p g n i ≡ shared_at p g n (suc i) + bit (eqb (reach p g i) n)
shared_before p g zero i e h = absurd (omega arith)
shared_before p g (suc j) i e h =
    let l : i ≤ j = omega arith in
    let k : j < length g = omega arith in
    let at : bit (leb (occ (get_or g i 0) (interval g i j)) (occ (get_or g i 0) p)) ≡ bit (eqb (reach p g i) (suc j)) =
    ap bit (sym (reach_test p g i j l k) ∙ above_is j (reach p g i) (omega (arith, reach_within p g i (omega arith)))) in
    omega (arith, shared_left_end p g i j l k)

-- a test as a number, as the code reads it
pub byte_bit : (b : Bool) → bool_byte b ≡ bit b
byte_bit true = refl
byte_bit false = refl

pub byte_le_one : (b : Bool) → bool_byte b ≤ 1
byte_le_one b = omega (arith, byte_bit b, bit_le_one b)

-- ---- the loop over the rows, from the last one up

module _ (p g : List ℕ) (h : ℕ) where
  -- the rows from i on have been counted, and the words of blocks that begin there are written
  pub record Begun (i m : ℕ) (old words : List ℕ) : Type 0 where
    pub counted : m ≡ shared_at p g h i
    pub written : (b : ℕ) → b < block_count h → i ≤ b * block_rows → get_or words (starts_from + b) 0 ≡ start_of p g h b
    pub others : (n : ℕ) → Outside starts_from (suc (block_count h)) n → get_or words n 0 ≡ get_or old n 0

  pub begun_none : (old : List ℕ) → Begun h 0 old old
  begun_none old = record {
    counted = sym (shared_behind p g h h (omega arith));
    written = λ b l k. absurd (omega arith);
    others = λ n o. refl;
  }

  -- a word written in the table leaves those outside alone
  others_same : (b n v : ℕ) (words : List ℕ) → b ≤ block_count h → Outside starts_from (suc (block_count h)) n
      → get_or (set words (starts_from + b) v) n 0 ≡ get_or words n 0
  others_same b n v words l (inl o) = get_or-set_other words (starts_from + b) n v 0 (λ e. omega arith)
  others_same b n v words l (inr o) = get_or-set_other words (starts_from + b) n v 0 (λ e. omega arith)

  module _ (e : length g ≡ h) (small : h ≤ hit_limit) (old words : List ℕ) (n : length words ≡ length old) (many : work_words ≤ length old) where
    -- one row more
    pub begun_more : HoldsReach p g old → (i next m one : ℕ) → next ≡ suc i → next ≤ h → one ≡ bit (eqb (get_or words (reach_from + i) 0) h)
        → Begun next m old words
        → Begun i (m + one) old (set words (starts_from + i / block_rows) (m + one))
    begun_more holds i next m one s l o now = record {
      counted = count;
      written = λ b k r. write b k r (eq_or_ne b (i / block_rows));
      others = λ k out. others_same (i / block_rows) k (m + one) words (omega arith) out ∙ now.others k out;
    }
      where
        reached : get_or words (reach_from + i) 0 ≡ reach p g i
        reached = now.others (reach_from + i) (inl (omega arith)) ∙ holds i (omega arith)

        count : m + one ≡ shared_at p g h i
        count = rw (o, reached, now.counted, s) (sym (shared_before p g h i e (omega arith)))

        write : (b : ℕ) → b < block_count h → i ≤ b * block_rows → (b ≡ i / block_rows) ⊎ (b ≡ i / block_rows → ⊥)
            → get_or (set words (starts_from + i / block_rows) (m + one)) (starts_from + b) 0 ≡ start_of p g h b
        write b k r (inl f) =
            let first : i ≡ b * block_rows = omega arith in
            rw (← f) (get_or-set_same words (starts_from + b) (m + one) 0 (omega arith)) ∙ count ∙ ap (shared_at p g h) first ∙ start_is p g h b
        write b k r (inr d) =
            get_or-set_other words (starts_from + i / block_rows) (starts_from + b) (m + one) 0 (λ f. d (omega arith))
            ∙ now.written b k (omega arith)

    -- all rows, and 0 behind the blocks
    pub begun_all : (m : ℕ) → Begun 0 m old words
        → (m ≡ start_of p g h 0) × (set words (starts_from + block_count h) 0 ≡ sets old starts_from (starts p g))
    begun_all m now = (now.counted ∙ start_is p g h 0, put_is starts_from (starts p g) old closed put (omega (arith, long)))
      where
        long : length (starts p g) ≡ suc (block_count h)
        long = length_starts p g ∙ ap (λ (k : ℕ). suc (block_count k)) e

        closed : List ℕ
        closed = set words (starts_from + block_count h) 0

        word : (b : ℕ) → b ≤ block_count h → (b ≡ block_count h) ⊎ (b ≡ block_count h → ⊥) → get_or closed (starts_from + b) 0 ≡ start_of p g h b
        word b l (inl f) =
            rw f (get_or-set_same words (starts_from + block_count h) 0 0 (omega arith))
            ∙ sym (sym (start_is p g h b) ∙ shared_behind p g h (b * block_rows) (omega arith))
        word b l (inr d) =
            get_or-set_other words (starts_from + block_count h) (starts_from + b) 0 0 (λ f. d (omega arith))
            ∙ now.written b (omega arith) zero-le

        put : Put starts_from (starts p g) old closed
        put = record {
          same_length = length-set words (starts_from + block_count h) 0 ∙ n;
          inside = λ b l.
              let within : b ≤ block_count h = omega (arith, long) in
              word b within (eq_or_ne b (block_count h))
              ∙ ap (λ (k : ℕ). start_of p g k b) (sym e)
              ∙ sym (get_d_starts p g b (rw e within));
          outside = λ k o. others_same (block_count h) k 0 words (omega arith) (rw long at o) ∙ now.others k (rw long at o);
        }
