-- `reverse_complement` meets its contract: the loop writes the reverse complement letter by letter, where the output is long enough.
use Rattle.std.proofs.Common.{◌≡◌, length, ℕ, ◌+◌, ◌-◌, ◌<◌, ◌≤◌, List, [], ◌∷◌, ◌++◌, map, take, drop, get_or, arith, sym, ap, ap₂, ◌∙◌}
use Rattle.std.proofs.lemmas.List.{get_or-take, get_or_at, take_at, take-take, length-take-le, length-append, length-map, take_all}
use Rattle.std.specs.Iterator.Adapters.{enumerate_count}
use Rattle.std.proofs.Math.ListN.{set}
use borrow.Author.Tests.{le-leb, lt-leb}
use Rattle.base.proofs.Lists.{get_d_map}
use Rattle.base.proofs.Writing.{Written, written_more}
use Rattle.strands.specs.Complement.{complement, reverse_complement, complement_reply, complement_bytes}
use Rattle.strands.proofs.Laws.{length_complement}
use Rattle.strands.proofs.Reversing.{get_d_reverse}
use Rattle.strands.proofs.reverse_complement.Goals as goal

-- the last of the letters still to come, and those before it
module _ (read rest left : List ℕ) (x i : ℕ)
    (there : rest ≡ take (length read - i) read)
    (split : rest ≡ left ++ x ∷ [])
    (within : i ≤ length read)
  where
    size : length left + 1 ≡ length read - i
    size =
        let whole : length rest ≡ length read - i = ap length there ∙ length-take-le (length read - i) read (omega arith) in
        let parts : length rest ≡ length left + 1 = ap length split ∙ length-append left (x ∷ []) in
        omega arith

    letter : x ≡ get_or read (length read - 1 - i) 0
    letter =
        let last : length left ≡ length read - 1 - i = (let s = size in omega arith) in
        sym (get_or_at left x [] 0 (length read - 1 - i) last)
        ∙ ap (λ (l : List ℕ). get_or l (length read - 1 - i) 0) (sym split ∙ there)
        ∙ get_or-take (length read - i) read (length read - 1 - i) 0 (let s = size in omega arith)

    fewer : left ≡ take (length read - (i + 1)) read
    fewer =
        let last : length left ≡ length read - (i + 1) = (let s = size in omega arith) in
        sym (take_at left (x ∷ []) (length read - (i + 1)) last)
        ∙ ap (take (length read - (i + 1))) (sym split ∙ there)
        ∙ take-take (length read - (i + 1)) (length read - i) read (omega arith)

    below : i < length read
    below = let s = size in omega arith

module _ (read out : List ℕ) where
  -- the letter that a turn writes
  written_letter : (i : ℕ) → i < length read → complement (get_or read (length read - 1 - i) 0) ≡ get_or (reverse_complement read) i 0
  unfolding reverse_complement
  written_letter i h =
      let n : length (map complement read) ≡ length read = length-map read complement in
      sym (get_d_reverse (map complement read) i (omega arith)
      ∙ ap (λ (k : ℕ). get_or (map complement read) (k - 1 - i) 0) n
      ∙ get_d_map complement read (length read - 1 - i) (omega arith))

  more : (i v : ℕ) (now : List ℕ) → i < length read → length read ≤ length out → v ≡ complement (get_or read (length read - 1 - i) 0)
      → Written (reverse_complement read) out i now
      → Written (reverse_complement read) out (i + 1) (set now i v)
  more i v now h l e w =
      let n : length (reverse_complement read) ≡ length read = length_complement read in
      written_more (reverse_complement read) out i now v w (omega arith) (omega arith) (e ∙ written_letter i h)

  all : (i : ℕ) (now : List ℕ) → i ≡ length read → length read ≤ length out → Written (reverse_complement read) out i now
      → now ≡ complement_bytes read out
  unfolding complement_reply complement_bytes
  all i now h room w =
      let n : length (reverse_complement read) ≡ length read = length_complement read in
      rw (le-leb (length read) (length out) room)
      (w ∙ ap₂ (λ (a b : List ℕ). a ++ b) (take_all i (reverse_complement read) (omega arith)) (ap (λ (k : ℕ). drop k out) (h ∙ sym n)))

pub returns-then-out-n-clause-result_value : goal.returns-then-out-n-clause-result_value
unfolding complement_reply
returns-then-out-n-clause-result_value c = let short = c.if-out-n.true in rw lt-leb

pub returns-then-out-n-clause-out_after : goal.returns-then-out-n-clause-out_after
unfolding complement_reply complement_bytes
returns-then-out-n-clause-out_after c = let short = c.if-out-n.true in rw lt-leb

pub loop-i-preserved : goal.loop-i-preserved
loop-i-preserved c =
    let read = c.args.read.now in
    let held = c.loop-i.invariant in
    let steps = c.in-Some.ensures.steps in
    let i = enumerate_count c.loop-i.i-iterator in
    let h = below read _ _ c.in-Some.letter.now i held.left steps.0 held.within in
    let e = c.complement.ensures ∙ ap complement (letter read _ _ c.in-Some.letter.now i held.left steps.0 held.within) in
    record {
      within = omega (arith, h, steps.2);
      left = rw steps.2 (fewer read _ _ c.in-Some.letter.now i held.left steps.0 held.within);
      written = rw (steps.2, steps.1) (more read c.args.out.now i c.complement.result c.loop-i.out h (omega arith) e held.written);
    }

pub returns-clause-result_value : goal.returns-clause-result_value
unfolding complement_reply
returns-clause-result_value c = let room = c.if-out-n.false in rw le-leb

pub returns-clause-out_after : goal.returns-clause-out_after
returns-clause-out_after c =
    let held = c.loop-i.invariant in
    let i = enumerate_count c.loop-i.i-iterator in
    let none = c.in-None.ensures.steps.0.0 in
    let front = length-take-le (length c.args.read.now - i) c.args.read.now (omega arith) in
    let done : i ≡ length c.args.read.now = omega (arith, none, front, ap length held.left, held.within) in
    all c.args.read.now c.args.out.now i c.loop-i.out done (omega arith) held.written
