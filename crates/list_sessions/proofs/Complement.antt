-- The complement of a read in local letters that have room for it.
use Prim.Native.Nat.{ℕ, ◌≤◌}
use native.Mathlib.Omega.{arith}
use mathlib.Core.Path.{◌≡◌, sym, ap, ◌∙◌}
use mathlib.Core.List.{List, [], ◌∷◌}
use lib.ListN.{length, take}
use borrow.Author.Tests.{le-leb}
use Rattle.std.specs.Prelude.{Result, Ok, Err}
use Rattle.base.specs.Replies.{accepted}
use Rattle.base.specs.Refusals.{reply_of}
use Rattle.base.specs.declared.refusal.Refusal.{Refusal}
use Rattle.strands.specs.Complement.{reverse_complement, complement_reply, complement_bytes}
use Rattle.strands.proofs.Written.{front_complement}

module _ (read out out' : List ℕ) (room : length read ≤ length out) (r : Result ℕ Refusal)
    (answer : reply_of r ≡ complement_reply read (length out)) (written : out' ≡ complement_bytes read out) where
  -- it is accepted
  pub complemented : r ≡ Ok (length read)
  unfolding complement_reply
  complemented = let fits = le-leb (length read) (length out) room in go r (rw fits at answer)
    where
      go : (q : Result ℕ Refusal) → reply_of q ≡ accepted (length read ∷ []) → q ≡ Ok (length read)
      go (Ok n) e = let same : n ≡ length read = cc in ap (λ (i : ℕ). Ok i) same
      go (Err refusal) e = absurd (let z : ◌≡◌ {A = ℕ} 1 0 = cc in omega arith)

  module _ (n : ℕ) (is : r ≡ Ok n) where
    pub all_written : n ≡ length read
    all_written = let e : ◌≡◌ {A = Result ℕ Refusal} (Ok n) (Ok (length read)) = sym is ∙ complemented in cc

    -- the front of the letters is the reverse complement
    pub front : take n out' ≡ reverse_complement read
    front = ap (λ (i : ℕ). take i out') all_written ∙ ap (take (length read)) written ∙ front_complement read out room
