-- Examples that tell the definitions of strands from likely mistakes: each is computed.
use Prim.Native.Nat.{ℕ}
use mathlib.Core.Path.{◌≡◌, refl}
use mathlib.Core.List.{List, [], ◌∷◌, map}
use Rattle.std.specs.Prelude.{Ok, Err}
use Rattle.base.specs.Replies.{accepted, refused}
use Rattle.base.specs.Refusals.{reply_of}
use Rattle.base.specs.declared.refusal.Refusal.{Refusal}
use Rattle.kmers.specs.Letters.{runs}
use Rattle.strands.specs.declared.Strand.TheVariants.{Forward, Reverse}
use Rattle.strands.specs.Complement.{complement, reverse_complement, complement_reply, complement_bytes}
use Rattle.strands.specs.Strands.{read_on}
use Rattle.strands.specs.Upper.{upper, opposite}
use Rattle.strands.proofs.Compute.{strands_compute}

-- N, n, U, @, [, `, {, 0 and 255: outside the eight, the neighbours of the letters' two ranges among them
abbrev outside_eight : List ℕ
outside_eight = 78 ∷ 110 ∷ 85 ∷ 64 ∷ 91 ∷ 96 ∷ 123 ∷ 0 ∷ 255 ∷ []

pub record ComplementExamples : Type 0 where
  -- ACGT and acgt: A with T and C with G, all in upper case
  pub upper_case : map complement (65 ∷ 67 ∷ 71 ∷ 84 ∷ []) ≡ 84 ∷ 71 ∷ 67 ∷ 65 ∷ []
  pub lower_case : map complement (97 ∷ 99 ∷ 103 ∷ 116 ∷ []) ≡ 84 ∷ 71 ∷ 67 ∷ 65 ∷ []
  pub others : map complement outside_eight ≡ outside_eight
  -- AACgN: NCGTT, in reverse order, complemented, with its N and in upper case
  pub reversed : reverse_complement (65 ∷ 65 ∷ 67 ∷ 103 ∷ 78 ∷ []) ≡ 78 ∷ 67 ∷ 71 ∷ 84 ∷ 84 ∷ []
  pub nothing : reverse_complement [] ≡ []
  -- AcgTN twice: ACGTN
  pub again : reverse_complement (reverse_complement (65 ∷ 99 ∷ 103 ∷ 84 ∷ 78 ∷ [])) ≡ 65 ∷ 67 ∷ 71 ∷ 84 ∷ 78 ∷ []
  -- what is mapped on each strand: Ac as it is, and GT
  pub forward : read_on Forward (65 ∷ 99 ∷ []) ≡ 65 ∷ 99 ∷ []
  pub reverse : read_on Reverse (65 ∷ 99 ∷ []) ≡ 71 ∷ 84 ∷ []
  -- what the laws speak of: acgtNn in upper case, and the run ACC on the other strand, GGT
  pub in_upper_case : map upper (97 ∷ 99 ∷ 103 ∷ 116 ∷ 78 ∷ 110 ∷ []) ≡ 65 ∷ 67 ∷ 71 ∷ 84 ∷ 78 ∷ 110 ∷ []
  pub run_back : opposite (0 ∷ 1 ∷ 1 ∷ []) ≡ 2 ∷ 2 ∷ 3 ∷ []
  -- ACCNG has the runs ACC and G, and its complement C and GGT
  pub run_order : runs (reverse_complement (65 ∷ 67 ∷ 67 ∷ 78 ∷ 71 ∷ [])) ≡ (1 ∷ []) ∷ (2 ∷ 2 ∷ 3 ∷ []) ∷ []

pub complement_examples : ComplementExamples
unfolding strands_compute
complement_examples =
    record {
      upper_case = refl;
      lower_case = refl;
      others = refl;
      reversed = refl;
      nothing = refl;
      again = refl;
      forward = refl;
      reverse = refl;
      in_upper_case = refl;
      run_back = refl;
      run_order = refl;
    }

-- the call with AAC and outputs of different lengths
pub record CallExamples : Type 0 where
  -- shorter than the read: 4 with the bytes needed, and nothing is written
  pub short : complement_reply (65 ∷ 65 ∷ 67 ∷ []) 2 ≡ refused 4 (3 ∷ [])
  pub short_after : complement_bytes (65 ∷ 65 ∷ 67 ∷ []) (1 ∷ 2 ∷ []) ≡ 1 ∷ 2 ∷ []
  -- as long
  pub enough : complement_reply (65 ∷ 65 ∷ 67 ∷ []) 3 ≡ accepted (3 ∷ [])
  pub enough_after : complement_bytes (65 ∷ 65 ∷ 67 ∷ []) (1 ∷ 2 ∷ 3 ∷ []) ≡ 71 ∷ 84 ∷ 84 ∷ []
  -- longer: the bytes written are counted, and those past them stay
  pub longer : complement_reply (65 ∷ 65 ∷ 67 ∷ []) 5 ≡ accepted (3 ∷ [])
  pub longer_after : complement_bytes (65 ∷ 65 ∷ 67 ∷ []) (1 ∷ 2 ∷ 3 ∷ 4 ∷ 5 ∷ []) ≡ 71 ∷ 84 ∷ 84 ∷ 4 ∷ 5 ∷ []
  -- an empty read fits everywhere, and writes nothing
  pub nothing : complement_reply [] 0 ≡ accepted (0 ∷ [])
  pub nothing_after : complement_bytes [] (7 ∷ []) ≡ 7 ∷ []
  -- the call's own answers
  pub written : reply_of (Ok 3) ≡ accepted (3 ∷ [])
  pub needed : reply_of (Err (Refusal.TooShort 3)) ≡ refused 4 (3 ∷ [])

pub call_examples : CallExamples
unfolding strands_compute
call_examples =
    record {
      short = refl;
      short_after = refl;
      enough = refl;
      enough_after = refl;
      longer = refl;
      longer_after = refl;
      nothing = refl;
      nothing_after = refl;
      written = refl;
      needed = refl;
    }
