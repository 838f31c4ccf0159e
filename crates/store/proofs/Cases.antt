-- Case 4 of document 01's table, and saves and loads that are refused: each is computed from the definitions.
use Prim.Native.Nat.{ℕ}
use mathlib.Core.Path.{◌≡◌, refl}
use mathlib.Core.List.{List, [], ◌∷◌, map}
use Rattle.base.specs.Replies.{Reply, accepted, refused}
use Rattle.minimizers.specs.Sketch.{sketch}
use Rattle.store.specs.Save.{stored, save_reply}
use Rattle.store.specs.Load.{load_reply}
use Rattle.store.proofs.Compute.{store_computes}

-- 4. The store of the sketch of AAAT, w 2
pub case4 : stored 1 2 (sketch 1 2 (65 ∷ 65 ∷ 65 ∷ 84 ∷ []))
    ≡ 0x00000041 ∷ 0x40000000 ∷ 0x80000001 ∷ 0x40000000 ∷ 0x80000002 ∷ 0xC0000002 ∷ []
unfolding store_computes
case4 = refl

-- what loads into buffers of two words each answer
abbrev loads : List (List ℕ) → List Reply
loads stores = map (λ (words : List ℕ). load_reply words 2 2) stores

pub record LoadExamples : Type 0 where
  -- 12. No word 0; k 0; a kind that is not 0
  pub header_bad : loads ([] ∷ (0x40 ∷ 0xC0000000 ∷ []) ∷ (0x40000041 ∷ 0xC0000000 ∷ []) ∷ [])
      ≡ refused 12 (0 ∷ []) ∷ refused 12 (0 ∷ []) ∷ refused 12 (0 ∷ []) ∷ []
  -- k 16; w 65; w 0; k 1 and w 2 with bit 12, into which a wider w would spill
  pub header_high : loads
      ((0x50 ∷ 0xC0000000 ∷ []) ∷ (0x821 ∷ 0xC0000000 ∷ []) ∷ (0x01 ∷ 0xC0000000 ∷ []) ∷ (0x1041 ∷ 0xC0000000 ∷ []) ∷ [])
      ≡ refused 12 (0 ∷ []) ∷ refused 12 (0 ∷ []) ∷ refused 12 (0 ∷ []) ∷ refused 12 (0 ∷ []) ∷ []
  -- the same with the highest bit below the kind
  pub header_spilt : loads ((0x20000041 ∷ 0xC0000000 ∷ []) ∷ []) ≡ refused 12 (0 ∷ []) ∷ []
  -- 13. A position where a code is due; a code of 4 with k 1; a position of 1,048,576
  pub word_bad : loads ((0x41 ∷ 0x80000000 ∷ []) ∷ (0x41 ∷ 0x40000004 ∷ []) ∷ (0x41 ∷ 0x40000000 ∷ 0x80100000 ∷ []) ∷ [])
      ≡ refused 13 (1 ∷ []) ∷ refused 13 (1 ∷ []) ∷ refused 13 (2 ∷ []) ∷ []
  -- the number of entries where a position is due
  pub kind_undue : loads ((0x41 ∷ 0x40000000 ∷ 0xC0000001 ∷ []) ∷ []) ≡ refused 13 (2 ∷ []) ∷ []
  -- the same position twice
  pub position_twice : loads ((0x41 ∷ 0x40000000 ∷ 0x80000001 ∷ 0x40000000 ∷ 0x80000001 ∷ 0xC0000002 ∷ []) ∷ []) ≡ refused 13 (4 ∷ []) ∷ []
  -- 14. Words run out; a count of 1 with no entry; a word behind the last
  pub end_bad : loads ((0x41 ∷ 0x40000000 ∷ []) ∷ (0x41 ∷ 0xC0000001 ∷ []) ∷ (0x41 ∷ 0xC0000000 ∷ 0 ∷ []) ∷ [])
      ≡ refused 14 (2 ∷ []) ∷ refused 14 (1 ∷ []) ∷ refused 14 (2 ∷ []) ∷ []
  -- they run out after an entry, and no buffer has room: 4 comes last
  pub end_before_room : load_reply (0x41 ∷ 0x40000000 ∷ 0x80000001 ∷ []) 0 0 ≡ refused 14 (3 ∷ [])
  -- 4, with the entries needed: case 4's store, where one of the two buffers has a place for one
  pub codes_short : load_reply (stored 1 2 (sketch 1 2 (65 ∷ 65 ∷ 65 ∷ 84 ∷ []))) 1 2 ≡ refused 4 (2 ∷ [])
  pub positions_short : load_reply (stored 1 2 (sketch 1 2 (65 ∷ 65 ∷ 65 ∷ 84 ∷ []))) 2 1 ≡ refused 4 (2 ∷ [])
  -- accepted, with k, w and the entries: no entry; the highest k, w, code and position
  pub empty : load_reply (0x41 ∷ 0xC0000000 ∷ []) 0 0 ≡ accepted (1 ∷ 2 ∷ 0 ∷ [])
  pub highest : load_reply (0x80F ∷ 0x7FFFFFFF ∷ 0x800FFFFF ∷ 0xC0000001 ∷ []) 1 1 ≡ accepted (15 ∷ 64 ∷ 1 ∷ [])

pub load_examples : LoadExamples
unfolding store_computes
load_examples =
    record {
      header_bad = refl;
      header_high = refl;
      header_spilt = refl;
      word_bad = refl;
      kind_undue = refl;
      position_twice = refl;
      end_bad = refl;
      end_before_room = refl;
      codes_short = refl;
      positions_short = refl;
      empty = refl;
      highest = refl;
    }

-- each refused call also breaks what is checked after it
pub record SaveExamples : Type 0 where
  -- 1: k outside 1–15
  pub k_low : (cs ps : List ℕ) → save_reply 0 65 cs ps 0 ≡ refused 1 []
  pub k_high : (cs ps : List ℕ) → save_reply 16 0 cs ps 0 ≡ refused 1 []
  -- 2: w outside 1–64
  pub w_low : (cs ps : List ℕ) → save_reply 1 0 cs ps 0 ≡ refused 2 []
  pub w_high : (cs ps : List ℕ) → save_reply 15 65 cs ps 0 ≡ refused 2 []
  -- 5: unequal numbers; a code of 4 with k 1; a position of 1,048,576; the same position twice
  pub unpaired : save_reply 1 1 (0 ∷ []) [] 0 ≡ refused 5 []
  pub code_bad : save_reply 1 1 (4 ∷ []) (0 ∷ []) 0 ≡ refused 5 []
  pub position_bad : save_reply 1 1 (0 ∷ []) (1048576 ∷ []) 0 ≡ refused 5 []
  pub position_twice : save_reply 1 1 (0 ∷ 0 ∷ []) (1 ∷ 1 ∷ []) 0 ≡ refused 5 []
  -- 4, with the words needed
  pub short : save_reply 1 1 (0 ∷ []) (0 ∷ []) 3 ≡ refused 4 (4 ∷ [])
  -- accepted, with the words: the highest k, w, code and position
  pub highest : save_reply 15 64 (0x3FFFFFFF ∷ []) (1048575 ∷ []) 4 ≡ accepted (4 ∷ [])

pub save_examples : SaveExamples
unfolding store_computes
save_examples =
    record {
      k_low = λ cs ps. refl;
      k_high = λ cs ps. refl;
      w_low = λ cs ps. refl;
      w_high = λ cs ps. refl;
      unpaired = refl;
      code_bad = refl;
      position_bad = refl;
      position_twice = refl;
      short = refl;
      highest = refl;
    }
