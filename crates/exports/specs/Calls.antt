-- What the exported calls with buffers have to meet: the two numbers of document 01's reply, and every lent word afterwards.
-- The parameters of a call are what it is given, all as it came, and then its result and what the lent words hold behind it.
use Rattle.std.specs.Prelude.{ℕ, ◌≡◌, List, length}
use Rattle.base.specs.Replies.{Reply}
use Rattle.mappings.specs.Score.{Task}
use Rattle.sketch.specs.Replies.{sketch_reply, sketch_codes, sketch_positions}
use Rattle.strands.specs.Complement.{complement_reply, complement_bytes}
use Rattle.strike.specs.Strike.{strike_reply, strike_codes, strike_positions}
use Rattle.store.specs.Save.{save_reply, save_words}
use Rattle.store.specs.Load.{load_reply, load_codes, load_positions}
use Rattle.session_start.specs.Start.{start_reply, start_words}
use Rattle.answers.specs.Numbers.{number_of, value_of, k_after, w_after}

-- the result of a call and its lent number are those of this reply
pub record Tells (reply : Reply) (result number : ℕ) : Type 0 where
  pub result_is : result ≡ value_of reply
  pub number_is : number ≡ number_of reply

pub record SketchCall (k w : ℕ) (letters codes₀ positions₀ : List ℕ) (result number : ℕ) (codes' positions' : List ℕ) : Type 0 where
  pub tells : Tells (sketch_reply k w letters (length codes₀) (length positions₀)) result number
  pub codes_after : codes' ≡ sketch_codes k w letters codes₀ positions₀
  pub positions_after : positions' ≡ sketch_positions k w letters codes₀ positions₀

pub record ComplementCall (read out₀ : List ℕ) (result number : ℕ) (out' : List ℕ) : Type 0 where
  pub tells : Tells (complement_reply read (length out₀)) result number
  pub out_after : out' ≡ complement_bytes read out₀

-- the codes that decide; the codes and positions to strike
pub record StrikeCall (deciding codes positions : List ℕ) (c : ℕ) (codes₀ positions₀ : List ℕ) (result number : ℕ)
    (codes' positions' : List ℕ) : Type 0 where
  pub tells : Tells (strike_reply deciding codes positions c (length codes₀) (length positions₀)) result number
  pub codes_after : codes' ≡ strike_codes deciding codes positions c codes₀ positions₀
  pub positions_after : positions' ≡ strike_positions deciding codes positions c codes₀ positions₀

pub record SaveCall (k w : ℕ) (codes positions words₀ : List ℕ) (result number : ℕ) (words' : List ℕ) : Type 0 where
  pub tells : Tells (save_reply k w codes positions (length words₀)) result number
  pub words_after : words' ≡ save_words k w codes positions words₀

-- the words; the two lent for k and w, and both buffers; the same behind the call
pub record LoadCall (words : List ℕ) (k₀ w₀ : ℕ) (codes₀ positions₀ : List ℕ) (result number k' w' : ℕ)
    (codes' positions' : List ℕ) : Type 0 where
  pub tells : Tells (load_reply words (length codes₀) (length positions₀)) result number
  pub k_after : k' ≡ k_after (load_reply words (length codes₀) (length positions₀)) k₀
  pub w_after : w' ≡ w_after (load_reply words (length codes₀) (length positions₀)) w₀
  pub codes_after : codes' ≡ load_codes words codes₀ positions₀
  pub positions_after : positions' ≡ load_positions words codes₀ positions₀

pub record StartCall (task : Task) (work₀ : List ℕ) (result number : ℕ) (work' : List ℕ) : Type 0 where
  pub tells : Tells (start_reply task (length work₀)) result number
  pub work_after : work' ≡ start_words task work₀
