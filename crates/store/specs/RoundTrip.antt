-- What a stored sketch loads back as, and what a store that loads is the store of: in which buffers it lies does not matter.
use Rattle.std.specs.Prelude.{ℕ, ◌≡◌, List, [], ◌∷◌, length}
use Rattle.base.specs.Replies.{accepted, over}
use Rattle.store.specs.Save.{save_reply, save_words}
use Rattle.store.specs.Load.{load_reply, load_codes, load_positions}

-- the words load as these codes and positions, of a sketch with k and w
pub record LoadsAs (words codes₀ positions₀ : List ℕ) (k w : ℕ) (cs ps : List ℕ) : Type 0 where
  pub reply : load_reply words (length codes₀) (length positions₀) ≡ accepted (k ∷ w ∷ length cs ∷ [])
  pub codes_back : load_codes words codes₀ positions₀ ≡ over cs codes₀
  pub positions_back : load_positions words codes₀ positions₀ ≡ over ps positions₀

-- saving these codes and positions writes exactly these words
pub record SavesAs (words words₀ : List ℕ) (k w : ℕ) (cs ps : List ℕ) : Type 0 where
  pub reply : save_reply k w cs ps (length words₀) ≡ accepted (length words ∷ [])
  pub words_back : save_words k w cs ps words₀ ≡ over words words₀
