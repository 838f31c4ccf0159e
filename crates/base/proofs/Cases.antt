-- Document 01's limits as it writes them, and the ends of a range.
use mathlib.Core.Path.{◌≡◌, refl}
use mathlib.Core.Bool.{true, false}
use Rattle.base.specs.Limits.{k_limit, w_limit, letter_limit, text_limit, pattern_limit, weight_limit, hit_limit, work_words, line_limit, outside}

pub record Limits : Type 0 where
  pub k : k_limit ≡ 15
  pub w : w_limit ≡ 64
  pub letters : letter_limit ≡ 1048576
  pub text : text_limit ≡ 65535
  pub pattern : pattern_limit ≡ 4096
  pub weight : weight_limit ≡ 1000
  pub hits : hit_limit ≡ 2048
  pub words : work_words ≡ 16384
  pub line : line_limit ≡ 4096
  -- both ends of a range are inside
  pub lowest : outside 1 15 1 ≡ false
  pub highest : outside 1 15 15 ≡ false
  pub below : outside 1 15 0 ≡ true
  pub above : outside 1 15 16 ≡ true

pub limits : Limits
limits =
    record {
      k = refl;
      w = refl;
      letters = refl;
      text = refl;
      pattern = refl;
      weight = refl;
      hits = refl;
      words = refl;
      line = refl;
      lowest = refl;
      highest = refl;
      below = refl;
      above = refl;
    }
