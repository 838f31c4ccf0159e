-- Examples of per mille: each is computed from the definitions.
use mathlib.Core.Path.{◌≡◌, refl}
use lib.IntN.{pos, negsuc}
use Rattle.per_mille.specs.PerMille.{per_mille_number}
use Rattle.per_mille.proofs.Compute.{per_mille_computes}

-- 0 and 1,000; 1/16 is 62.5, 3/16 is 187.5, 5/16 is 312.5, 7/16 is 437.5, each to the even one; 1/2,000 is 0.5 and 3/2,000 is 1.5
-- a third is 333.3.., two thirds 666.6..; 4,096 of 65,535 is a little above 62.5, 4,095 of 65,521 a little below
-- refused with 16: both lengths 0; m over len; m over the pattern's length; len 65,536; pattern of 4,097
pub record PerMilleCases : Type 0 where
  pub none : per_mille_number 0 0 1 ≡ pos 0
  pub whole : per_mille_number 3 3 3 ≡ pos 1000
  pub half_to_62 : per_mille_number 1 1 16 ≡ pos 62
  pub half_to_188 : per_mille_number 3 16 3 ≡ pos 188
  pub half_to_312 : per_mille_number 5 5 16 ≡ pos 312
  pub half_to_438 : per_mille_number 7 16 7 ≡ pos 438
  pub half_to_0 : per_mille_number 1 1 2000 ≡ pos 0
  pub half_to_2 : per_mille_number 3 2000 3 ≡ pos 2
  pub third : per_mille_number 1 2 2 ≡ pos 333
  pub two_thirds : per_mille_number 2 3 2 ≡ pos 667
  pub above_half : per_mille_number 4096 65535 4096 ≡ pos 63
  pub below_half : per_mille_number 4095 65521 4095 ≡ pos 62
  pub empty : per_mille_number 0 0 0 ≡ negsuc 15
  pub over_len : per_mille_number 2 1 5 ≡ negsuc 15
  pub over_size : per_mille_number 2 5 1 ≡ negsuc 15
  pub len_high : per_mille_number 1 65536 1 ≡ negsuc 15
  pub size_high : per_mille_number 1 1 4097 ≡ negsuc 15

pub per_mille_cases : PerMilleCases
unfolding per_mille_computes
per_mille_cases =
    record {
      none = refl;
      whole = refl;
      half_to_62 = refl;
      half_to_188 = refl;
      half_to_312 = refl;
      half_to_438 = refl;
      half_to_0 = refl;
      half_to_2 = refl;
      third = refl;
      two_thirds = refl;
      above_half = refl;
      below_half = refl;
      empty = refl;
      over_len = refl;
      over_size = refl;
      len_high = refl;
      size_high = refl;
    }
