-- A number as two bytes, high byte first.
--     high_first, level_first     as the library says it; of a level that the code narrows
-- Assumes nothing.
use Rattle.std.proofs.Common.{◌≡◌, ℕ, ◌%◌, ◌<◌, [], ◌∷◌, ℤ, ap, ◌∙◌, arith, w16, w32, SFits, to_z, of_z}
use Rattle.std.proofs.lemmas.Int.{to_z-of_z}
use Rattle.std.specs.Int.{to_be_bytes}
use mir.Facts.{Fits-of_z, sfits_widen}
use Rattle.octets.specs.Numbers.{bytes_of}

pub high_first : (n : ℕ) → n < 65536 → to_be_bytes w16 n ≡ bytes_of n
high_first n h = ap (λ (b : ℕ). b ∷ n % 256 ∷ []) (omega arith)

pub level_first : (z : ℤ) → SFits w16 z → to_be_bytes w16 (of_z w16 (to_z w16 (of_z w16 (to_z w32 (of_z w32 z))))) ≡ bytes_of (of_z w16 z)
level_first z h =
    let e : to_z w16 (of_z w16 (to_z w32 (of_z w32 z))) ≡ z = ap (λ (v : ℤ). to_z w16 (of_z w16 v)) (to_z-of_z w32 z (sfits_widen {w = w16} tt h)) ∙ to_z-of_z w16 z h in
    ap (λ (v : ℤ). to_be_bytes w16 (of_z w16 v)) e ∙ high_first (of_z w16 z) (Fits-of_z h).fits
