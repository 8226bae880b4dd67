-- How far a rescaled level is from its coefficient's share, over the period and the tables' entries.
--     number_scale, share_scale, unit_scale     the scale in which all is whole
--     scale_part, table_part, number_near      the error at a class: the scale's part grows with the period, the tables' part does not
--     tables_small                           the tables' parts of all places, at each remainder: one computed test
--     tables_parts, slacks                   the same in figures
-- Assumes nothing.
use mathlib.Core.Path.{◌≡◌, refl, sym, ap, subst, ◌∙◌}
use mathlib.Core.List.{[], ◌∷◌}
use Prim.Native.Nat.{ℕ, ◌+◌, ◌-◌, ◌*◌, ◌/◌, ◌^◌, ◌<◌, ◌≤◌}
use native.Mathlib.Omega.{arith}
use lib.Dec.{leb, leb→le}
use lib.IntN.{ℤ, pos, nat_abs, ◌+ℤ◌, ◌-ℤ◌, ◌*ℤ◌}
use lib.Pow.{pow-add}
use Rattle.lists.proofs.Every.{every_at}
use Rattle.whole.specs.Bounds.{Within}
use Rattle.whole.proofs.Bound.{abs_mul, here, literal, plus, times, within}
use Rattle.whole.proofs.Ring.{ring, var, con, ◌⊕◌, ◌⊖◌, ◌⊗◌}
use Rattle.quantizer.specs.Tables.{mf_of, v_of}
use Rattle.quantizer.specs.declared.Class.{Class}
use Rattle.quantizer.specs.declared.Class.TheVariants.{A, B, C}
use Rattle.quantizer.proofs.Tables.{gain_of}
use Rattle.transform.proofs.Bounds.{most_of}
use Rattle.residual.specs.Quantize.{level_of, q_of}
use Rattle.residual.specs.Rescale.{scaled_by}
use Rattle.residual.proofs.Distance.{divisor_of, level_near}
use Rattle.residual.proofs.Rescale.{scaled_block}
use Rattle.distance.proofs.Unrounded.{share_of}

-- ---- the parts of the error

-- 1200 * 2^15 for a rescaled number, 3 * 2^21 for a coefficient's share, and so for a 384th of a sample
abbrev pub number_scale : ℕ
number_scale = 39321600

abbrev pub share_scale : ℕ
share_scale = 6291456

abbrev pub unit_scale : ℕ
unit_scale = 26214400

-- how far MF times V times the gain is from 2^21
abbrev off_of : ℕ → Class → ℤ
off_of r c = pos (mf_of r c * v_of r c * gain_of c) -ℤ pos 2097152

abbrev pub scale_part : ℕ → ℕ → Class → ℕ
scale_part r p c = 400 * (v_of r c * (65536 * 2 ^ p))

abbrev pub table_part : ℕ → Class → ℕ
table_part r c = 3 * (share_of c * (most_of c * nat_abs (off_of r c)))

abbrev pub error_of : ℕ → ℕ → Class → ℕ
error_of r p c = scale_part r p c + table_part r c

-- ---- what differs by remainder

-- the tables' parts of a block, at the weights of the classes
abbrev pub tables_of : ℕ → ℕ
tables_of r = 16 * table_part r A + 24 * table_part r C + 9 * table_part r B

-- at most 178.5 384ths: what the roundings leave of 384, since 137 256ths are 205.5
pub tables_small : (r : ℕ) → r < 6 → 2 * tables_of r ≤ 357 * unit_scale
tables_small r h = leb→le _ _ (every_at 6 (λ r. leb (2 * tables_of r) (357 * unit_scale)) tt r h)

-- the tables' parts of the six remainders in hundredths of a 384th, rounded up
abbrev part_of : ℕ → ℕ
part_of r = (100 * tables_of r + unit_scale - 1) / unit_scale

pub tables_parts : part_of 0 ∷ part_of 1 ∷ part_of 2 ∷ part_of 3 ∷ part_of 4 ∷ part_of 5 ∷ [] ≡ 1593 ∷ 5109 ∷ 8396 ∷ 8227 ∷ 5805 ∷ 5729 ∷ []
tables_parts = refl

-- what they and the roundings leave of 384
abbrev slack_of : ℕ → ℕ
slack_of r = 38400 - 20550 - part_of r

pub slacks : slack_of 0 ∷ slack_of 1 ∷ slack_of 2 ∷ slack_of 3 ∷ slack_of 4 ∷ slack_of 5 ∷ [] ≡ 16257 ∷ 12741 ∷ 9454 ∷ 9623 ∷ 12045 ∷ 12121 ∷ []
slacks = refl

-- ---- a rescaled number

-- the law of a level's distance (`residual`), at s = 0: three times the distance is below two steps of 2^q
own_level_near : (p mf : ℕ) (y : ℤ) → Within (65536 * 2 ^ p) (pos 3 *ℤ (pos (32768 * 2 ^ p) *ℤ level_of 0 p mf y -ℤ pos mf *ℤ y))
own_level_near p mf y =
    let q : q_of p + 0 ≡ q_of p = omega arith in
    let step : divisor_of 0 p ≡ 32768 * 2 ^ p = ap (λ (n : ℕ). 2 ^ n) q ∙ pow-add 2 15 p in
    let near = subst (λ (d : ℕ). 3 * nat_abs (pos d *ℤ level_of 0 p mf y -ℤ pos mf *ℤ y) + 3 ≤ 2 * d + 2) step (level_near 0 p mf y) in
    record { size = omega (arith, abs_mul (pos 3) (pos (32768 * 2 ^ p) *ℤ level_of 0 p mf y -ℤ pos mf *ℤ y), near) }

share_gain : (c : Class) → share_of c * gain_of c ≡ 400
share_gain A = refl
share_gain B = refl
share_gain C = refl

-- a rescaled level z v P, less the share S of y: by the level's distance, and by that of the tables
number_split : (S G z v P y mf : ℤ) → (pos 98304 *ℤ (S *ℤ G)) *ℤ (z *ℤ (v *ℤ P)) -ℤ pos share_scale *ℤ (S *ℤ y)
    ≡ (S *ℤ G) *ℤ (v *ℤ (pos 3 *ℤ ((pos 32768 *ℤ P) *ℤ z -ℤ mf *ℤ y))) +ℤ pos 3 *ℤ (S *ℤ (y *ℤ ((mf *ℤ v) *ℤ G -ℤ pos 2097152)))
number_split S G z v P y mf =
    ring (S ∷ G ∷ z ∷ v ∷ P ∷ y ∷ mf ∷ [])
    ((con (pos 98304) ⊗ (var 0 ⊗ var 1)) ⊗ (var 2 ⊗ (var 3 ⊗ var 4)) ⊖ con (pos share_scale) ⊗ (var 0 ⊗ var 5))
    ((var 0 ⊗ var 1) ⊗ (var 3 ⊗ (con (pos 3) ⊗ ((con (pos 32768) ⊗ var 4) ⊗ var 2 ⊖ var 6 ⊗ var 5)))
    ⊕ con (pos 3) ⊗ (var 0 ⊗ (var 5 ⊗ ((var 6 ⊗ var 3) ⊗ var 1 ⊖ con (pos 2097152))))) refl

pub number_near : (c : Class) (r p : ℕ) (y : ℤ) → Within (most_of c) y
    → Within (error_of r p c) (pos number_scale *ℤ scaled_by 0 p (level_of 0 p (mf_of r c) y *ℤ pos (v_of r c)) -ℤ pos share_scale *ℤ (pos (share_of c) *ℤ y))
number_near c r p y h =
    let mf = mf_of r c in
    let v = v_of r c in
    let z = level_of 0 p (mf_of r c) y in
    let is =
    ap (λ (d : ℤ). pos number_scale *ℤ d -ℤ pos share_scale *ℤ (pos (share_of c) *ℤ y)) (sym (scaled_block p v z))
    ∙ ap (λ (n : ℕ). pos (98304 * n) *ℤ (z *ℤ pos (v * 2 ^ p)) -ℤ pos share_scale *ℤ (pos (share_of c) *ℤ y)) (sym (share_gain c))
    ∙ number_split (pos (share_of c)) (pos (gain_of c)) z (pos v) (pos (2 ^ p)) y (pos mf)
    ∙ ap (λ (n : ℕ). pos n *ℤ (pos v *ℤ (pos 3 *ℤ (pos (32768 * 2 ^ p) *ℤ z -ℤ pos mf *ℤ y))) +ℤ pos 3 *ℤ (pos (share_of c) *ℤ (y *ℤ off_of r c))) (share_gain c) in
    subst (Within (error_of r p c)) (sym is)
    (within (plus
    (times (literal (pos 400)) (times (literal (pos v)) (here (own_level_near p mf y))))
    (times (literal (pos 3)) (times (literal (pos (share_of c))) (times (here h) (literal (off_of r c)))))))
