-- `sheet::quality_sheet` meets its contract: a law for each answer. Assumes nothing.
use mathlib.Core.Path.{◌≡◌, sym, ◌∙◌}
use mathlib.Core.Bool.{true}
use Prim.Native.Nat.{ℕ, ◌*◌, ◌≤◌}
use native.Mathlib.Omega.{arith}
use lib.ListN.{length}
use Rattle.head.specs.Entry.{size_holds}
use Rattle.picture.proofs.Plane.{samples_fit}
use Rattle.sheet.proofs.Present.{flag_none, flag_some}
use Rattle.sheet.proofs.Outcome.{sound_of, bad_flag, sheet_made}
use Rattle.sheet.proofs.Places.{count_low}
use Rattle.sheet.proofs.quality_sheet.Goals as goal

-- so that no product wraps
few : (width height : ℕ) → size_holds width height ≡ true → width * height ≤ 16384
few width height e = omega (arith, samples_fit (sound_of width height e))

pub overflow_mul-count : goal.overflow_mul-count
overflow_mul-count c = omega (arith, few c.args.width c.args.height (sym c.size_holds.ensures ∙ c.if-not-size_holds.false))

pub overflow_mul-count-2 : goal.overflow_mul-count-2
overflow_mul-count-2 c = omega (arith, few c.args.width c.args.height (sym c.size_holds.ensures ∙ c.if-not-size_holds.false))

pub over_picture-requires : goal.over_picture-requires
over_picture-requires c =
    let sized = sym c.size_holds.ensures ∙ c.if-not-size_holds.false in
    rw c.one_slice-layout.ensures (sound_of _ _ sized, record { own = c.if-original-count.false; back = c.if-rebuilt-count.false }, c.if-map-count.false)

pub divided-requires : goal.divided-requires
divided-requires c =
    let sized = sym c.size_holds.ensures ∙ c.if-not-size_holds.false in
    (omega (arith, c.present.ensures, c.if-map-count.false, few c.args.width c.args.height sized, count_low (length c.args.map.now) c.args.map.now), c.over_picture.ensures.low)

pub returns : goal.returns
returns c =
    let a = c.args in
    let sized = sym c.size_holds.ensures ∙ c.if-not-size_holds.false in
    sheet_made _ _ a.original.now a.rebuilt.now a.map.now sized c.if-original-count.false c.if-rebuilt-count.false c.if-map-count.false
    (flag_none a.map.now (sym c.first_flag.ensures ∙ c.in_default.is)) c.present.ensures _ (rw c.one_slice-layout.ensures at c.over_picture.ensures) _ c.divided.ensures

pub returns-in-Some : goal.returns-in-Some
returns-in-Some c =
    let a = c.args in
    bad_flag _ _ a.original.now a.rebuilt.now a.map.now (sym c.size_holds.ensures ∙ c.if-not-size_holds.false) c.if-original-count.false c.if-rebuilt-count.false c.if-map-count.false
    (flag_some a.map.now (sym c.first_flag.ensures ∙ c.in-Some.is))
