-- `plane::code_plane` meets its contract: a law for each answer. Assumes nothing.
use mathlib.Core.Path.{◌≡◌, refl, ◌∙◌}
use mathlib.Core.Bool.{true}
use Prim.Native.Nat.{ℕ, ◌*◌, ◌≤◌}
use native.Mathlib.Omega.{arith}
use borrow.Author.Rules.{rules}
use Rattle.quantizer.proofs.Range.{built_legal}
use Rattle.picture.proofs.Plane.{samples_fit}
use Rattle.head.specs.Entry.{size_holds, rows_hold}
use Rattle.head.proofs.Heads.{rows_of_law}
use Rattle.plane.proofs.Entry.{sound_slices}
use Rattle.plane.proofs.code_plane.Goals as goal

-- no product wraps
small : (width height rows : ℕ) → size_holds width height ≡ true → rows_hold height rows ≡ true → width * height ≤ 16384
small width height rows s n = omega (arith, samples_fit (sound_slices width height rows s n))

pub overflow_mul-count : goal.overflow_mul-count
overflow_mul-count c =
    let f = small c.args.width c.args.height c.args.rows (cc) (cc) in
    omega arith

pub overflow_mul-count-2 : goal.overflow_mul-count-2
overflow_mul-count-2 c =
    let f = small c.args.width c.args.height c.args.rows (cc) (cc) in
    omega arith

pub area_length-requires : goal.area_length-requires
area_length-requires c = sound_slices c.args.width c.args.height c.args.rows (cc) (cc)

pub code_file-requires-clause-sound : goal.code_file-requires-clause-sound
code_file-requires-clause-sound c =
    let q = built_legal _ c.in_ok-quantizer.ensures refl in
    (sound_slices c.args.width c.args.height c.args.rows (cc) (cc), rw q.0 q.1, c.if-plane-count.false)

pub code_file-requires-clause-layout_in_bounds : goal.code_file-requires-clause-layout_in_bounds
code_file-requires-clause-layout_in_bounds c =
    (omega (arith, c.if-file-area_length.false ∙ c.area_length.ensures), search rules, (rows_of_law c.args.height c.args.rows (cc)).1)
