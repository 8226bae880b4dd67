-- `frame::code_picture` meets its contract: a law for each answer. Assumes nothing.
use Rattle.std.specs.Prelude.{Ok, Err}
use Rattle.std.proofs.lemmas.Result.{err_from_is_err_and}
use mathlib.Core.Path.{refl, ◌≡◌, sym, ap, ◌∙◌}
use mathlib.Core.Bool.{true}
use mathlib.Core.List.{List}
use native.Mathlib.Omega.{arith}
use lib.IntN.{ℤ, pos}
use lib.ListN.{length}
use mir.Syntax.{w32}
use mir.Val.{to_z, of_z}
use mir.ValLaws.{to_z-of_z}
use Rattle.lists.specs.Chain.{Test, pass, chain}
use Rattle.lists.proofs.Tab.{length_tab}
use Rattle.refusal.specs.declared.Refusal.{Refusal}
use Rattle.whole.specs.Notation.{minus}
use Rattle.whole.specs.Range.{inside}
use Rattle.residual.specs.Entry.{Accepts}
use Rattle.residual.proofs.Entry.{accepted_passed, accepted_number, accepted_refused}
use Rattle.head.specs.Entry.{size_holds, rows_hold}
use Rattle.head.proofs.Heads.{rows_of_law}
use Rattle.picture.specs.Both.{pair}
use Rattle.plane.specs.Code.{in_slices}
use Rattle.plane.specs.Decode.{cleared}
use Rattle.plane.proofs.Entry.{sound_slices}
use Rattle.frame.specs.Code.{frame_tests}
use Rattle.frame.proofs.FrameOutcome.{frame_refused, picture_coded}
use Rattle.frame.proofs.Tested.{FrameTold, frame_told}
use Rattle.frame.proofs.code_picture.Goals as goal
use Rattle.frame.proofs.code_picture.Goals.{After-frame_accepted, In_ok-quantizer}

-- ---- what is known behind the call of `frame_accepted`

-- width, height and rows have passed their tests
sized : (c : After-frame_accepted) → size_holds c.args.width c.args.height ≡ true
sized c = sym c.size_holds.ensures ∙ c.if-not-size_holds.false

sliced : (c : After-frame_accepted) → rows_hold c.args.height c.args.rows ≡ true
sliced c = sym c.rows_hold.ensures ∙ c.if-not-rows_hold.false

-- the offsets as a call takes them are the offsets as they are
cb_same : (c : After-frame_accepted) → to_z w32 (of_z w32 c.args.cb_offset) ≡ c.args.cb_offset
cb_same c = to_z-of_z w32 c.args.cb_offset c.ranges.cb_offset

cr_same : (c : After-frame_accepted) → to_z w32 (of_z w32 c.args.cr_offset) ≡ c.args.cr_offset
cr_same c = to_z-of_z w32 c.args.cr_offset c.ranges.cr_offset

-- the tests whose verdict it answers, of two offsets
abbrev tests_of : After-frame_accepted → (cb_offset cr_offset : ℤ) → List (Test Refusal)
tests_of c cb_offset cr_offset =
    let a = c.args in
    frame_tests (in_slices a.width a.height a.rows) a.qp cb_offset cr_offset (length a.luma.now) (length a.cb.now) (length a.cr.now) (length a.file.now)
    (length a.luma_out.now) (length a.cb_out.now) (length a.cr_out.now)

abbrev tests : After-frame_accepted → List (Test Refusal)
tests c = tests_of c c.args.cb_offset c.args.cr_offset

-- ---- and where it answers a quantizer

abbrev call : In_ok-quantizer → After-frame_accepted
call c = (goal.at.In_ok-quantizer c).After-frame_accepted

-- of the offsets as they are
legal_is : (c : In_ok-quantizer) → Accepts (tests (call c)) c.args.qp (Ok c.in_ok-quantizer.quantizer)
legal_is c = coe 0 1 (i. Accepts (tests_of (call c) (cb_same (call c) i) (cr_same (call c) i)) c.args.qp (Ok c.in_ok-quantizer.quantizer)) c.in_ok-quantizer.ensures

passed : (c : In_ok-quantizer) → chain (tests (call c)) ≡ pass
passed c = accepted_passed (tests (call c)) c.args.qp (legal_is c) refl

number : (c : In_ok-quantizer) → c.in_ok-quantizer.quantizer.qp ≡ c.args.qp
number c = accepted_number (tests (call c)) c.args.qp (legal_is c) refl

told : (c : In_ok-quantizer) → (
    let a = c.args in
    FrameTold (in_slices a.width a.height a.rows) a.qp a.cb_offset a.cr_offset (length a.luma.now) (length a.cb.now) (length a.cr.now) (length a.file.now)
    (length a.luma_out.now) (length a.cb_out.now) (length a.cr_out.now)
    )
told c = frame_told _ _ _ _ _ _ _ _ _ _ _ (passed c)

-- ---- the answers

pub frame_accepted-requires : goal.frame_accepted-requires
frame_accepted-requires c = sound_slices _ _ _ (sym c.size_holds.ensures ∙ c.if-not-size_holds.false) (sym c.rows_hold.ensures ∙ c.if-not-rows_hold.false)

pub returns-in_err-quantizer : goal.returns-in_err-quantizer
returns-in_err-quantizer c =
    let a = c.args in
    let s = (goal.at.returns-in_err-quantizer c).After-frame_accepted in
    let refused = coe 0 1 (i. Accepts (tests_of s (cb_same s i) (cr_same s i)) a.qp (Err c.in_err-quantizer.field-0.0)) c.in_err-quantizer.ensures in
    let p = err_from_is_err_and c.from_residual.result c.from_residual.ensures.1 in
    rw (p.1, p.2) (frame_refused _ _ _ _ _ _ a.luma.now a.cb.now a.cr.now a.file.now a.luma_out.now a.cb_out.now a.cr_out.now
    (sized s) (sliced s) (accepted_refused (tests s) a.qp refused refl))

pub code_frame-requires-clause-sound : goal.code_frame-requires-clause-sound
code_frame-requires-clause-sound c =
    let legal = (goal.at.code_frame-requires-clause-sound c).In_ok-quantizer in
    let s = call legal in
    let t = told legal in (
      sound_slices _ _ _ (sized s) (sliced s),
      (rows_of_law _ _ (sliced s)).1,
      rw (number legal) t.legal,
      ap (inside (minus 12) (pos 12)) (cb_same s) ∙ t.cb_inside,
      ap (inside (minus 12) (pos 12)) (cr_same s) ∙ t.cr_inside,
    )

pub code_frame-requires-clause-luma_len : goal.code_frame-requires-clause-luma_len
code_frame-requires-clause-luma_len c =
    let given = (told (goal.at.code_frame-requires-clause-luma_len c).In_ok-quantizer).given in
    (given.luma_fits, given.cb_fits, given.cr_fits)

pub code_frame-requires-clause-layout_in_bounds : goal.code_frame-requires-clause-layout_in_bounds
code_frame-requires-clause-layout_in_bounds c =
    let t = told (goal.at.code_frame-requires-clause-layout_in_bounds c).In_ok-quantizer in
    let luma = c.clear.ensures ∙ ap cleared t.rebuilt.luma_fits in
    let cb = c.clear-2.ensures ∙ ap cleared t.rebuilt.cb_fits in
    let cr = c.clear-3.ensures ∙ ap cleared t.rebuilt.cr_fits in
    (omega (arith, t.area), ap length luma ∙ length_tab _ _, ap length cb ∙ length_tab _ _, ap length cr ∙ length_tab _ _)

pub returns : goal.returns
returns c =
    let a = c.args in
    let legal = (goal.at.returns c).In_ok-quantizer in
    let s = call legal in
    let t = told legal in
    let luma = c.clear.ensures ∙ ap cleared t.rebuilt.luma_fits in
    let cb = c.clear-2.ensures ∙ ap cleared t.rebuilt.cb_fits in
    let cr = c.clear-3.ensures ∙ ap cleared t.rebuilt.cr_fits in
    let y = c.code_frame.ensures in
    picture_coded _ _ _ _ _ _ a.luma.now a.cb.now a.cr.now a.file.now a.luma_out.now a.cb_out.now a.cr_out.now
    (sized s) (sliced s) (passed legal) (number legal) (cb_same s) (cr_same s) luma (λ i. pair (cb i) (cr i)) y.value y.file_after y.luma_out_after y.cr_out_after
