-- `macroblock_chroma::inner::both_quantizers` meets its contract: Cb's quantizer, then Cr's. Assumes nothing.
use mathlib.Core.Path.{◌≡◌, sym, ◌∙◌}
use native.Mathlib.Omega.{arith}
use mir.Syntax.{w32}
use mir.ValLaws.{to_z-of_z}
use Rattle.std.specs.Prelude.{Err, None, Ok, Result}
use Rattle.std.specs.Result.{result_ok}
use Rattle.refusal.specs.declared.Refusal.{Refusal}
use Rattle.quantizer.specs.declared.Quantizer.{Quantizer}
use Rattle.quantizer.proofs.Offsets.{chroma_built, chroma_built_refused}
use Rattle.macroblock_chroma.proofs.Offsets.{cb_refuses, cr_refuses, both_made}
use Rattle.macroblock_chroma.proofs.inner.both_quantizers.Goals as goal

-- what comes of a refusal
refused : (r : Result Quantizer Refusal) → None ≡ result_ok r → (e : Refusal) × (r ≡ Err e)
refused (Ok x) e = absurd cc
refused (Err r) e = (r, λ i. Err r)

pub returns-in_err-cb : goal.returns-in_err-cb
returns-in_err-cb c =
    let a = c.args in
    let same = to_z-of_z w32 a.cb_offset c.ranges.cb_offset in
    c.from_residual.ensures ∙ sym (cb_refuses a.qp a.cb_offset a.cr_offset (chroma_built_refused _ _ c.requires c.chroma_quantizer.ensures same (refused _ c.in_err-cb.ensures.value).1))

pub returns-in_err-cr : goal.returns-in_err-cr
returns-in_err-cr c =
    let a = c.args in
    let there : c.chroma_quantizer.result ≡ Ok c.in_ok-cb.cb = grind arith in
    let cb = chroma_built _ _ c.chroma_quantizer.ensures (to_z-of_z w32 a.cb_offset c.ranges.cb_offset) there in
    let same = to_z-of_z w32 a.cr_offset c.ranges.cr_offset in
    c.from_residual-in_err-cr.ensures
    ∙ sym (cr_refuses a.qp a.cb_offset a.cr_offset cb.allowed (chroma_built_refused _ _ c.requires c.chroma_quantizer-2.ensures same (refused _ c.in_err-cr.ensures.value).1))

pub returns : goal.returns
returns c =
    let a = c.args in
    let there : c.chroma_quantizer.result ≡ Ok c.in_ok-cb.cb = grind arith in
    let cb = chroma_built _ _ c.chroma_quantizer.ensures (to_z-of_z w32 a.cb_offset c.ranges.cb_offset) there in
    let here : c.chroma_quantizer-2.result ≡ Ok c.in_ok-cr.cr = grind arith in
    let cr = chroma_built _ _ c.chroma_quantizer-2.ensures (to_z-of_z w32 a.cr_offset c.ranges.cr_offset) here in
    sym (both_made a.qp a.cb_offset a.cr_offset cb cr)
