-- Calls of the exported functions, by tables with a row for each function. A call is one of the reading that the toolchain makes of the contract in
-- fleecebutton/src/lib.rt, so that what is said of any call is said of whatever this contract allows. Of a call c the demands say
--     word c               what it sent back
--     (given c).NAME       what it was given, by the names in `Contents`
--     before c, after c    what its outputs held when they were lent, and at its end; with .NAME where there are several
-- Assumes nothing.
use Rattle.std.specs.Prelude.{List, ℕ, Float, ℤ}
use Rattle.std.specs.Int.{w64}
use contract.Lifetimes.{Lfts}
use denote.Triple.Clauses.{AtExit}
use borrow.Fn.Kinds.{ParamKind, r_num, Dens, Out, ended_of}
use Rattle.fleecebutton.proofs as library
use Rattle.turned.specs.Calls.{Call}

pub data Exported : Type 0 where
  fb_predict fb_choose fb_forward fb_levels fb_rebuild fb_rebuild_with_dc : Exported
  fb_luma_dc_levels fb_luma_dc_values fb_chroma_dc_levels fb_chroma_dc_values fb_chroma_quantizer : Exported
  fb_code_block fb_promised_distance fb_quality_sheet : Exported
  fb_code_plane fb_read_head fb_decode_plane fb_code_picture fb_decode_picture fb_inspect : Exported

-- the number of slices that it is lent, its parameters, and the reading of its contract
abbrev pub function : Exported → (n : ℕ) × (ps : List (ParamKind n)) × Out n ps (r_num w64)
function fb_predict = (2, library.fb_predict.Kinds.ps, library.fb_predict.Reads.Learnt)
function fb_choose = (3, library.fb_choose.Kinds.ps, library.fb_choose.Reads.Learnt)
function fb_forward = (2, library.fb_forward.Kinds.ps, library.fb_forward.Reads.Learnt)
function fb_levels = (2, library.fb_levels.Kinds.ps, library.fb_levels.Reads.Learnt)
function fb_rebuild = (3, library.fb_rebuild.Kinds.ps, library.fb_rebuild.Reads.Learnt)
function fb_rebuild_with_dc = (3, library.fb_rebuild_with_dc.Kinds.ps, library.fb_rebuild_with_dc.Reads.Learnt)
function fb_luma_dc_levels = (2, library.fb_luma_dc_levels.Kinds.ps, library.fb_luma_dc_levels.Reads.Learnt)
function fb_luma_dc_values = (2, library.fb_luma_dc_values.Kinds.ps, library.fb_luma_dc_values.Reads.Learnt)
function fb_chroma_dc_levels = (2, library.fb_chroma_dc_levels.Kinds.ps, library.fb_chroma_dc_levels.Reads.Learnt)
function fb_chroma_dc_values = (2, library.fb_chroma_dc_values.Kinds.ps, library.fb_chroma_dc_values.Reads.Learnt)
function fb_chroma_quantizer = (0, library.fb_chroma_quantizer.Kinds.ps, library.fb_chroma_quantizer.Reads.Learnt)
function fb_code_block = (4, library.fb_code_block.Kinds.ps, library.fb_code_block.Reads.Learnt)
function fb_promised_distance = (0, library.fb_promised_distance.Kinds.ps, library.fb_promised_distance.Reads.Learnt)
function fb_quality_sheet = (4, library.fb_quality_sheet.Kinds.ps, library.fb_quality_sheet.Reads.Learnt)
function fb_code_plane = (3, library.fb_code_plane.Kinds.ps, library.fb_code_plane.Reads.Learnt)
function fb_read_head = (1, library.fb_read_head.Kinds.ps, library.fb_read_head.Reads.Learnt)
function fb_decode_plane = (2, library.fb_decode_plane.Kinds.ps, library.fb_decode_plane.Reads.Learnt)
function fb_code_picture = (7, library.fb_code_picture.Kinds.ps, library.fb_code_picture.Reads.Learnt)
function fb_decode_picture = (4, library.fb_decode_picture.Kinds.ps, library.fb_decode_picture.Reads.Learnt)
function fb_inspect = (2, library.fb_inspect.Kinds.ps, library.fb_inspect.Reads.Learnt)

pub record CallOf (f : Exported) : Type 0 where
  pub call : Call (function f).0 (function f).1 (r_num w64) (function f).2

abbrev pub word : {f : Exported} → CallOf f → ℕ
word c = c.call.word

-- what a function is given besides its outputs, and what these hold
abbrev pub Contents : Exported → Type 0 × Type 0
Contents fb_predict = (record { neighbours : List ℕ; flags : ℕ; mode : ℕ }, List ℕ)
Contents fb_choose = (record { neighbours : List ℕ; flags : ℕ; samples : List ℕ }, List ℕ)
Contents fb_forward = (record { residual : List ℤ }, List ℤ)
Contents fb_levels = (record { qp : ℕ; residual : List ℤ }, List ℤ)
Contents fb_rebuild = (record { qp : ℕ; prediction : List ℕ; levels : List ℤ }, List ℕ)
Contents fb_rebuild_with_dc = (record { qp : ℕ; prediction : List ℕ; dc : ℤ; ac : List ℤ }, List ℕ)
Contents fb_luma_dc_levels = (record { qp : ℕ; dc : List ℤ }, List ℤ)
Contents fb_luma_dc_values = (record { qp : ℕ; levels : List ℤ }, List ℤ)
Contents fb_chroma_dc_levels = (record { qp : ℕ; dc : List ℤ }, List ℤ)
Contents fb_chroma_dc_values = (record { qp : ℕ; levels : List ℤ }, List ℤ)
Contents fb_chroma_quantizer = (record { qp : ℕ; offset : ℤ }, Unit {0})
Contents fb_code_block = (record { qp : ℕ; flags : ℕ; neighbours : List ℕ; samples : List ℕ }, record { levels : List ℤ; rebuilt : List ℕ })
Contents fb_promised_distance = (record { qp : ℕ }, Unit {0})
Contents fb_quality_sheet = (record { width : ℕ; height : ℕ; original : List ℕ; rebuilt : List ℕ; map : List ℕ }, List Float)
Contents fb_code_plane = (record { width : ℕ; height : ℕ; rows : ℕ; qp : ℕ; plane : List ℕ }, record { file : List ℕ; rebuilt : List ℕ })
Contents fb_read_head = (record { file : List ℕ }, Unit {0})
Contents fb_decode_plane = (record { file : List ℕ }, List ℕ)
Contents fb_code_picture =
    (record { width : ℕ; height : ℕ; rows : ℕ; qp : ℕ; cb_offset : ℤ; cr_offset : ℤ; luma : List ℕ; cb : List ℕ; cr : List ℕ }, record { file : List ℕ; luma : List ℕ; cb : List ℕ; cr : List ℕ })
Contents fb_decode_picture = (record { file : List ℕ }, record { luma : List ℕ; cb : List ℕ; cr : List ℕ })
Contents fb_inspect = (record { file : List ℕ; theirs : List ℕ }, Unit {0})

-- these of a call, by its arguments a, and by the same at its exit, e: what it is given, its outputs before, and its outputs after
abbrev pub contents_of : (f : Exported) (l : Lfts (function f).0) → Dens l (function f).1 → AtExit (ended_of (function f).0 (function f).1 (r_num w64)) l
    → (Contents f).0 × (Contents f).1 × (Contents f).1
contents_of fb_predict l a e = (record { neighbours = a.0.now; flags = a.1.0; mode = a.1.1.0 }, a.1.1.1.0.now, e.1.1.1.0.now)
contents_of fb_choose l a e = (record { neighbours = a.0.now; flags = a.1.0; samples = a.1.1.0.now }, a.1.1.1.0.now, e.1.1.1.0.now)
contents_of fb_forward l a e = (record { residual = a.0.now }, a.1.0.now, e.1.0.now)
contents_of fb_levels l a e = (record { qp = a.0; residual = a.1.0.now }, a.1.1.0.now, e.1.1.0.now)
contents_of fb_rebuild l a e = (record { qp = a.0; prediction = a.1.0.now; levels = a.1.1.0.now }, a.1.1.1.0.now, e.1.1.1.0.now)
contents_of fb_rebuild_with_dc l a e =
    (record { qp = a.0; prediction = a.1.0.now; dc = a.1.1.0; ac = a.1.1.1.0.now }, a.1.1.1.1.0.now, e.1.1.1.1.0.now)
contents_of fb_luma_dc_levels l a e = (record { qp = a.0; dc = a.1.0.now }, a.1.1.0.now, e.1.1.0.now)
contents_of fb_luma_dc_values l a e = (record { qp = a.0; levels = a.1.0.now }, a.1.1.0.now, e.1.1.0.now)
contents_of fb_chroma_dc_levels l a e = (record { qp = a.0; dc = a.1.0.now }, a.1.1.0.now, e.1.1.0.now)
contents_of fb_chroma_dc_values l a e = (record { qp = a.0; levels = a.1.0.now }, a.1.1.0.now, e.1.1.0.now)
contents_of fb_chroma_quantizer l a e = (record { qp = a.0; offset = a.1.0 }, tt, tt)
contents_of fb_code_block l a e = (
  record { qp = a.0; flags = a.1.0; neighbours = a.1.1.0.now; samples = a.1.1.1.0.now },
  record { levels = a.1.1.1.1.0.now; rebuilt = a.1.1.1.1.1.0.now },
  record { levels = e.1.1.1.1.0.now; rebuilt = e.1.1.1.1.1.0.now },
)
contents_of fb_promised_distance l a e = (record { qp = a.0 }, tt, tt)
contents_of fb_quality_sheet l a e =
    (record { width = a.0; height = a.1.0; original = a.1.1.0.now; rebuilt = a.1.1.1.0.now; map = a.1.1.1.1.0.now }, a.1.1.1.1.1.0.now, e.1.1.1.1.1.0.now)
contents_of fb_code_plane l a e = (
  record { width = a.0; height = a.1.0; rows = a.1.1.0; qp = a.1.1.1.0; plane = a.1.1.1.1.0.now },
  record { file = a.1.1.1.1.1.0.now; rebuilt = a.1.1.1.1.1.1.0.now },
  record { file = e.1.1.1.1.1.0.now; rebuilt = e.1.1.1.1.1.1.0.now },
)
contents_of fb_read_head l a e = (record { file = a.0.now }, tt, tt)
contents_of fb_decode_plane l a e = (record { file = a.0.now }, a.1.0.now, e.1.0.now)
contents_of fb_code_picture l a e =
    let b = a.1.1.1.1 in
    let d = b.1.1.1.1 in
    let o = e.1.1.1.1.1.1.1.1 in (
      record { width = a.0; height = a.1.0; rows = a.1.1.0; qp = a.1.1.1.0; cb_offset = b.0; cr_offset = b.1.0; luma = b.1.1.0.now; cb = b.1.1.1.0.now; cr = d.0.now },
      record { file = d.1.0.now; luma = d.1.1.0.now; cb = d.1.1.1.0.now; cr = d.1.1.1.1.0.now },
      record { file = o.1.0.now; luma = o.1.1.0.now; cb = o.1.1.1.0.now; cr = o.1.1.1.1.0.now },
    )
contents_of fb_decode_picture l a e =
    (record { file = a.0.now }, record { luma = a.1.0.now; cb = a.1.1.0.now; cr = a.1.1.1.0.now }, record { luma = e.1.0.now; cb = e.1.1.0.now; cr = e.1.1.1.0.now })
contents_of fb_inspect l a e = (record { file = a.0.now; theirs = a.1.0.now }, tt, tt)

abbrev pub given : {f : Exported} → CallOf f → (Contents f).0
given {f} c = (contents_of f c.call.lifetimes c.call.given c.call.exit).0

abbrev pub before : {f : Exported} → CallOf f → (Contents f).1
before {f} c = (contents_of f c.call.lifetimes c.call.given c.call.exit).1

abbrev pub after : {f : Exported} → CallOf f → (Contents f).1
after {f} c = (contents_of f c.call.lifetimes c.call.given c.call.exit).2
