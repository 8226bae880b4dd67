-- `fleecebutton::fb_code_picture` meets its contract: the word of the answer of `code_picture`. Assumes nothing.
use mathlib.Core.Path.{◌≡◌, refl}
use mathlib.Core.List.{List}
use Prim.Native.Nat.{ℕ, ◌<◌}
use native.Mathlib.Omega.{arith}
use lib.IntN.{ℤ}
use mir.Syntax.{w32}
use mir.ValLaws.{to_z-of_z}
use borrow.Author.Rules.{rules}
use Rattle.lists.proofs.Bytes.{bytes_known}
use Rattle.refusal.specs.Number.{value_back}
use Rattle.picture.proofs.Plane.{samples_fit}
use Rattle.plane.specs.Code.{in_slices}
use Rattle.head.proofs.Back.{long_most}
use Rattle.plane.proofs.Entry.{sound_slices}
use Rattle.frame.specs.Code.{CodesPicture}
use Rattle.frame.proofs.CodedFrame.{length_coded_frame}
use Rattle.frame.proofs.FrameOutcome.{frame_outcome}
use Rattle.fleecebutton.specs.Word.{places}
use Rattle.fleecebutton.proofs.Words.{Mapped, mapped, value_sent, word_mapped}
use Rattle.fleecebutton.proofs.fb_code_picture.Goals as goal
use Rattle.std.specs.Prelude.{Err, Ok, Result}
use Rattle.refusal.specs.declared.Refusal.{Refusal}

-- the file of the largest picture is far below what a word can tell
small : {width height rows qp : ℕ} {cb_offset cr_offset : ℤ} {luma cb cr file lumaOut cbOut crOut : List ℕ} (r : Result ℕ Refusal) {file' lumaOut' cbOut' crOut' : List ℕ}
    → CodesPicture width height rows qp cb_offset cr_offset luma cb cr file lumaOut cbOut crOut r file' lumaOut' cbOut' crOut'
    → value_back r < places
small {width} {height} {rows} {qp} {cb_offset} {cr_offset} {luma} {cb} {cr} {file} {lumaOut} {cbOut} {crOut} (Ok used) {file'} {lumaOut'} {cbOut'} {crOut'} p =
    let o = frame_outcome width height rows qp cb_offset cr_offset luma cb cr file lumaOut cbOut crOut used file' lumaOut' cbOut' crOut' p in
    omega (arith, o.bytes, length_coded_frame (in_slices width height rows) qp cb_offset cr_offset luma (record { cb = cb; cr = cr }), samples_fit (sound_slices width height rows o.size o.sliced), long_most width height rows)
small (Err r) p = omega arith

pub of_value-requires : goal.of_value-requires
of_value-requires c =
    let m : Mapped value_back c.code_picture-coded.result c.map.result = mapped value_back _ _ c.map.ensures.cases (λ x n k. search rules) (λ e. refl) in
    rw m.tells (small _ c.code_picture-coded.ensures)

-- the offsets come back from the call as the same numbers
same_offsets : {width height rows qp : ℕ} {x y z w : ℤ} {luma cb cr file lumaOut cbOut crOut : List ℕ} {r : Result ℕ Refusal} {file' lumaOut' cbOut' crOut' : List ℕ} → x ≡ y → z ≡ w
    → CodesPicture width height rows qp x z luma cb cr file lumaOut cbOut crOut r file' lumaOut' cbOut' crOut'
    → CodesPicture width height rows qp y w luma cb cr file lumaOut cbOut crOut r file' lumaOut' cbOut' crOut'
same_offsets {width} {height} {rows} {qp} {x} {y} {z} {w} {luma} {cb} {cr} {file} {lumaOut} {cbOut} {crOut} {r} {file'} {lumaOut'} {cbOut'} {crOut'} e g p =
    coe 0 1 (i. CodesPicture width height rows qp (e i) (g i) luma cb cr file lumaOut cbOut crOut r file' lumaOut' cbOut' crOut') p

pub returns : goal.returns
returns c =
    let p = same_offsets (to_z-of_z w32 c.args.cb_offset c.ranges.cb_offset) (to_z-of_z w32 c.args.cr_offset c.ranges.cr_offset) c.code_picture-coded.ensures in
    record {
      word = value_sent (λ (n : ℕ). n) _ _ _ p.says p.used (word_mapped (mapped value_back _ _ c.map.ensures.cases (λ x n k. search rules) (λ e. refl)) c.of_value.ensures);
      filed = p.filed;
      lumas = p.lumas;
      cbs = p.cbs;
      crs = p.crs;
      bytes = (bytes_known _ c.type_inv.luma, bytes_known _ c.type_inv.cb, bytes_known _ c.type_inv.cr);
    }
