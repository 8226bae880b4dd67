-- What the word of a success tells, in the words of the entry point's own contract.
--     PlaneCoded, PictureCoded     that contract of what a call was given and lent, its word, and what it left: the value is how many bytes were used
--     sent_plane, sent_picture     it holds of any success of `fb_code_plane` and of `fb_code_picture`
-- Assumes nothing.
use mathlib.Core.Path.{sym}
use Prim.Native.Nat.{ℕ}
use native.Mathlib.Omega.{arith}
use lib.ListN.{length}
use Rattle.lists.proofs.Chain.{written_passed}
use Rattle.refusal.proofs.Same.{says}
use Rattle.plane.specs.Code.{in_slices, coded_file, CodesPlane}
use Rattle.frame.specs.Code.{coded_frame, CodesPicture}
use Rattle.fleecebutton.proofs.Told.{passed_word}
use Rattle.stamp.specs.Answers.{Succeeds, value_told}
use Rattle.stamp.specs.Calls.{fb_code_plane, fb_code_picture, CallOf, Contents, word, given, before, after}
use Rattle.stamp.specs.Demand1.{tests_of}
use Rattle.stamp.proofs.Laws.{valued}
use Rattle.std.specs.Prelude.{Ok}

abbrev pub PlaneCoded : (g : (Contents fb_code_plane).0) (o : (Contents fb_code_plane).1) (w : ℕ) (o' : (Contents fb_code_plane).1) → Type 0
PlaneCoded g o w o' = CodesPlane g.width g.height g.rows g.qp g.plane o.file o.rebuilt (Ok (value_told w)) o'.file o'.rebuilt

pub sent_plane : (c : CallOf fb_code_plane) → Succeeds (word c) → PlaneCoded (given c) (before c) (word c) (after c)
sent_plane c d =
    let g = given c in
    let ts = tests_of fb_code_plane g (before c) in
    let value = length (coded_file (in_slices g.width g.height g.rows) g.qp g.plane) in
    let s = c.call.learnt in
    let v = passed_word ts value s.word d in
    record { says = says (sym v); used = written_passed 0 v (omega (arith, valued ts value s.word d)); filed = s.filed; stored = s.stored }

abbrev pub PictureCoded : (g : (Contents fb_code_picture).0) (o : (Contents fb_code_picture).1) (w : ℕ) (o' : (Contents fb_code_picture).1) → Type 0
PictureCoded g o w o' =
    CodesPicture g.width g.height g.rows g.qp g.cb_offset g.cr_offset g.luma g.cb g.cr o.file o.luma o.cb o.cr
    (Ok (value_told w)) o'.file o'.luma o'.cb o'.cr

pub sent_picture : (c : CallOf fb_code_picture) → Succeeds (word c) → PictureCoded (given c) (before c) (word c) (after c)
sent_picture c d =
    let g = given c in
    let ts = tests_of fb_code_picture g (before c) in
    let value = length (coded_frame (in_slices g.width g.height g.rows) g.qp g.cb_offset g.cr_offset g.luma (record { cb = g.cb; cr = g.cr })) in
    let s = c.call.learnt in
    let v = passed_word ts value s.word d in
    record { says = says (sym v); used = written_passed 0 v (omega (arith, valued ts value s.word d)); filed = s.filed; lumas = s.lumas; cbs = s.cbs; crs = s.crs }
