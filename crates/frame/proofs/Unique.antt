-- The contracts of `frame` determine what coding and decoding answer, and the file and the planes that they leave. Assumes nothing.
use mathlib.Core.Path.{sym, ◌∙◌}
use mathlib.Core.List.{List}
use Prim.Native.Nat.{ℕ}
use Rattle.unique.specs.Unique.{Unique}
use Rattle.refusal.proofs.Same.{says_same, same_valued}
use Rattle.frame.proofs.Entry.{same_decoded}
use Rattle.frame.proofs.code_picture.Kinds as code_picture
use Rattle.frame.proofs.code_picture.Reads as code_picture_reads
use Rattle.frame.proofs.decode_picture.Kinds as decode_picture
use Rattle.frame.proofs.decode_picture.Reads as decode_picture_reads

-- all four outputs at exit
pub code_picture_unique : Unique 7 code_picture.ps code_picture.r code_picture_reads.Learnt (List ℕ × List ℕ × List ℕ × List ℕ)
    (λ κs e. (e.1.1.1.1.1.1.1.1.1.0.now, e.1.1.1.1.1.1.1.1.1.1.0.now, e.1.1.1.1.1.1.1.1.1.1.1.0.now, e.1.1.1.1.1.1.1.1.1.1.1.1.0.now))
code_picture_unique κs a x y e f p q =
    let file = p.filed ∙ sym q.filed in
    let luma = p.lumas ∙ sym q.lumas in
    let cb = p.cbs ∙ sym q.cbs in
    let cr = p.crs ∙ sym q.crs in
    (same_valued x y (says_same p.says ∙ sym (says_same q.says)) (p.used ∙ sym q.used), λ i. (file i, luma i, cb i, cr i))

-- the three planes at exit
pub decode_picture_unique : Unique 4 decode_picture.ps decode_picture.r decode_picture_reads.Learnt (List ℕ × List ℕ × List ℕ) (λ κs e. (e.1.0.now, e.1.1.0.now, e.1.1.1.0.now))
decode_picture_unique κs a x y e f p q =
    let luma = p.lumas ∙ sym q.lumas in
    let cb = p.cbs ∙ sym q.cbs in
    let cr = p.crs ∙ sym q.crs in
    (same_decoded x y (says_same p.says ∙ sym (says_same q.says)) (p.value ∙ sym q.value), λ i. (luma i, cb i, cr i))
