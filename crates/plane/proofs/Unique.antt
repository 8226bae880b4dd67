-- The contracts of `plane` determine what coding and decoding answer, and the file and the plane that they leave. Assumes nothing.
use mathlib.Core.Path.{◌≡◌, refl, sym, ap, ◌∙◌}
use mathlib.Core.List.{List}
use Prim.Native.Nat.{ℕ, ◌-◌}
use native.Mathlib.Omega.{arith}
use lib.ListN.{length, drop, length-drop}
use lib.Seq.{length-take-le}
use Rattle.unique.specs.Unique.{Unique}
use Rattle.refusal.proofs.Same.{says_same, same_answer, same_valued}
use Rattle.record.specs.Kinds.{in_chroma, length_of}
use Rattle.plane.specs.Walk.{BehindLuma}
use Rattle.plane.specs.declared.Behind.{Behind}
use Rattle.plane.proofs.code_plane.Kinds as code_plane
use Rattle.plane.proofs.code_plane.Reads as code_plane_reads
use Rattle.plane.proofs.decode_plane.Kinds as decode_plane
use Rattle.plane.proofs.decode_plane.Reads as decode_plane_reads
use Rattle.plane.proofs.inner.next_place.Kinds as next_place
use Rattle.plane.proofs.inner.next_place.Reads as next_place_reads
use Rattle.plane.proofs.inner.behind_luma.Kinds as behind_luma
use Rattle.plane.proofs.inner.behind_luma.Reads as behind_luma_reads
use Rattle.plane.proofs.inner.test_file.Kinds as test_file
use Rattle.plane.proofs.inner.test_file.Reads as test_file_reads
use Rattle.plane.proofs.inner.clear.Kinds as clear
use Rattle.plane.proofs.inner.clear.Reads as clear_reads
use Rattle.plane.proofs.inner.rebuild_plane.Kinds as rebuild_plane
use Rattle.plane.proofs.inner.rebuild_plane.Reads as rebuild_plane_reads

-- a chroma record that begins there and lies in the file ends where its length says
long_behind : {file : List ℕ} {start m : ℕ} {b : Behind} → BehindLuma file start m b → b.end - b.place ≡ length_of in_chroma
long_behind {file} {start} {m} {b} r =
    sym (length-take-le (b.end - b.place) (drop b.place file) (omega (arith, length-drop b.place file, r.inside))) ∙ ap length r.part ∙ r.long

pub next_place_unique : Unique 1 next_place.ps next_place.r next_place_reads.Learnt (Unit {0}) (λ κs e. tt)
next_place_unique κs a x y e f p q = (p ∙ sym q, refl)

-- both ends of the chroma record are known by its bytes: it has the length of its kind
pub behind_luma_unique : Unique 1 behind_luma.ps behind_luma.r behind_luma_reads.Learnt (Unit {0}) (λ κs e. tt)
behind_luma_unique κs a x y e f p q =
    let qp = p.qp_is ∙ sym q.qp_is in
    let place = p.place_is ∙ sym q.place_is in
    let end : x.end ≡ y.end = omega (arith, long_behind p, long_behind q, p.place_is, q.place_is, p.order, q.order) in
    (λ i. record { qp = qp i; place = place i; end = end i }, refl)

pub test_file_unique : Unique 1 test_file.ps test_file.r test_file_reads.Learnt (Unit {0}) (λ κs e. tt)
test_file_unique κs a x y e f p q = (same_answer x y (p ∙ sym q), refl)

pub clear_unique : Unique 1 clear.ps clear.r clear_reads.Learnt (List ℕ) (λ κs e. e.0.now)
clear_unique κs a x y e f p q = (refl, p ∙ sym q)

pub rebuild_plane_unique : Unique 2 rebuild_plane.ps rebuild_plane.r rebuild_plane_reads.Learnt (List ℕ) (λ κs e. e.1.1.1.0.now)
rebuild_plane_unique κs a x y e f p q = (refl, p ∙ sym q)

pub decode_plane_unique : Unique 2 decode_plane.ps decode_plane.r decode_plane_reads.Learnt (List ℕ) (λ κs e. e.1.0.now)
decode_plane_unique κs a x y e f p q = (same_answer x y (says_same p.says ∙ sym (says_same q.says)), p.wrote ∙ sym q.wrote)

-- both outputs at exit
pub code_plane_unique : Unique 3 code_plane.ps code_plane.r code_plane_reads.Learnt (List ℕ × List ℕ) (λ κs e. (e.1.1.1.1.1.0.now, e.1.1.1.1.1.1.0.now))
code_plane_unique κs a x y e f p q =
    let file = p.filed ∙ sym q.filed in
    let plane = p.stored ∙ sym q.stored in
    (same_valued x y (says_same p.says ∙ sym (says_same q.says)) (p.used ∙ sym q.used), λ i. (file i, plane i))
