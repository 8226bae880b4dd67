-- `fleecebutton::fb_code_plane` meets its contract: the word of the answer of `code_plane`. Assumes nothing.
use mathlib.Core.Path.{refl}
use mathlib.Core.List.{List}
use Prim.Native.Nat.{ℕ, ◌<◌}
use native.Mathlib.Omega.{arith}
use borrow.Author.Rules.{rules}
use Rattle.lists.proofs.Bytes.{bytes_known}
use Rattle.refusal.specs.Number.{value_back}
use Rattle.picture.proofs.Plane.{samples_fit}
use Rattle.plane.specs.Code.{in_slices, CodesPlane}
use Rattle.head.proofs.Back.{long_most}
use Rattle.plane.proofs.CodedFile.{length_coded_file}
use Rattle.plane.proofs.CodedOutcome.{outcome}
use Rattle.plane.proofs.Entry.{sound_slices}
use Rattle.fleecebutton.specs.Word.{places}
use Rattle.fleecebutton.proofs.Words.{Mapped, mapped, value_sent, word_mapped}
use Rattle.fleecebutton.proofs.fb_code_plane.Goals as goal
use Rattle.std.specs.Prelude.{Err, Ok, Result}
use Rattle.refusal.specs.declared.Refusal.{Refusal}

-- the file of the largest picture is far below what a word can tell
small : {width height rows qp : ℕ} {plane file rebuilt : List ℕ} (r : Result ℕ Refusal) {file' rebuilt' : List ℕ}
    → CodesPlane width height rows qp plane file rebuilt r file' rebuilt'
    → value_back r < places
small {width} {height} {rows} {qp} {plane} {file} {rebuilt} (Ok used) {file'} {rebuilt'} p =
    let o = outcome width height rows qp plane file rebuilt used file' rebuilt' p in
    omega (arith, o.bytes, length_coded_file (in_slices width height rows) qp plane, samples_fit (sound_slices width height rows o.size o.sliced), long_most width height rows)
small (Err r) p = omega arith

pub of_value-requires : goal.of_value-requires
of_value-requires c =
    let m : Mapped value_back c.code_plane-coded.result c.map.result = mapped value_back _ _ c.map.ensures.cases (λ x n k. search rules) (λ e. refl) in
    rw m.tells (small _ c.code_plane-coded.ensures)

pub returns : goal.returns
returns c =
    let p = c.code_plane-coded.ensures in
    record { word = value_sent (λ (n : ℕ). n) _ _ _ p.says p.used (word_mapped (mapped value_back _ _ c.map.ensures.cases (λ x n k. search rules) (λ e. refl)) c.of_value.ensures); filed = p.filed; stored = p.stored; bytes = bytes_known _ c.type_inv.plane }
