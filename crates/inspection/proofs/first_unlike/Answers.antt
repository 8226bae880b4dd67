-- `inspection::first_unlike` meets its contract: the first place where the samples differ. Assumes nothing.
use Rattle.std.proofs.Common.{rules, tests, ◌≡◌, ap, ◌∙◌, ℕ, ◌<◌, length, List, Bool, not}
use Rattle.std.proofs.lemmas.Iterator.{YieldsList-from_slice, YieldsList-from_zip}
use Rattle.std.proofs.lemmas.Iterator.Search.{position_from_yields_List}
use Rattle.std.proofs.lemmas.List.Sums.{position_or_len_is}
use Rattle.std.proofs.lemmas.Slice.Zip.{length-zip, get_or-zip}
use Rattle.std.specs.List.{zip, position, position_or_len}
use Prim.Native.Nat.{min}
use native.Mathlib.Omega.{arith}
use lib.Dec.{eqb}
use lib.ListN.{get_or}
use Rattle.lists.specs.First.{first, found}
use Rattle.lists.proofs.First.{first_le, first_before, first_passes}
use Rattle.inspection.specs.Inspect.{unlike}
use Rattle.inspection.proofs.first_unlike.Goals as goal

-- two samples are not the same
abbrev other : ℕ × ℕ → Bool
other s = not (eqb s.0 s.1)

-- the library's `position` over the samples side by side
beside : (p q : List ℕ) → length p ≡ 256 → length q ≡ 256 → position other (zip p q) ≡ found 256 (first 256 (unlike p q))
unfolding found
beside p q hp hq =
    let passes = unlike p q in
    let n = first 256 passes in
    let most = first_le passes 256 in
    let long : length (zip p q) ≡ 256 = length-zip p q ∙ (λ i. min (hp i) (hq i)) in
    let at : (k : ℕ) → k < 256 → other (get_or (zip p q) k (0, 0)) ≡ passes k = λ k h. ap other (get_or-zip p q k (0, 0) (omega arith) (omega arith)) in
    let is : position_or_len other (zip p q) ≡ n =
    position_or_len_is other (zip p q) n (0, 0) (omega (arith, long)) (λ k h. at k (omega arith) ∙ first_before passes 256 k h)
    (λ h. at n (omega (arith, long)) ∙ first_passes passes 256 (omega (arith, long))) in
    λ i. found (long i) (is i)

pub returns : goal.returns
returns c =
    let a = c.args in
    position_from_yields_List other c.position.new.self _ c.position.result c.position.ensures.ran (YieldsList-from_zip {s = c.zip.result} (YieldsList-from_slice a.ours.now cc) (YieldsList-from_slice a.theirs.now cc)) (λ x b q k. search (rules, tests))
    ∙ beside a.ours.now a.theirs.now c.requires.0 c.requires.1
