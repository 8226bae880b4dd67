-- `intra4::fills::put` meets its contract, mode by mode. Assumes nothing.
use mathlib.Core.Path.{◌≡◌, ap₂, ◌∙◌}
use native.Mathlib.Omega.{arith}
use Prim.Native.Nat.{ℕ}
use lib.ListN.{replicate}
use Rattle.lists.specs.Tab.{grid, tab}
use borrow.Author.Rules.{rules}
use Rattle.intra4.specs.Code.{filled}
use Rattle.intra4.proofs.fills.put.Goals as goal

pub returns-in-0 : goal.returns-in-0
unfolding filled
returns-in-0 c = rw c.in-0.is (c.put_by.ensures _ (λ x y v a b p. search rules))

pub returns-in-1 : goal.returns-in-1
unfolding filled
returns-in-1 c = rw c.in-1.is (c.put_by-in-1.ensures _ (λ x y v a b p. search rules))

pub returns-in-2 : goal.returns-in-2
unfolding filled grid tab
returns-in-2 c =
    rw c.in-2.is
    (c.fill.ensures.after (λ y h. search rules) ∙ ap₂ (λ (n v : ℕ). replicate n v) c.requires.1 c.dc.ensures)

pub returns-in-3 : goal.returns-in-3
unfolding filled
returns-in-3 c = rw c.in-3.is (c.put_by-in-3.ensures _ (λ x y v a b p. search rules))

pub returns-in-4 : goal.returns-in-4
unfolding filled
returns-in-4 c = rw c.in-4.is (c.put_by-in-4.ensures _ (λ x y v a b p. search rules))

pub returns-in-5 : goal.returns-in-5
unfolding filled
returns-in-5 c = rw c.in-5.is (c.put_by-in-5.ensures _ (λ x y v a b p. search rules))

pub returns-in-6 : goal.returns-in-6
unfolding filled
returns-in-6 c = rw c.in-6.is (c.put_by-in-6.ensures _ (λ x y v a b p. search rules))

pub returns-in-7 : goal.returns-in-7
unfolding filled
returns-in-7 c = rw c.in-7.is (c.put_by-in-7.ensures _ (λ x y v a b p. search rules))

pub returns-in_default : goal.returns-in_default
unfolding filled
returns-in_default c =
    let m = c.args.mode in
    let e : m ≡ 8 = omega arith in
    rw e (c.put_by-in_default.ensures _ (λ x y v a b p. search rules))
