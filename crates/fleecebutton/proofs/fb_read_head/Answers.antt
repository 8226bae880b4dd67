-- `fleecebutton::fb_read_head` meets its contract: the word of the answer of `read_head`. Assumes nothing.
use mathlib.Core.Path.{refl, subst}
use mathlib.Core.List.{List}
use Prim.Native.Nat.{ℕ, ◌≤◌}
use native.Mathlib.Omega.{arith}
use Rattle.head.specs.Entry.{ReadsHead, width_of, height_of, rows_of}
use Rattle.head.specs.declared.Head.{Head}
use Rattle.head.proofs.Heads.{head_told}
use Rattle.fleecebutton.specs.Word.{head_value}
use Rattle.fleecebutton.proofs.Words.{Mapped, head_sent, mapped, word_mapped}
use borrow.Author.Rules.{rules}
use Rattle.fleecebutton.proofs.fb_read_head.Goals as goal
use Rattle.std.specs.Prelude.{Err, Ok, Result}
use Rattle.refusal.specs.declared.Refusal.{Refusal}

-- a size that comes back is one of a picture, and so are the rows of a slice
small : (file : List ℕ) (h : Result Head Refusal) → ReadsHead file h → (width_of h ≤ 128) × (height_of h ≤ 128) × (rows_of h ≤ 128)
small file (Ok h) p = let t = head_told file p refl in (t.sized.wide, t.sized.high, omega (arith, t.most_rows, t.sized.high))
small file (Err r) p = (omega arith, omega arith, omega arith)

-- the three numbers, one over the other
abbrev numbers : Result Head Refusal → ℕ
numbers h = head_value (width_of h) (height_of h) (rows_of h)

pub map-requires : goal.map-requires
map-requires c = λ x e. let s = small _ (Ok x) (subst (λ (r : Result Head Refusal). ReadsHead c.args.file.now r) e c.read_head-head.ensures) in search rules

pub of_value-requires : goal.of_value-requires
of_value-requires c =
    let s = small _ _ c.read_head-head.ensures in
    let m : Mapped numbers c.read_head-head.result c.map.result = mapped numbers _ _ c.map.ensures.cases (λ x n k. search rules) (λ e. refl) in
    omega (arith, m.tells, s.0, s.1, s.2)

pub returns : goal.returns
returns c = let p = c.read_head-head.ensures in head_sent _ _ _ _ p.says p.width p.height p.rows (word_mapped (mapped numbers _ _ c.map.ensures.cases (λ x n k. search rules) (λ e. refl)) c.of_value.ensures)
