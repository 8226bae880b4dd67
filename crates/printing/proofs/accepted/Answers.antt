-- `printing::accepted` meets its contract: the word, mode and SAD, then the two lines. Assumes nothing.
use mathlib.Core.Path.{◌≡◌, refl, ap, subst}
use mathlib.Core.List.{List, [], ◌∷◌, ◌++◌}
use Prim.Native.Nat.{ℕ, ◌<◌}
use native.Mathlib.Omega.{arith}
use borrow.Author.Rules.{rules}
use lib.IntN.{ℤ, pos}
use lib.ListN.{get_or}
use Rattle.lists.proofs.Parts.{parts_same}
use Rattle.intra4.specs.Choice.{at}
use Rattle.printing.specs.Text.{decimal_of, signed_of, behind, line_of, Written}
use Rattle.printing.specs.Printed.{ok_text}
use Rattle.printing.proofs.Decimal.{decimal_is}
use Rattle.printing.proofs.accepted.Goals as goal

-- a line of numbers without a sign
line_pos : (z : List ℤ) (n : List ℕ) → ((k : ℕ) → k < 16 → get_or z k (pos 0) ≡ pos (get_or n k 0))
    → line_of (λ k. signed_of (get_or z k (pos 0))) ≡ line_of (λ k. decimal_of (get_or n k 0))
unfolding line_of signed_of
line_pos z n e = parts_same 16 _ _ (λ k h. ap (λ (x : ℤ). signed_of x ++ (behind k ∷ [])) (e k h))

pub returns-clause-text : goal.returns-clause-text
returns-clause-text c =
    let one : (k : ℕ) → k < 16 → get_or c.map.result k (pos 0) ≡ pos (get_or c.args.rebuilt k 0) = λ k h. search rules in
    let e : c.push_line-2.new.self ≡ ok_text (at c.args.mode c.args.sad) c.args.levels c.args.rebuilt = rw (
      c.push_line-2.ensures.text,
      c.push_line.ensures.text,
      c.push_str-3.ensures,
      c.push_number-2.ensures.text,
      c.push_str-2.ensures,
      c.push_number.ensures.text,
      c.push_str.ensures,
      c.new-text.ensures,
      decimal_is c.args.mode (omega arith),
      decimal_is c.args.sad (omega arith),
      line_pos c.map.result c.args.rebuilt one,
    ) refl in
    subst (λ (w : List ℕ). Written w c.finish.result) e c.finish.ensures.text
