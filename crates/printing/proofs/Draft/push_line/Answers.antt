use mathlib.Core.Path.{◌≡◌, sym, ap, ◌∙◌}
use mathlib.Core.List.{List, ◌++◌, append_assoc, append-nil}
use Prim.Native.Nat.{ℕ, ◌+◌}
use native.Mathlib.Omega.{arith}
use borrow.Author.Rules.{rules}
use lib.IntN.{ℤ, pos}
use lib.ListN.{length, get_or, length-append}
use mir.Syntax.{w32}
use mir.ValLaws.{to_z-of_z}
use Rattle.lists.specs.Parts.{parts}
use Rattle.lists.proofs.Parts.{parts_more}
use Rattle.std.specs.Fmt.{signed_decimal}
use Rattle.printing.specs.Text.{line_of}
use Rattle.printing.proofs.Decimal.{signed_is}
use Rattle.printing.proofs.Draft.push_line.Invariants.{part}
use Rattle.printing.proofs.Draft.push_line.Goals as goal

-- text n and then text b go behind k parts: one part more
more : {a t u : List ℕ} (s n b : List ℕ) (f : ℕ → List ℕ) (k : ℕ) → a ≡ s ++ parts k f → t ≡ a ++ n → u ≡ t ++ b → n ++ b ≡ f k → u ≡ s ++ parts (k + 1) f
more s n b f k e g h p =
    h ∙ (λ i. (g ∙ (λ j. e j ++ n)) i ++ b)
    ∙ append_assoc (s ++ parts k f) n b
    ∙ append_assoc s (parts k f) (n ++ b)
    ∙ (λ i. s ++ ((λ j. parts k f ++ p j) ∙ sym (parts_more k f)) i)

pub loop-k-init : goal.loop-k-init
unfolding parts
loop-k-init c = (sym (append-nil _), omega arith, omega arith)

pub loop-k-preserved : goal.loop-k-preserved
loop-k-preserved c =
    let z : ℤ = get_or c.args.numbers.now c.loop-k.k (pos 0) in (
      more c.args.self.now _ _ (part c.args.numbers.now) c.loop-k.k c.loop-k.invariant.0 c.push_number.ensures.text c.push_str.ensures
          (λ i. (ap signed_decimal (to_z-of_z w32 z (search rules)) ∙ signed_is z (search rules)) i ++ c.behind.ensures i),
      omega (arith, c.loop-k.invariant.1, c.push_number.ensures.short, ap length c.push_str.ensures, length-append c.push_number.new.self c.behind.result.now, ap length c.behind.ensures),
      omega arith,
    )

pub returns-clause-text : goal.returns-clause-text
unfolding line_of
returns-clause-text c =
    let e : c.loop-k.k ≡ 16 = omega (arith, c.loop-k.invariant.2) in
    c.loop-k.invariant.0 ∙ (λ i. c.args.self.now ++ parts (e i) (part c.args.numbers.now))
